-- The second reading of an entry tests nothing: of an entry that was taken, the byte behind the digits at its front tells the last node and the bytes.
use mathlib.Core.Bool.{true, false, cond, not, ◌&&◌}
use mathlib.Core.List.{List, [], ◌∷◌}
use mathlib.Core.Logic.{◌≢◌}
use mathlib.Core.Path.{◌≡◌, refl, sym, ap, subst, ◌∙◌}
use Prim.Native.Nat.{ℕ, ◌+◌, ◌≤◌, ◌<◌}
use native.Mathlib.Omega.{arith}
use lib.Dec.{eqb, ltb}
use lib.ListN.{length, get_or, drop, length-drop}
use lib.Seq.{drop-drop, get_or-drop}
use borrow.Author.Tests.{eq-eqb, eqb-false, eqb-true, le-ltb, lt-ltb, ne_eqb}
use Rattle.cube.proofs.Bools.{by_cases}
use Rattle.list_reader.specs.Front.{Entry, a_run, above, bytes_at, capped, closing, dashed, entry_at, entry_on, front, high_at, lead, range_on}
use Rattle.std.specs.Prelude.{Some, None}
use Rattle.ranges.specs.Grammar.{comma, dash, no_zero, value}
use Rattle.list_reader.proofs.Fronts.{front_length, lead_within}
use Rattle.list_reader.proofs.Parts.{and_none}

-- ---- by the byte behind the digits

module _ (s : List ℕ) (e : dashed s ≡ false) where
  pub high_alone : high_at s ≡ capped (value (front s))
  unfolding high_at
  high_alone = rw e

  pub bytes_alone : bytes_at s ≡ lead s
  unfolding bytes_at
  bytes_alone = rw e

module _ (s : List ℕ) (e : dashed s ≡ true) where
  pub high_dashed : high_at s ≡ capped (value (front (drop (lead s + 1) s)))
  unfolding high_at
  high_dashed = rw e

  pub bytes_dashed : bytes_at s ≡ lead s + 1 + lead (drop (lead s + 1) s)
  unfolding bytes_at
  bytes_dashed = rw e

module _ (s : List ℕ) where
  pub dash_there : lead s < length s → get_or s (lead s) 0 ≡ dash → dashed s ≡ true
  unfolding dashed
  dash_there h e = rw (lt-ltb (lead s) (length s) h, eq-eqb (get_or s (lead s) 0) dash e)

  pub dash_none : length s ≤ lead s → dashed s ≡ false
  unfolding dashed
  dash_none h = rw (le-ltb (lead s) (length s) h)

  pub dash_other : get_or s (lead s) 0 ≢ dash → dashed s ≡ false
  unfolding dashed
  dash_other d = rw (ne_eqb (get_or s (lead s) 0) dash d) (and_none (ltb (lead s) (length s)))

-- ---- of an entry that was taken

pub record Again (s : List ℕ) (lo hi next : ℕ) : Type 0 where
  pub low_is : lo ≡ capped (value (front s))
  pub high_is : hi ≡ high_at s
  pub within : bytes_at s ≤ length s
  pub next_is : next ≡ cond (ltb (bytes_at s) (length s)) (bytes_at s + 1) (bytes_at s)

abbrev Known : List ℕ → Entry → Type 0
Known s (Some r) = Again s r.low r.high r.bytes
Known s None = Unit {0}

-- closed behind its bytes, with what is left behind them
known_closed : (s : List ℕ) (end lo hi : ℕ) (left : List ℕ) → lo ≡ capped (value (front s)) → hi ≡ high_at s → end ≡ bytes_at s → length s ≡ end + length left
    → Known s (closing end lo hi left)
unfolding closing
known_closed s end lo hi [] l h b sum =
    record { low_is = l; high_is = h; within = omega (arith, b, sum); next_is = rw (le-ltb (bytes_at s) (length s) (omega (arith, b, sum))) b }
known_closed s end lo hi (x ∷ []) l h b sum = tt
known_closed s end lo hi (x ∷ y ∷ left) l h b sum =
    by_cases (Known s) (eqb x comma)
    (λ e.
    record {
      low_is = l;
      high_is = h;
      within = omega (arith, b, sum);
      next_is = rw (lt-ltb (bytes_at s) (length s) (omega (arith, b, sum))) (ap (λ (k : ℕ). k + 1) b);
    })
    (λ e. tt)

module _ (s : List ℕ) where
  length_sum : length s ≡ lead s + length (drop (lead s) s)
  length_sum = omega (arith, length-drop (lead s) s, lead_within s)

  -- what is left behind the digits begins with x
  module _ (x : ℕ) (l : List ℕ) (e : drop (lead s) s ≡ x ∷ l) where
    byte_is : get_or s (lead s) 0 ≡ x
    byte_is =
        let zero_more : lead s + 0 ≡ lead s = omega arith in
        ap (λ (k : ℕ). get_or s k 0) (sym zero_more) ∙ sym (get_or-drop (lead s) s 0 0) ∙ ap (λ (t : List ℕ). get_or t 0 0) e

    left_is : drop (lead s + 1) s ≡ l
    left_is = sym (drop-drop 1 (lead s) s) ∙ ap (drop 1) e

    known_dashed : x ≡ dash → Known s (range_on (front s) l)
    unfolding range_on
    known_dashed d =
        let there : dashed s ≡ true = dash_there s (omega (arith, length_sum, ap length e)) (byte_is ∙ d) in
        by_cases (Known s) (no_zero (front l) && not (above (front s) (front l)))
        (λ q.
        known_closed s (length (front s) + 1 + lead l) (capped (value (front s))) (capped (value (front l))) (drop (lead l) l) refl
        (sym (high_dashed s there ∙ ap (λ (t : List ℕ). capped (value (front t))) left_is))
        (sym (bytes_dashed s there ∙ omega (arith, front_length s, ap lead left_is)))
        (omega (arith, length_sum, ap length e, front_length s, length-drop (lead l) l, lead_within l)))
        (λ q. tt)

    known_other : x ≢ dash → Known s (closing (length (front s)) (capped (value (front s))) (capped (value (front s))) (x ∷ l))
    known_other d =
        let none : dashed s ≡ false = dash_other s (λ q. d (sym byte_is ∙ q)) in
        known_closed s (length (front s)) (capped (value (front s))) (capped (value (front s))) (x ∷ l) refl (sym (high_alone s none))
        (front_length s ∙ sym (bytes_alone s none)) (omega (arith, length_sum, ap length e, front_length s))

  known_on : (left : List ℕ) → drop (lead s) s ≡ left → Known s (entry_on (front s) left)
  unfolding entry_on
  known_on [] e =
      let none : dashed s ≡ false = dash_none s (omega (arith, length_sum, ap length e)) in
      known_closed s (length (front s)) (capped (value (front s))) (capped (value (front s))) [] refl (sym (high_alone s none))
      (front_length s ∙ sym (bytes_alone s none)) (omega (arith, length_sum, ap length e, front_length s))
  known_on (x ∷ l) e =
      by_cases (Known s) (eqb x dash) (λ q. known_dashed x l e (eqb-true x dash q)) (λ q. known_other x l e (eqb-false x dash q))

  known : Known s (entry_at s)
  unfolding entry_at
  known = by_cases (Known s) (no_zero (front s)) (λ e. known_on (drop (lead s) s) refl) (λ e. tt)

  pub again : {lo hi next : ℕ} → a_run lo hi next ≡ entry_at s → Again s lo hi next
  again e = subst (Known s) (sym e) known
