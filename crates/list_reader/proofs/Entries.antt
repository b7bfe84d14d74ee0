-- What is taken at the front of a text is its first part, an entry, and the rest of the text has the other parts; and where nothing is taken, the text does not
-- keep the rules.
use mathlib.Core.Bool.{true, false, not, ◌&&◌}
use mathlib.Core.List.{List, [], ◌∷◌, ◌++◌, append_assoc, append-nil}
use mathlib.Core.Logic.{◌⊎◌, inl, inr, ⊎_elim}
use mathlib.Core.Path.{◌≡◌, refl, sym, ap, subst, ◌∙◌}
use Prim.Native.Nat.{ℕ, ◌+◌, ◌≤◌, ◌<◌}
use native.Mathlib.Omega.{arith}
use lib.Dec.{eqb}
use lib.ListN.{length, drop, length-append, length-drop, take-append-drop}
use lib.Seq.{drop-append-add}
use borrow.Author.Tests.{eqb-true}
use Rattle.cube.proofs.Bools.{either, by_cases, clash}
use Rattle.list_reader.specs.Front.{Entry, above, capped, closing, entry_at, entry_on, front, lead, range_on}
use Rattle.std.specs.Prelude.{Some, None}
use Rattle.ranges.specs.Grammar.{all_digits, comma, dash, every, high, is_entry, is_list, low, no_zero, parts_of, split, value}
use Rattle.list_reader.proofs.Order.{in_order}
use Rattle.ranges.proofs.Decimal.{digits_lack}
use Rattle.ranges.proofs.Split.{lacks, lacks_both, parts, split_alone}
use Rattle.list_reader.proofs.Parts.{and_none, lone_entry, lone_high, lone_low, odd_entry, odd_range, range_entry, range_high, range_low}
use Rattle.list_reader.proofs.Parts.{split_behind, split_more, zero_entry}
use Rattle.list_reader.proofs.Fronts.{behind_stops, digits_none, front_digits, front_length, stop_digit, stops}

-- ---- what is taken there

pub record Taken (s : List ℕ) (lo hi next : ℕ) : Type 0 where
  pub part : List ℕ
  pub parts : parts_of s ≡ part ∷ parts_of (drop next s)
  pub entry : is_entry part ≡ true
  pub low_is : lo ≡ capped (low part)
  pub high_is : hi ≡ capped (high part)
  pub some : 0 < next
  pub within : next ≤ length s

abbrev pub Judged : List ℕ → Entry → Type 0
Judged s (Some r) = Taken s r.low r.high r.bytes
Judged s None = is_list s ≡ false

-- ---- parts of a text that has some

comma_last : (w : List ℕ) → w ∷ split comma [] ≡ w ∷ [] ∷ []
unfolding split
comma_last w = refl

some_parts : (s : List ℕ) → 0 < length s → parts_of s ≡ split comma s
unfolding parts_of
some_parts [] h = absurd (omega arith)
some_parts (x ∷ s) h = refl

no_parts : (s : List ℕ) → length s ≡ 0 → parts_of s ≡ []
unfolding parts_of
no_parts [] e = refl
no_parts (x ∷ s) e = absurd (omega arith)

not_first : (s p : List ℕ) (more : List (List ℕ)) → 0 < length s → split comma s ≡ p ∷ more → is_entry p ≡ false → is_list s ≡ false
unfolding is_list every
not_first s p more h e bad = ap (every is_entry) (some_parts s h ∙ e) ∙ rw bad

not_second : (s p q : List ℕ) (more : List (List ℕ)) → 0 < length s → split comma s ≡ p ∷ q ∷ more → is_entry q ≡ false → is_list s ≡ false
unfolding is_list every
not_second s p q more h e bad = ap (every is_entry) (some_parts s h ∙ e) ∙ rw bad (and_none (is_entry p))

no_entry : is_entry [] ≡ false
unfolding no_zero
no_entry = lone_entry [] digits_none

-- ---- bytes w without a comma, and what is left behind them

-- w is no entry with the byte behind it, whatever follows
abbrev Odd : (w left : List ℕ) → Type 0
Odd w [] = Unit {0}
Odd w (x ∷ s) = (t : List ℕ) → is_entry (w ++ x ∷ t) ≡ false

module _ (w : List ℕ) (plain : lacks comma w ≡ true) where
  -- then the text keeps the rules only where w is an entry
  not_closed : (left : List ℕ) → 0 < length (w ++ left) → is_entry w ≡ false → Odd w left → is_list (w ++ left) ≡ false
  not_closed [] h bad odd = not_first (w ++ []) w [] h (ap (split comma) (append-nil w) ∙ split_alone comma w plain) bad
  not_closed (x ∷ s) h bad odd = go (either (eqb x comma))
    where
      go : (eqb x comma ≡ true) ⊎ (eqb x comma ≡ false) → is_list (w ++ x ∷ s) ≡ false
      go (inl e) = not_first (w ++ x ∷ s) w (split comma s) h (split_behind comma w x s plain e) bad
      go (inr e) = let p = parts comma s in not_first (w ++ x ∷ s) (w ++ x ∷ p.head) p.more h (split_more comma w x s plain e) (odd p.head)

  -- and where it is one, it is closed or not by what is left
  module _ (some : 0 < length w) (good : is_entry w ≡ true) (lo hi : ℕ) (lo-is : lo ≡ capped (low w)) (hi-is : hi ≡ capped (high w)) where
    closed_end : Taken w lo hi (length w)
    closed_end =
        record {
          part = w;
          parts =
              some_parts w some ∙ split_alone comma w plain
              ∙ ap (λ (ps : List (List ℕ)). w ∷ ps) (sym (no_parts (drop (length w) w) (omega (arith, length-drop (length w) w))));
          entry = good;
          low_is = lo-is;
          high_is = hi-is;
          some = some;
          within = omega arith;
        }

    closed_comma : (x y : ℕ) (s : List ℕ) → eqb x comma ≡ true → Taken (w ++ x ∷ y ∷ s) lo hi (length w + 1)
    closed_comma x y s e =
        let l = length-append w (x ∷ y ∷ s) in
        let left : drop (length w + 1) (w ++ x ∷ y ∷ s) ≡ y ∷ s = drop-append-add w (x ∷ y ∷ s) 1 in
        record {
          part = w;
          parts =
              some_parts (w ++ x ∷ y ∷ s) (omega (arith, l)) ∙ split_behind comma w x (y ∷ s) plain e
              ∙ ap (λ (ps : List (List ℕ)). w ∷ ps) (sym (some_parts (y ∷ s) (omega arith)) ∙ ap parts_of (sym left));
          entry = good;
          low_is = lo-is;
          high_is = hi-is;
          some = omega arith;
          within = omega (arith, l);
        }

    -- a byte behind w that is no comma, or a comma with nothing behind it
    odd_byte : (x : ℕ) (s : List ℕ) → Odd w (x ∷ s) → eqb x comma ≡ false → is_list (w ++ x ∷ s) ≡ false
    odd_byte x s odd e =
        let p = parts comma s in
        not_first (w ++ x ∷ s) (w ++ x ∷ p.head) p.more (omega (arith, length-append w (x ∷ s))) (split_more comma w x s plain e) (odd p.head)

    last_comma : (x : ℕ) → eqb x comma ≡ true → is_list (w ++ x ∷ []) ≡ false
    last_comma x e =
        not_second (w ++ x ∷ []) w [] [] (omega (arith, length-append w (x ∷ []))) (split_behind comma w x [] plain e ∙ comma_last w) no_entry

    closed : (left : List ℕ) → Odd w left → Judged (w ++ left) (closing (length w) lo hi left)
    unfolding closing
    closed [] odd = subst (λ (s : List ℕ). Taken s lo hi (length w)) (sym (append-nil w)) closed_end
    closed (x ∷ []) odd = ⊎_elim (λ (e : eqb x comma ≡ true). last_comma x e) (λ (e : eqb x comma ≡ false). odd_byte x [] odd e) (either (eqb x comma))
    closed (x ∷ y ∷ s) odd =
        by_cases (Judged (w ++ x ∷ y ∷ s)) (eqb x comma) (λ e. closed_comma x y s e) (λ e. odd_byte x (y ∷ s) odd e)

-- ---- a number, and what is left behind it

digits_plain : (a : List ℕ) → all_digits a ≡ true → lacks comma a ≡ true
digits_plain a e = digits_lack comma a (omega arith) e

dash_plain : lacks comma (dash ∷ []) ≡ true
unfolding lacks
dash_plain = refl

some_number : (a : List ℕ) → no_zero a ≡ true → 0 < length a
unfolding no_zero
some_number [] e = absurd (clash e refl)
some_number (x ∷ a) e = omega arith

odd_behind : (a left : List ℕ) → all_digits a ≡ true → stops left ≡ true → ((s : List ℕ) → is_entry (a ++ dash ∷ s) ≡ false) → Odd a left
odd_behind a [] ea stop dashed = tt
odd_behind a (x ∷ s) ea stop dashed = λ t. go t (either (eqb x dash))
  where
    go : (t : List ℕ) → (eqb x dash ≡ true) ⊎ (eqb x dash ≡ false) → is_entry (a ++ x ∷ t) ≡ false
    go t (inl e) = ap (λ (y : ℕ). is_entry (a ++ y ∷ t)) (eqb-true x dash e) ∙ dashed t
    go t (inr e) = odd_entry a ea x t (stop_digit x s stop) e

module _ (a : List ℕ) (ea : all_digits a ≡ true) (za : no_zero a ≡ true) where
  abbrev v : ℕ
  v = capped (value a)

  -- alone
  lone : (left : List ℕ) → Odd a left → Judged (a ++ left) (closing (length a) v v left)
  lone left odd =
      closed a (digits_plain a ea) (some_number a za) (lone_entry a ea ∙ za) v v (ap capped (sym (lone_low a ea))) (ap capped (sym (lone_high a ea))) left odd

  -- with a dash behind it
  module _ (left : List ℕ) where
    abbrev b : List ℕ
    b = front left

    abbrev w : List ℕ
    w = a ++ dash ∷ b

    abbrev rest : List ℕ
    rest = drop (lead left) left

    range_plain : lacks comma w ≡ true
    range_plain =
        lacks_both comma a (dash ∷ b) (digits_plain a ea) (lacks_both comma (dash ∷ []) b dash_plain (digits_plain b (front_digits left)))

    range_odd : (s : List ℕ) → stops s ≡ true → Odd w s
    range_odd [] stop = tt
    range_odd (x ∷ s) stop = λ t. odd_range a ea b (front_digits left) x t (stop_digit x s stop)

    whole : w ++ rest ≡ a ++ dash ∷ left
    whole = append_assoc a (dash ∷ b) rest ∙ ap (λ (s : List ℕ). a ++ dash ∷ s) (take-append-drop (lead left) left)

    range_length : length w ≡ length a + 1 + lead left
    range_length = omega (arith, length-append a (dash ∷ b), front_length left)

    -- both are numbers, and the second is not below the first
    range_good : is_entry w ≡ (no_zero b && not (above a b))
    range_good = range_entry a ea b (front_digits left) ∙ rw za (sym (in_order a b ea za (front_digits left)))

    range : Judged (a ++ dash ∷ left) (range_on a left)
    unfolding range_on
    range =
        let eb = front_digits left in
        let some : 0 < length w = omega (arith, range_length) in
        let odd = range_odd rest (behind_stops left) in
        by_cases (Judged (a ++ dash ∷ left)) (no_zero b && not (above a b))
        (λ e.
        rw (sym whole, sym range_length)
        (closed w range_plain some (range_good ∙ e) v (capped (value b)) (ap capped (sym (range_low a ea b eb))) (ap capped (sym (range_high a ea b eb)))
        rest odd))
        (λ e. rw (sym whole) (not_closed w range_plain rest (omega (arith, some, length-append w rest)) (range_good ∙ e) odd))

  pub after_number : (left : List ℕ) → stops left ≡ true → Judged (a ++ left) (entry_on a left)
  unfolding entry_on
  after_number [] stop = lone [] tt
  after_number (x ∷ left) stop =
      by_cases (Judged (a ++ x ∷ left)) (eqb x dash)
      (λ e. subst (λ (y : ℕ). Judged (a ++ y ∷ left) (range_on a left)) (sym (eqb-true x dash e)) (range left))
      (λ e. lone (x ∷ left) (λ t. odd_entry a ea x t (stop_digit x left stop) e))

-- ---- any text but the empty one

pub judged : (s : List ℕ) → 0 < length s → Judged s (entry_at s)
unfolding entry_at
judged s h =
    let a = front s in
    let left = drop (lead s) s in
    let ea = front_digits s in
    let whole : a ++ left ≡ s = take-append-drop (lead s) s in
    by_cases (Judged s) (no_zero a)
    (λ e. subst (λ (t : List ℕ). Judged t (entry_on a left)) whole (after_number a ea e left (behind_stops s)))
    (λ e.
    subst (λ (t : List ℕ). is_list t ≡ false) whole
    (not_closed a (digits_plain a ea) left (omega (arith, ap length whole)) (lone_entry a ea ∙ e)
    (odd_behind a left ea (behind_stops s) (λ t. zero_entry a ea t e))))
