-- How labelling's loop is proved. Before each sweep the table stands as after r rounds (Stands), each of which marked something new, and the exchange
-- that is under way is number r + 1 (Turn).
--
-- A turn: the sweep writes 128 at the nodes that round r + 1 marks (swept-byte), and answers how many. Where it is not 0, round r + 1 marked something,
-- so there are r + 1 rounds that did, and never more than working nodes (round-bound): the loop ends. Settling makes 2 of each 128, and the table stands
-- as after r + 1 rounds (round-done).
--
-- The end: where the sweep answers 0, round r + 1 is quiet, r rounds marked something new (end-rounds), and r + 1 is the number of exchanges
-- (end-exchanges). Nothing was written, so the table still stands as after r rounds (same). A node that does not work gets its own byte, one of byte 2
-- with a neighbour of byte 0 becomes 1, and the bytes are the labels (end-labels).
use mathlib.Core.Path.{◌≡◌, sym, ap, ◌∙◌}
use mathlib.Core.Logic.{◌⊎◌, inl, inr, ⊎_elim}
use mathlib.Core.Bool.{true, false, not, ◌||◌}
use mathlib.Core.List.{List}
use Prim.Native.Nat.{ℕ, suc, ◌+◌, ◌^◌, ◌≤◌, ◌<◌}
use native.Mathlib.Numerals.{add-one}
use native.Mathlib.Omega.{arith}
use lib.ListN.{length, get_or}
use borrow.Author.Tests.{eq-eqb, ne_eqb}
use Rattle.cube.specs.Count.{count, some}
use Rattle.cube.specs.Cube.{flip}
use Rattle.cube.specs.Tables.{tab, label_in}
use Rattle.cube.proofs.Bools.{either, or_left, or_right}
use Rattle.cube.proofs.Count.{below_suc, none_counted}
use Rattle.cube.proofs.Search.{some_same}
use Rattle.cube.proofs.Cube.{flip_lt}
use Rattle.cube.proofs.Front.{length_tab, get_d_tab, tab_cong}
use Rattle.rule.specs.Cabinet.{Cabinet, exchanges_of, labels_of, out, out_byte}
use Rattle.rule.specs.Rule.{quiet, working, rounds, exchanges, safe, label_of, label}
use Rattle.rule.proofs.Rounds.{marked_suc, newly_says, loud_le, rounds_is}
use Rattle.passes.specs.Passes.{plain_in, fresh, held, ordinary, swept, settled, finished}
use Rattle.passes.proofs.Marking.{swept_new, swept_old}
use Rattle.passes.proofs.Standing.{marks, new, held_out, held_mark, held_plain, Stands, byte}
use Rattle.passes.proofs.Standing.{Kind, is-out, is_mark, is_plain, kind, fresh_is, marks_are, out_is, mark_is, plain_is}

-- where a turn begins: so many rounds are over, and the exchange that is counted last is under way
pub record Turn (K : Cabinet) (l : List ℕ) (counted : ℕ) : Type 0 where
  pub over : ℕ
  pub next : counted ≡ over + 1
  pub stands : Stands K l over

settle_new : (l : List ℕ) (x : ℕ) → label_in l x ≡ 128 → settled l x ≡ 2
unfolding settled
settle_new l x e = rw (eq-eqb (label_in l x) 128 e)

settle_not : (l : List ℕ) (x b : ℕ) → label_in l x ≡ b → (b ≡ 128 → ⊥) → settled l x ≡ b
unfolding settled
settle_not l x b e d = rw (e, ne_eqb b 128 d)

module _ (K : Cabinet) (l : List ℕ) (r : ℕ) (T : Stands K l r) where
  abbrev n : ℕ
  n = K.n

  -- the last pass, where the rounds have come to rest
  end_byte : rounds n K.rule (out K) ≡ r → (x : ℕ) → x < 2 ^ n → finished n (out_byte K) l x ≡ label n K.rule (out K) (out_byte K) x
  unfolding finished ordinary label label_of safe
  end_byte e x h = rw e (go (kind K l r T x h))
    where
      near : some n (λ i. plain_in l (flip i x)) ≡ some n (λ i. not (out K (flip i x) || marks K r (flip i x)))
      near =
          some_same n (λ i. plain_in l (flip i x)) (λ i. not (out K (flip i x) || marks K r (flip i x)))
          (λ i m. plain_is K l r T (flip i x) (flip_lt n i x m h))

      go : Kind K l r T x → finished n (out_byte K) l x ≡ label_of n (out K) (out_byte K) (λ y. not (out K y || marks K r y)) x
      go (is-out a b e) = rw (out_is K l r T x h, a)
      go (is_mark a b e) = rw (out_is K l r T x h, a, mark_is K l r T x h, b, near, e)
      go (is_plain a b e) = rw (out_is K l r T x h, a, mark_is K l r T x h, b, e)

module _ (K : Cabinet) (l : List ℕ) (r : ℕ) (T : Stands K l r) where
  abbrev size : ℕ
  size = 2 ^ K.n

  -- what the round leaves
  abbrev after : ℕ → ℕ
  after = swept K.n K.rule l

  -- the sweep answered m and left the table l₁
  module _ (m : ℕ) (l₁ : List ℕ) (em : m ≡ count size (fresh K.n K.rule l)) (e₁ : l₁ ≡ tab size after) where
    pub swept_length : length l₁ ≡ size
    swept_length = ap length e₁ ∙ length_tab size after

    pub swept_byte : (x : ℕ) → x < size → label_in l₁ x ≡ after x
    unfolding label_in
    swept_byte x h = ap (λ (t : List ℕ). get_or t x 0) e₁ ∙ get_d_tab size after x h

    -- ---- a turn

    settled_is : (x : ℕ) → x < size → settled l₁ x ≡ held K (suc r) x
    settled_is x h = go (either (new K r x)) (kind K l r T x h)
      where
        marks_on : marks K (suc r) x ≡ (marks K r x || new K r x)
        marks_on = marked_suc K.n K.rule (out K) r x

        marked_now : new K r x ≡ true → label_in l₁ x ≡ 128
        marked_now t = swept_byte x h ∙ swept_new K.n K.rule l x (fresh_is K l r T x h ∙ t)

        old : new K r x ≡ false → label_in l₁ x ≡ label_in l x
        old t = swept_byte x h ∙ swept_old K.n K.rule l x (fresh_is K l r T x h ∙ t)

        go : (new K r x ≡ true) ⊎ (new K r x ≡ false) → Kind K l r T x → settled l₁ x ≡ held K (suc r) x
        go (inl t) _ =
            settle_new l₁ x (marked_now t)
            ∙ sym (held_mark K (suc r) x (newly_says K.n K.rule (out K) (marks K r) x t).0 (marks_on ∙ or_right (marks K r x) t))
        go (inr t) (is-out a b e) = settle_not l₁ x 3 (old t ∙ e) (λ q. omega arith) ∙ sym (held_out K (suc r) x a)
        go (inr t) (is_mark a b e) =
            settle_not l₁ x 2 (old t ∙ e) (λ q. omega arith) ∙ sym (held_mark K (suc r) x a (marks_on ∙ or_left (new K r x) b))
        go (inr t) (is_plain a b e) = settle_not l₁ x 0 (old t ∙ e) (λ q. omega arith) ∙ sym (held_plain K (suc r) x a (marks_on ∙ rw (b, t)))

    module _ (some-new : m ≡ 0 → ⊥) where
      pub still_loud : (j : ℕ) → j < r + 1 → quiet K.n K.rule (out K) j ≡ false
      unfolding quiet
      still_loud j h =
          ⊎_elim
          (λ (q : j ≡ r). rw q (ne_eqb (count size (new K r)) 0 (λ z. some-new (em ∙ marks_are K l r T ∙ z))))
          (λ (q : j < r). T.loud j q)
          (below_suc (omega arith))

      pub round_bound : r + 1 ≤ working K.n (out K)
      round_bound = loud_le K.n K.rule (out K) (r + 1) still_loud

      pub round_done : (l₂ : List ℕ) → l₂ ≡ tab (length l₁) (settled l₁) → Stands K l₂ (r + 1)
      round_done l₂ e₂ =
          record {
            table = e₂ ∙ ap (λ (z : ℕ). tab z (settled l₁)) swept_length
                ∙ tab_cong size (settled l₁) (held K (r + 1)) (λ x h. settled_is x h ∙ ap (λ (z : ℕ). held K z x) (sym (add-one r)));
            loud = still_loud;
          }

    -- ---- the end

    module _ (none_new : m ≡ 0) where
      pub end_rounds : rounds K.n K.rule (out K) ≡ r
      unfolding quiet
      end_rounds =
          rounds_is K.n K.rule (out K) r T.loud (eq-eqb (count size (new K r)) 0 (sym (em ∙ marks_are K l r T) ∙ none_new))

      pub end_exchanges : exchanges_of K ≡ r + 1
      unfolding exchanges_of exchanges
      end_exchanges = ap (λ (z : ℕ). z + 1) end_rounds

      same : Stands K l₁ r
      same = record { table = e₁ ∙ tab_cong size after (held K r) kept; loud = T.loud }
        where
          kept : (x : ℕ) → x < size → after x ≡ held K r x
          kept x h =
              swept_old K.n K.rule l x (none_counted size (fresh K.n K.rule l) (sym em ∙ none_new) x h) ∙ byte K l r T x h

      pub end_labels : (l₂ : List ℕ) → l₂ ≡ tab size (finished K.n (out_byte K) l₁) → l₂ ≡ labels_of K
      unfolding labels_of
      end_labels l₂ e₂ =
          e₂ ∙ tab_cong size (finished K.n (out_byte K) l₁) (label K.n K.rule (out K) (out_byte K)) (end_byte K l₁ r same end_rounds)
