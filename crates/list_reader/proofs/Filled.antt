-- A byte of a table filled at once has the bits of its eight nodes set, and is as those bits set one by one.
use mathlib.Core.Bool.{Bool, true, false, ◌&&◌, ◌||◌}
use mathlib.Core.List.{List, [], ◌∷◌, ◌++◌}
use mathlib.Core.Logic.{◌⊎◌, inl, inr, ◌≢◌}
use mathlib.Core.Path.{◌≡◌, refl, sym, ap, ap₂, ◌∙◌}
use Prim.Native.Nat.{ℕ, zero, suc, ◌+◌, ◌*◌, ◌-◌, ◌/◌, ◌%◌, ◌≤◌, ◌<◌}
use native.Mathlib.Omega.{arith}
use native.Mathlib.Decide.{ℕ_discrete}
use lib.Dec.{leb}
use lib.ListN.{length, get_or, set, length-set}
use lib.Seq.{get_or-set_other, get_or-set_same}
use borrow.Author.Tests.{le-leb, leb-true, lt-leb}
use Rattle.cube.specs.Cube.{bit}
use Rattle.cube.specs.Tables.{node_bit}
use Rattle.cube.proofs.Bools.{either, or_none, or_right}
use Rattle.notice.specs.Addresses.{with_bit, with_bits}
use Rattle.notice.proofs.Bits.{bits_with, length_bits}
use Rattle.spelling.specs.Laws.{Bytes}
use Rattle.spelling.specs.Spelled.{having}
use Rattle.spelling.proofs.Tables.{bytes_bits, bytes_set, same_table}
use Rattle.list_reader.specs.Front.{between}
use Rattle.list_reader.proofs.Nodes.{run_has, run_within}

-- every bit of 255 is set
full_bit : (i : ℕ) → i < 8 → bit i 255 ≡ true
unfolding bit
full_bit zero h = refl
full_bit (suc zero) h = refl
full_bit (suc (suc zero)) h = refl
full_bit (suc (suc (suc zero))) h = refl
full_bit (suc (suc (suc (suc zero)))) h = refl
full_bit (suc (suc (suc (suc (suc zero))))) h = refl
full_bit (suc (suc (suc (suc (suc (suc zero)))))) h = refl
full_bit (suc (suc (suc (suc (suc (suc (suc zero))))))) h = refl
full_bit (suc (suc (suc (suc (suc (suc (suc (suc i)))))))) h = absurd (omega arith)

module _ (t : List ℕ) (k : ℕ) (first : k % 8 ≡ 0) (h : k / 8 < length t) where
  -- the nodes of the byte are those from k to k + 7
  inside : (j : ℕ) → j / 8 ≡ k / 8 → (leb k j && leb j (k + 7)) ≡ true
  inside j e = rw (le-leb k j (omega (arith, first, e)), le-leb j (k + 7) (omega (arith, first, e)))

  outside : (j : ℕ) → j / 8 ≢ k / 8 → (leb k j && leb j (k + 7)) ≡ false
  outside j d = go (either (leb k j))
    where
      go : (leb k j ≡ true) ⊎ (leb k j ≡ false) → (leb k j && leb j (k + 7)) ≡ false
      go (inl e) = rw (e, lt-leb j (k + 7) (omega (arith, first, d, leb-true k j e)))
      go (inr e) = rw e

  filled_bit : (j : ℕ) → node_bit (set t (k / 8) 255) j ≡ (node_bit t j || (leb k j && leb j (k + 7)))
  unfolding node_bit
  filled_bit j = elim (ℕ_discrete (j / 8) (k / 8)) [
    | yes e ↦ rw (e, get_or-set_same t (k / 8) 255 0 h) (full_bit (j % 8) (omega arith)) ∙ sym (or_right (bit (j % 8) (get_or t (j / 8) 0)) (inside j e))
    | no d ↦ rw (get_or-set_other t (k / 8) (j / 8) 255 0 d) (sym (or_none (bit (j % 8) (get_or t (j / 8) 0)) (outside j d)))
  ]

  pub filled : Bytes t → set t (k / 8) 255 ≡ with_bits t (between k (k + 7))
  filled b =
      let run : List ℕ = between k (k + 7) in
      let up : k ≤ k + 7 = omega arith in
      same_table (set t (k / 8) 255) (with_bits t run) (length-set t (k / 8) 255 ∙ sym (length_bits t run)) (bytes_set t (k / 8) 255 b (omega arith))
      (bytes_bits t run b)
      (λ j l.
      filled_bit j
      ∙ sym (bits_with t k run j (run_within k (k + 7) up (8 * length t) (omega (arith, first, h)))
      ∙ ap (λ (x : Bool). node_bit t j || x) (run_has k (k + 7) up j)))

-- ---- a run in two parts

nodes_parts : (a b k : ℕ) → having (a + b) k (λ j. true) ≡ having a k (λ j. true) ++ having b (k + a) (λ j. true)
unfolding having
nodes_parts zero b k =
    let e : 0 + b ≡ b = omega arith in
    let f : k ≡ k + 0 = omega arith in
    ap₂ (λ (m i : ℕ). having m i (λ j. true)) e f
nodes_parts (suc a) b k =
    let e : suc a + b ≡ suc (a + b) = omega arith in
    let f : k + 1 + a ≡ k + suc a = omega arith in
    ap (λ (m : ℕ). having m k (λ j. true)) e
    ∙ ap (λ (l : List ℕ). k ∷ l) (nodes_parts a b (k + 1) ∙ ap (λ (i : ℕ). having a (k + 1) (λ j. true) ++ having b i (λ j. true)) f)

pub bits_then : (t l m : List ℕ) → with_bits t (l ++ m) ≡ with_bits (with_bits t l) m
unfolding with_bits
bits_then t [] m = refl
bits_then t (x ∷ l) m = bits_then (with_bit t x) l m

pub between_parts : (k hi : ℕ) → k + 7 ≤ hi → between k hi ≡ between k (k + 7) ++ between (k + 8) hi
between_parts k hi h =
    let e : hi + 1 - k ≡ 8 + (hi + 1 - (k + 8)) = omega arith in
    let f : k + 7 + 1 - k ≡ 8 = omega arith in
    ap (λ (m : ℕ). having m k (λ j. true)) e ∙ nodes_parts 8 (hi + 1 - (k + 8)) k
    ∙ ap (λ (m : ℕ). having m k (λ j. true) ++ between (k + 8) hi) (sym f)
