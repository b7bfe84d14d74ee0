-- How many numbers of k bits have m of them set: choose k m. The numbers below 2 ^ (k + 1) are those below 2 ^ k twice, without bit k and with it.
use mathlib.Core.Bool.{Bool, true, false}
use mathlib.Core.Logic.{◌⊎◌, inl, inr}
use mathlib.Core.Path.{◌≡◌, refl, sym, ap, ap₂, ◌∙◌}
use Prim.Native.Nat.{ℕ, zero, suc, ◌+◌, ◌*◌, ◌/◌, ◌%◌, ◌^◌, ◌<◌}
use native.Mathlib.Nat.{div-eq_of_lt, two-pow-succ}
use native.Mathlib.Omega.{arith}
use lib.Dec.{eqb}
use lib.Pow.{high, low}
use borrow.Author.Tests.{eq-eqb, eqb-false, eqb-true, ne_eqb}
use Rattle.cube.specs.Count.{count}
use Rattle.cube.specs.Cube.{bit}
use Rattle.cube.proofs.Bools.{either}
use Rattle.cube.proofs.Count.{count_none, count_same}
use Rattle.cube.proofs.Cube.{bit_low, bit_none, bit_shift}
use Rattle.figures.specs.Laws.{choose}
use Rattle.figures.proofs.Numbers.{bit_low_part}

-- of the numbers below a + b those below a, and those from a on
count_split : (a b : ℕ) (p : ℕ → Bool) → count (b + a) p ≡ count b (λ i. p (i + a)) + count a p
unfolding count
count_split a zero p = let z : 0 + a ≡ a = omega arith in rw z (omega arith)
count_split a (suc b) p = let z : suc b + a ≡ suc (b + a) = omega arith in rw z (omega (arith, count_split a b p))

abbrev bits : (k t : ℕ) → ℕ
bits k t = count k (λ x. bit x t)

-- bit k of a number that has q from there on
top_bit : (k t q : ℕ) → t / 2 ^ k ≡ q → bit k t ≡ bit 0 q
top_bit k t q e =
    let z : k + 0 ≡ k = omega arith in
    ap (λ (i : ℕ). bit i t) (sym z) ∙ sym (bit_shift k 0 t) ∙ ap (bit 0) e

-- without bit k
bits_low : (k t : ℕ) → t < 2 ^ k → bits (suc k) t ≡ bits k t
unfolding count
bits_low k t h = rw (top_bit k t 0 (div-eq_of_lt h) ∙ bit_none 0) (omega arith)

-- and with it
bits_high : (k t : ℕ) → t < 2 ^ k → bits (suc k) (t + 2 ^ k) ≡ suc (bits k t)
unfolding count
bits_high k t h =
    let one : t + 2 ^ k ≡ 1 * 2 ^ k + t = omega arith in
    let top : bit k (t + 2 ^ k) ≡ true = top_bit k (t + 2 ^ k) 1 (ap (λ (x : ℕ). x / 2 ^ k) one ∙ high 1 k h) ∙ bit_low 1 in
    let rest : (t + 2 ^ k) % 2 ^ k ≡ t = ap (λ (x : ℕ). x % 2 ^ k) one ∙ low 1 k h in
    let same = count_same k (λ x. bit x (t + 2 ^ k)) (λ x. bit x t) (λ x l. sym (bit_low_part k x (t + 2 ^ k) l) ∙ ap (bit x) rest) in
    rw top (omega (arith, same))

choose_none : (k : ℕ) → choose k 0 ≡ 1
unfolding choose
choose_none zero = refl
choose_none (suc k) = refl

suc_eqb : (a m : ℕ) → eqb (suc a) (suc m) ≡ eqb a m
suc_eqb a m = go (either (eqb a m))
  where
    go : (eqb a m ≡ true) ⊎ (eqb a m ≡ false) → eqb (suc a) (suc m) ≡ eqb a m
    go (inl e) = eq-eqb (suc a) (suc m) (ap suc (eqb-true a m e)) ∙ sym e
    go (inr e) = ne_eqb (suc a) (suc m) (λ z. omega (arith, eqb-false a m e)) ∙ sym e

pub count_chosen : (k m : ℕ) → count (2 ^ k) (λ t. eqb (bits k t) m) ≡ choose k m
unfolding choose count
count_chosen zero zero = refl
count_chosen zero (suc m) = count_none 1 (λ t. eqb (bits 0 t) (suc m)) (λ t _. ne_eqb 0 (suc m) (λ z. omega arith))
count_chosen (suc k) zero =
    rw (two-pow-succ k) (count_split (2 ^ k) (2 ^ k) (λ t. eqb (bits (suc k) t) 0)
    ∙ ap₂ (λ (x y : ℕ). x + y)
    (count_none (2 ^ k) (λ t. eqb (bits (suc k) (t + 2 ^ k)) 0) (λ t h. ne_eqb (bits (suc k) (t + 2 ^ k)) 0 (λ z. omega (arith, bits_high k t h))))
    (count_same (2 ^ k) _ _ (λ t h. ap (λ (x : ℕ). eqb x 0) (bits_low k t h)) ∙ count_chosen k 0 ∙ choose_none k))
count_chosen (suc k) (suc m) =
    rw (two-pow-succ k) (count_split (2 ^ k) (2 ^ k) (λ t. eqb (bits (suc k) t) (suc m))
    ∙ ap₂ (λ (x y : ℕ). x + y)
    (count_same (2 ^ k) _ _ (λ t h. ap (λ (x : ℕ). eqb x (suc m)) (bits_high k t h) ∙ suc_eqb (bits k t) m) ∙ count_chosen k m)
    (count_same (2 ^ k) _ _ (λ t h. ap (λ (x : ℕ). eqb x (suc m)) (bits_low k t h)) ∙ count_chosen k (suc m)))
