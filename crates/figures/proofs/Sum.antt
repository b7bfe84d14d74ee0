-- Laws of sums: two of them may change places, a count is one, and so is a sum in which each term is taken or left.
use mathlib.Core.Bool.{Bool, true, false, cond, not}
use mathlib.Core.Logic.{◌⊎◌, inl, inr}
use mathlib.Core.Path.{◌≡◌, refl, sym, ap, ap₂, ◌∙◌}
use Prim.Native.Nat.{ℕ, zero, suc, ◌+◌, ◌*◌, ◌≤◌, ◌<◌}
use native.Mathlib.Nat.{add-mul, suc-mul, zero-mul}
use native.Mathlib.Omega.{arith}
use lib.Dec.{eqb}
use borrow.Author.Tests.{eqb-true, eqb-false, ne_eqb}
use Rattle.cube.specs.Count.{count}
use Rattle.cube.proofs.Bools.{either}
use Rattle.figures.specs.Sum.{sum}

pub sum_zero : (f : ℕ → ℕ) → sum 0 f ≡ 0
unfolding sum
sum_zero f = refl

pub sum_next : (n : ℕ) (f : ℕ → ℕ) → sum (n + 1) f ≡ sum n f + f n
unfolding sum
sum_next n f = let z : n + 1 ≡ suc n = omega arith in rw z (omega arith)

pub sum_same : (n : ℕ) (f g : ℕ → ℕ) → ((i : ℕ) → i < n → f i ≡ g i) → sum n f ≡ sum n g
unfolding sum
sum_same zero f g h = refl
sum_same (suc n) f g h = ap₂ (λ (a b : ℕ). a + b) (h n (omega arith)) (sum_same n f g (λ i l. h i (omega arith)))

pub sum_plus : (n : ℕ) (f g : ℕ → ℕ) → sum n (λ i. f i + g i) ≡ sum n f + sum n g
unfolding sum
sum_plus zero f g = refl
sum_plus (suc n) f g = omega (arith, sum_plus n f g)

pub sum_none : (n : ℕ) (f : ℕ → ℕ) → ((i : ℕ) → i < n → f i ≡ 0) → sum n f ≡ 0
unfolding sum
sum_none zero f h = refl
sum_none (suc n) f h = omega (arith, h n (omega arith), sum_none n f (λ i l. h i (omega arith)))

pub sum_const : (n b : ℕ) → sum n (λ _. b) ≡ n * b
unfolding sum
sum_const zero b = sym (zero-mul b)
sum_const (suc n) b = omega (arith, sum_const n b, suc-mul n b)

pub sum_bound : (n b : ℕ) (f : ℕ → ℕ) → ((i : ℕ) → i < n → f i ≤ b) → sum n f ≤ n * b
unfolding sum
sum_bound zero b f h = omega arith
sum_bound (suc n) b f h = omega (arith, suc-mul n b, h n (omega arith), sum_bound n b f (λ i l. h i (omega arith)))

pub sum_swap : (n m : ℕ) (f : ℕ → ℕ → ℕ) → sum n (λ i. sum m (λ j. f i j)) ≡ sum m (λ j. sum n (λ i. f i j))
unfolding sum
sum_swap zero m f = sym (sum_none m (λ _. 0) (λ _ _. refl))
sum_swap (suc n) m f = ap (λ (x : ℕ). sum m (f n) + x) (sum_swap n m f) ∙ sym (sum_plus m (f n) (λ j. sum n (λ i. f i j)))

-- ---- counts

pub count_is_sum : (n : ℕ) (p : ℕ → Bool) → count n p ≡ sum n (λ i. cond (p i) 1 0)
unfolding count sum
count_is_sum zero p = refl
count_is_sum (suc n) p = ap (λ (x : ℕ). cond (p n) 1 0 + x) (count_is_sum n p)

-- those that have p, and those that have not
pub count_not : (n : ℕ) (p : ℕ → Bool) → count n (λ i. not (p i)) + count n p ≡ n
unfolding count
count_not zero p = refl
count_not (suc n) p = go (p n) (count_not n p)
  where
    go : (q : Bool) → count n (λ i. not (p i)) + count n p ≡ n → cond (not q) 1 0 + count n (λ i. not (p i)) + (cond q 1 0 + count n p) ≡ suc n
    go true e = omega (arith, e)
    go false e = omega (arith, e)

-- a term of b for each that is counted
pub sum_counted : (n b : ℕ) (p : ℕ → Bool) → sum n (λ i. cond (p i) b 0) ≡ count n p * b
unfolding count sum
sum_counted zero b p = sym (zero-mul b)
sum_counted (suc n) b p = taken (p n) (sum n (λ i. cond (p i) b 0)) (count n p) (sum_counted n b p)
  where
    taken : (q : Bool) (x y : ℕ) → x ≡ y * b → cond q b 0 + x ≡ (cond q 1 0 + y) * b
    taken true x y e = omega (arith, e, add-mul 1 y b)
    taken false x y e = let z : y ≡ 0 + y = omega arith in omega (arith, e, ap (λ (k : ℕ). k * b) z)

-- of the numbers below n just one is v, where v is below n
pub sum_one : (n v : ℕ) → v < n → sum n (λ m. cond (eqb v m) 1 0) ≡ 1
unfolding sum
sum_one zero v h = absurd (omega arith)
sum_one (suc n) v h = go (either (eqb v n)) (sum_one n v)
  where
    go : (eqb v n ≡ true) ⊎ (eqb v n ≡ false) → (v < n → sum n (λ m. cond (eqb v m) 1 0) ≡ 1) → cond (eqb v n) 1 0 + sum n (λ m. cond (eqb v m) 1 0) ≡ 1
    go (inl e) _ =
        let others = sum_none n (λ m. cond (eqb v m) 1 0) (λ i l. rw (ne_eqb v i (λ z. omega (arith, eqb-true v n e)))) in
        rw e (omega (arith, others))
    go (inr e) further = rw e (omega (arith, further (omega (arith, eqb-false v n e))))
