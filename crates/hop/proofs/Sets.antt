-- Sets of dimensions, as the bits of a number: what a scan over a set finds, lowest dimension first. The zeros below the lowest set bit lead to that
-- dimension, and `x & (x - 1)` is the set without it. Where its neighbour's label is too high, the search in the rest finds what the search in the set does.
use mathlib.Core.Path.{◌≡◌, refl, sym, ap, ◌∙◌}
use mathlib.Core.Logic.{◌⊎◌, inl, inr}
use mathlib.Core.Bool.{Bool, true, false, beq, cond, ◌&&◌, and-false}
use Prim.Native.Nat.{ℕ, zero, suc, ◌-◌, ◌/◌, ◌%◌, ◌^◌, ◌≤◌, ◌<◌}
use native.Mathlib.Decide.{ℕ_discrete}
use native.Mathlib.Nat.{pow-suc}
use native.Mathlib.Omega.{arith}
use borrow.Author.Tests.{eq-eqb, le-leb, le-ltb, lt-leb, lt-ltb, ltb-false, ltb-true}
use lib.Bits.{bit_and, bit_xor, and_self, and_step, xor_step, xor_zero_r}
use lib.Count.{ones, count_trailing_zeros, under, trailing_of_zero}
use lib.Dec.{eqb, leb, ltb}
use lib.Pow.{pow_pos}
use Rattle.std.specs.Prelude.{Option, Some, None}
use Rattle.cube.specs.Count.{least}
use Rattle.cube.specs.Cube.{bit, flip, apart, dist}
use Rattle.cube.proofs.Bools.{and_both, beq_no, beq_yes, by_cases, xor_not}
use Rattle.cube.proofs.Search.{Least, the_least, least_found, least_is, least_same, find, least_none}
use Rattle.cube.proofs.Cube.{bit_low, bit_suc, bit_none, bit-xor, bit_flip_other, bits_same, none_apart}
use Rattle.cube.proofs.Laws.{across_one, one_across}
use Rattle.hop.specs.Helpers.{found, in_set}
use Rattle.scans.specs.Scans.{forward, spare, scan_of, suits}

-- ---- the trailing zeros of a number are its lowest set bit

-- a search that begins with the lowest place
least_low : (n : ℕ) (p : ℕ → Bool) → least (suc n) p ≡ cond (p 0) 0 (suc (least n (λ i. p (suc i))))
least_low n p =
    by_cases (λ (m : ℕ). least (suc n) p ≡ m) (p 0)
    (λ e. least_is (suc n) p 0 (omega arith) (λ j h. absurd (omega arith)) (λ _. e))
    (λ e. least_is (suc n) p (suc (least n (λ i. p (suc i)))) (omega (arith, later.within)) (before e) (λ h. later.hit (omega arith)))
  where
    later : Least n (λ i. p (suc i))
    later = the_least n (λ i. p (suc i))

    before : p 0 ≡ false → (j : ℕ) → j < suc (least n (λ i. p (suc i))) → p j ≡ false
    before e zero h = e
    before e (suc j) h = later.before j (omega arith)

under_digit : (d m : ℕ) → d < 2 → under d m ≡ cond (eqb d 1) 0 (suc m)
under_digit zero m h = refl
under_digit (suc zero) m h = refl
under_digit (suc (suc d)) m h = absurd (omega arith)

trailing_least : (k x : ℕ) → count_trailing_zeros k x ≡ least k (λ i. bit i x)
unfolding count_trailing_zeros least
trailing_least zero x = refl
trailing_least (suc k) x =
    ap (under (x % 2)) (trailing_least k (x / 2) ∙ least_same k (λ i. bit i (x / 2)) (λ i. bit (suc i) x) (λ i _. sym (bit_suc i x)))
    ∙ under_digit (x % 2) (least k (λ i. bit (suc i) x)) (omega arith)
    ∙ ap (λ (b : Bool). cond b 0 (suc (least k (λ i. bit (suc i) x)))) (sym (bit_low x))
    ∙ sym (least_low k (λ i. bit i x))

-- ---- x & (x - 1) is x with that bit changed

odd_without : (x : ℕ) → x % 2 ≡ 1 → bit_and x (x - 1) ≡ flip 0 x
unfolding flip
odd_without x e =
    let h : (x - 1) / 2 ≡ x / 2 = omega arith in
    let r : (x - 1) % 2 ≡ 0 = omega arith in
    and_step x (x - 1) ∙ rw (h, r, e, and_self) (sym (xor_step x 1 ∙ rw (e, xor_zero_r)))

even_without : (x i : ℕ) → 0 < x → x % 2 ≡ 0 → bit_and (x / 2) (x / 2 - 1) ≡ flip i (x / 2) → bit_and x (x - 1) ≡ flip (suc i) x
unfolding flip
even_without x i more e ih =
    let h : (x - 1) / 2 ≡ x / 2 - 1 = omega arith in
    let p : 2 ^ suc i / 2 ≡ 2 ^ i = omega (arith, pow-suc 2 i) in
    let q : 2 ^ suc i % 2 ≡ 0 = omega (arith, pow-suc 2 i) in
    let r : (x - 1) % 2 ≡ 1 = omega arith in
    and_step x (x - 1) ∙ rw (h, r, e, ih) (sym (xor_step x (2 ^ suc i) ∙ rw (p, q, e)))

without : (k x : ℕ) → count_trailing_zeros k x < k → bit_and x (x - 1) ≡ flip (count_trailing_zeros k x) x
unfolding count_trailing_zeros
without zero x h = absurd (omega arith)
without (suc k) zero h = absurd (omega (arith, trailing_of_zero (suc k)))
without (suc k) (suc m) h = go (without k (suc m / 2)) (suc m % 2) refl h
  where
    t : ℕ
    t = count_trailing_zeros k (suc m / 2)

    go : (t < k → bit_and (suc m / 2) (suc m / 2 - 1) ≡ flip t (suc m / 2)) → (d : ℕ) → suc m % 2 ≡ d → under d t < suc k
        → bit_and (suc m) (suc m - 1) ≡ flip (under d t) (suc m)
    go ih zero e l = even_without (suc m) t (omega arith) e (ih (omega arith))
    go ih (suc zero) e l = odd_without (suc m) e
    go ih (suc (suc d)) e l = absurd (omega arith)

-- i is the lowest dimension of the set x, and the code's rest is the set without it
pub record LowestOf (n x i : ℕ) : Type 0 where
  pub inside : i < n
  pub has : bit i x ≡ true
  pub before : (j : ℕ) → j < i → bit j x ≡ false
  pub rest : bit_and x (x - 1) ≡ flip i x

-- so it is with the trailing zeros of a set that is not empty
pub lowest_of : (n x : ℕ) → n ≤ 64 → x < 2 ^ n → (x ≡ 0 → ⊥) → LowestOf n x (count_trailing_zeros 64 x)
lowest_of n x small h more = go (find n (λ i. bit i x))
  where
    low : Least n (λ i. bit i x)
    low = the_least n (λ i. bit i x)

    go : ((i : ℕ) × (i < n) × (bit i x ≡ true)) ⊎ ((i : ℕ) → i < n → bit i x ≡ false) → LowestOf n x (count_trailing_zeros 64 x)
    go (inl r) =
        let l = least_found n (λ i. bit i x) r.0 r.1 r.2 in
        let e = trailing_least 64 x ∙ least_is 64 (λ i. bit i x) (least n (λ i. bit i x)) (omega arith) low.before (λ _. low.hit l) in
        rw e (record { inside = l; has = low.hit l; before = low.before; rest = rw e at (without 64 x (omega arith)) })
    go (inr none) = absurd (more (bits_same n x 0 h (pow_pos n) (λ i l. none i l ∙ sym (bit_none i))))

-- two nodes that are not one have a forward dimension
pub some_forward : (n c d : ℕ) → c < 2 ^ n → d < 2 ^ n → (c ≡ d → ⊥) → bit_xor c d ≡ 0 → ⊥
unfolding apart
some_forward n c d hc hd far e = far (none_apart n c d hc hd (λ i _. ap (bit i) e ∙ bit_none i))

-- the set of the dimensions in which c and d differ, without its lowest, is empty exactly where the neighbour across that one is d
module _ (n c d i : ℕ) (f : LowestOf n (bit_xor c d) i) where
  abbrev x : ℕ
  x = bit_xor c d

  same_dist : dist x 0 ≡ dist c d
  unfolding dist
  same_dist = ap ones (xor_zero_r x)

  apart_zero : apart i x 0 ≡ true
  unfolding apart
  apart_zero = ap (bit i) (xor_zero_r x) ∙ f.has

  pub only_one : bit_and x (x - 1) ≡ 0 → flip i c ≡ d
  unfolding apart
  only_one e = one_across i c d f.has (sym same_dist ∙ (across_one i x 0 (sym f.rest ∙ e)).1)

  pub one_only : flip i c ≡ d → bit_and x (x - 1) ≡ 0
  one_only e = f.rest ∙ one_across i x 0 apart_zero (same_dist ∙ (across_one i c d e).1)

-- ---- what a search finds

none_not_some : {A : Type 0} (x : A) → None ≡ Some x → ⊥
none_not_some x e = cc

pub found_some : (n i j : ℕ) → i < n → i ≡ j → Some i ≡ found n j
unfolding found
found_some n i j h e = rw (sym e, lt-ltb i n h)

pub found_none : (n j : ℕ) → n ≡ j → None ≡ found n j
unfolding found
found_none n j e = rw (sym e, le-ltb n n (omega arith))

pub some_found : (n i j : ℕ) → Some i ≡ found n j → (i ≡ j) × (j < n)
unfolding found
some_found n i j =
    by_cases (λ (o : Option ℕ). Some i ≡ o → (i ≡ j) × (j < n)) (ltb j n) (λ t e. let q : i ≡ j = cc in (q, ltb-true j n t)) (λ _ e. absurd (none_not_some _ (sym e)))

pub none_found : (n j : ℕ) → None ≡ found n j → n ≤ j
unfolding found
none_found n j =
    by_cases (λ (o : Option ℕ). None ≡ o → n ≤ j) (ltb j n) (λ _ e. absurd (none_not_some _ e)) (λ t _. ltb-false j n t)

-- ---- the search in a set

module _ (n x : ℕ) (near : ℕ → ℕ) (t : ℕ) where
  -- its lowest dimension, where the neighbour's label is low enough
  pub taken : (i : ℕ) → LowestOf n x i → near i ≤ t → i ≡ least n (in_set x near t)
  unfolding in_set
  taken i f h = sym (least_is n (in_set x near t) i (omega (arith, f.inside)) (λ j l. rw (f.before j l)) (λ _. and_both f.has (le-leb (near i) t h)))

  -- the search in the rest, where it is not
  pub too_high : (i : ℕ) → t < near i → least n (in_set x near t) ≡ least n (in_set (flip i x) near t)
  unfolding in_set
  too_high i h = least_same n (in_set x near t) (in_set (flip i x) near t) same
    where
      same : (j : ℕ) → j < n → in_set x near t j ≡ in_set (flip i x) near t j
      same j _ =
          elim (ℕ_discrete j i) [
            | yes e ↦ rw (e, lt-leb (near i) t h) (and-false (bit i x) ∙ sym (and-false (bit i (flip i x))))
            | no k ↦ ap (λ (b : Bool). b && leb (near j) t) (sym (bit_flip_other j i x k))
          ]

  pub none : x ≡ 0 → n ≡ least n (in_set x near t)
  unfolding in_set
  none e = sym (least_none n (in_set x near t) (λ j _. rw (e, bit_none j)))

-- ---- the sets of the scans: the forward dimensions are the bits of the exclusive or, the spare ones the other bits below n

pub full : (n i : ℕ) → i < n → bit i (2 ^ n - 1) ≡ true
full zero i h = absurd (omega arith)
full (suc n) zero h = bit_low (2 ^ suc n - 1) ∙ eq-eqb ((2 ^ suc n - 1) % 2) 1 (omega (arith, pow-suc 2 n, pow_pos n))
full (suc n) (suc i) h =
    let e : (2 ^ suc n - 1) / 2 ≡ 2 ^ n - 1 = omega (arith, pow-suc 2 n, pow_pos n) in
    bit_suc i (2 ^ suc n - 1) ∙ ap (bit i) e ∙ full n i (omega arith)

module _ (n c d : ℕ) (near : ℕ → ℕ) (t : ℕ) where
  pub forward_set : least n (in_set (bit_xor c d) near t) ≡ least n (suits c d near (scan_of forward 0 t true))
  unfolding in_set suits apart
  forward_set =
      least_same n (in_set (bit_xor c d) near t) (suits c d near (scan_of forward 0 t true))
      (λ i _. rw (le-leb 0 (near i) (omega arith)) (ap (λ (b : Bool). b && leb (near i) t) (sym (beq_yes (bit i (bit_xor c d))))))

  pub spare_set : least n (in_set (bit_xor (bit_xor c d) (2 ^ n - 1)) near t) ≡ least n (suits c d near (scan_of spare 0 t true))
  unfolding in_set suits apart
  spare_set =
      least_same n (in_set (bit_xor (bit_xor c d) (2 ^ n - 1)) near t) (suits c d near (scan_of spare 0 t true))
      (λ i h. rw (le-leb 0 (near i) (omega arith)) (ap (λ (b : Bool). b && leb (near i) t) (other i h)))
    where
      other : (i : ℕ) → i < n → bit i (bit_xor (bit_xor c d) (2 ^ n - 1)) ≡ beq (bit i (bit_xor c d)) false
      other i h = bit-xor i (bit_xor c d) (2 ^ n - 1) ∙ rw (full n i h) (xor_not (bit i (bit_xor c d)) ∙ sym (beq_no (bit i (bit_xor c d))))
