-- The laws of the cube. A number below 2 ^ n is its n bits, and a hop changes one of them; the rest follows. What stands below the line
-- "the interface" is all that the crates above use.
use mathlib.Core.Path.{◌≡◌, refl, sym, ap, ◌∙◌}
use mathlib.Core.Logic.{◌⊎◌, inl, inr, ◌≢◌}
use mathlib.Core.Bool.{Bool, true, false, cond, not, xor, ◌&&◌, true≢false, false≢true}
use Prim.Native.Nat.{ℕ, zero, suc, ◌+◌, ◌*◌, ◌/◌, ◌%◌, ◌^◌, ◌<◌, min}
use native.Mathlib.Omega.{arith}
use native.Mathlib.Nat.{mod-lt, pow-suc, zero-lt-suc, mul-mod_left, mul-div_cancel, div-div-eq-div-mul, mul_comm, div-one, one-mul}
use lib.Dec.{eqb, lit<}
use native.Mathlib.Decide.{ℕ_discrete}
use lib.Arith.{lt-one}
use lib.Pow.{pow-lt, shr-shr, shl_exact}
use lib.Bits.{bit_and, bit_xor, and_step, xor_shr, xor_mod, xor_lt, xor_comm, xor_self}
use lib.Count.{ones, ones_step}
use Rattle.cube.specs.Count.{count}
use Rattle.cube.specs.Cube.{bit, flip, apart, dist}
use Rattle.cube.proofs.Bools.{is_false}
use Rattle.cube.proofs.Count.{count_zero, count_same, count_more, count_pos, count_none, pigeon}

two : (m : ℕ) → m < 2 → (m ≡ 0) ⊎ (m ≡ 1)
two zero h = inl refl
two (suc zero) h = inr refl
two (suc (suc m)) h = absurd (omega arith)

parity : (a : ℕ) → (a % 2 ≡ 0) ⊎ (a % 2 ≡ 1)
parity a = two (a % 2) (mod-lt a (zero-lt-suc 1))

-- ---- single bits

pub bit_low : (x : ℕ) → bit 0 x ≡ eqb (x % 2) 1
unfolding bit
bit_low x = rw div-one

pub bit_suc : (i x : ℕ) → bit (suc i) x ≡ bit i (x / 2)
unfolding bit
bit_suc i x = rw (pow-suc, mul_comm, ← div-div-eq-div-mul)

odd_xor : (a b : ℕ) → eqb (bit_xor a b % 2) 1 ≡ xor (eqb (a % 2) 1) (eqb (b % 2) 1)
unfolding xor
odd_xor a b = rw (xor_mod a b 1) (go (a % 2) (b % 2) (parity a) (parity b))
  where
    go : (x y : ℕ) → (x ≡ 0) ⊎ (x ≡ 1) → (y ≡ 0) ⊎ (y ≡ 1) → eqb (bit_xor x y) 1 ≡ xor (eqb x 1) (eqb y 1)
    go x y (inl p) (inl q) = rw (p, q)
    go x y (inl p) (inr q) = rw (p, q)
    go x y (inr p) (inl q) = rw (p, q)
    go x y (inr p) (inr q) = rw (p, q)

-- the bits from m on are those of the number shifted down by m
pub bit_shift : (m i x : ℕ) → bit i (x / 2 ^ m) ≡ bit (m + i) x
unfolding bit
bit_shift m i x = rw (shr-shr x m i)

pub bit-xor : (i x y : ℕ) → bit i (bit_xor x y) ≡ xor (bit i x) (bit i y)
unfolding bit
bit-xor i x y = rw (xor_shr x y i) (odd_xor (x / 2 ^ i) (y / 2 ^ i))

pub bit-and : (i x y : ℕ) → bit i (bit_and x y) ≡ (bit i x && bit i y)
bit-and zero x y = bit_low (bit_and x y) ∙ rw (bit_low x, bit_low y) (go (parity x) (parity y))
  where
    low : bit_and x y % 2 ≡ min (x % 2) (y % 2)
    low = omega (arith, and_step x y)

    go : (x % 2 ≡ 0) ⊎ (x % 2 ≡ 1) → (y % 2 ≡ 0) ⊎ (y % 2 ≡ 1) → eqb (bit_and x y % 2) 1 ≡ (eqb (x % 2) 1 && eqb (y % 2) 1)
    go (inl p) (inl q) = rw (low, p, q)
    go (inl p) (inr q) = rw (low, p, q)
    go (inr p) (inl q) = rw (low, p, q)
    go (inr p) (inr q) = rw (low, p, q)
bit-and (suc i) x y =
    let h : bit_and x y / 2 ≡ bit_and (x / 2) (y / 2) = omega (arith, and_step x y) in
    bit_suc i (bit_and x y) ∙ ap (bit i) h ∙ bit-and i (x / 2) (y / 2) ∙ rw (bit_suc i x, bit_suc i y)

pub bit_none : (i : ℕ) → bit i 0 ≡ false
bit_none zero = bit_low 0
bit_none (suc i) = bit_suc i 0 ∙ bit_none i

pow_half : (j : ℕ) → 2 ^ suc j / 2 ≡ 2 ^ j
pow_half j = rw pow-suc (mul-div_cancel (2 ^ j) (zero-lt-suc 1))

pow_even : (j : ℕ) → 2 ^ suc j % 2 ≡ 0
pow_even j = rw pow-suc (mul-mod_left (2 ^ j) 2)

bit_same : (i : ℕ) → bit i (2 ^ i) ≡ true
bit_same zero = bit_low 1
bit_same (suc i) = bit_suc i (2 ^ suc i) ∙ rw pow_half (bit_same i)

bit_other : (i j : ℕ) → i ≢ j → bit i (2 ^ j) ≡ false
bit_other zero zero d = absurd (d refl)
bit_other zero (suc j) d = bit_low (2 ^ suc j) ∙ rw pow_even
bit_other (suc i) zero d = bit_suc i 1 ∙ bit_none i
bit_other (suc i) (suc j) d = bit_suc i (2 ^ suc j) ∙ rw pow_half (bit_other i j (omega arith))

odd_same : (a b : ℕ) → eqb (a % 2) 1 ≡ eqb (b % 2) 1 → a % 2 ≡ b % 2
odd_same a b = go (a % 2) (b % 2) (parity a) (parity b)
  where
    go : (x y : ℕ) → (x ≡ 0) ⊎ (x ≡ 1) → (y ≡ 0) ⊎ (y ≡ 1) → eqb x 1 ≡ eqb y 1 → x ≡ y
    go x y (inl p) (inl q) e = omega arith
    go x y (inl p) (inr q) e = absurd (false≢true (rw (p, q) at e))
    go x y (inr p) (inl q) e = absurd (true≢false (rw (p, q) at e))
    go x y (inr p) (inr q) e = omega arith

-- a number below 2 ^ n is given by its n bits
pub bits_same : (n x y : ℕ) → x < 2 ^ n → y < 2 ^ n → ((i : ℕ) → i < n → bit i x ≡ bit i y) → x ≡ y
bits_same zero x y hx hy f = lt-one hx ∙ sym (lt-one hy)
bits_same (suc n) x y hx hy f =
    let e = odd_same x y (sym (bit_low x) ∙ f 0 (omega arith) ∙ bit_low y) in
    let r = bits_same n (x / 2) (y / 2) (omega arith) (omega arith) (λ i h. sym (bit_suc i x) ∙ f (suc i) (omega arith) ∙ bit_suc i y) in
    omega arith

xor_flip : (a b : Bool) → xor (xor a true) b ≡ not (xor a b)
unfolding xor
xor_flip true true = refl
xor_flip true false = refl
xor_flip false true = refl
xor_flip false false = refl

xor_false : (a : Bool) → xor a false ≡ a
unfolding xor
xor_false true = refl
xor_false false = refl

xor_true : (a : Bool) → xor (xor a true) true ≡ a
unfolding xor
xor_true true = refl
xor_true false = refl

pub xor_eq : (a b : Bool) → xor a b ≡ false → a ≡ b
unfolding xor
xor_eq true true e = refl
xor_eq true false e = e
xor_eq false true e = sym e
xor_eq false false e = refl

-- ---- the interface

pub flip_lt : (n i x : ℕ) → i < n → x < 2 ^ n → flip i x < 2 ^ n
unfolding flip
flip_lt n i x h hx = xor_lt n x (2 ^ i) hx (pow-lt h)

pub bit_flip_same : (i x : ℕ) → bit i (flip i x) ≡ xor (bit i x) true
unfolding flip
bit_flip_same i x = bit-xor i x (2 ^ i) ∙ rw bit_same

pub bit_flip_other : (i j x : ℕ) → i ≢ j → bit i (flip j x) ≡ bit i x
unfolding flip
bit_flip_other i j x d = bit-xor i x (2 ^ j) ∙ rw (bit_other i j d) (xor_false (bit i x))

pub flip_flip : (n i x : ℕ) → i < n → x < 2 ^ n → flip i (flip i x) ≡ x
flip_flip n i x h hx = bits_same n (flip i (flip i x)) x (flip_lt n i (flip i x) h (flip_lt n i x h hx)) hx go
  where
    go : (j : ℕ) → j < n → bit j (flip i (flip i x)) ≡ bit j x
    go j l =
        elim (ℕ_discrete j i) [
          | yes e ↦ rw (e, bit_flip_same, bit_flip_same) (xor_true (bit i x))
          | no d ↦ bit_flip_other j i (flip i x) d ∙ bit_flip_other j i x d
        ]

pub apart_bits : (i x y : ℕ) → apart i x y ≡ xor (bit i x) (bit i y)
unfolding apart
apart_bits i x y = bit-xor i x y

pub apart_same : (i x y : ℕ) → apart i (flip i x) y ≡ not (apart i x y)
apart_same i x y = rw (apart_bits, apart_bits, bit_flip_same) (xor_flip (bit i x) (bit i y))

pub apart_other : (i j x y : ℕ) → i ≢ j → apart i (flip j x) y ≡ apart i x y
apart_other i j x y d = rw (apart_bits, apart_bits, bit_flip_other i j x d)

pub apart_sym : (i x y : ℕ) → apart i x y ≡ apart i y x
unfolding apart
apart_sym i x y = rw (xor_comm x y)

pub none_apart : (n x y : ℕ) → x < 2 ^ n → y < 2 ^ n → ((i : ℕ) → i < n → apart i x y ≡ false) → x ≡ y
none_apart n x y hx hy f = bits_same n x y hx hy (λ i h. xor_eq (bit i x) (bit i y) (sym (apart_bits i x y) ∙ f i h))

count_low : (n : ℕ) (p : ℕ → Bool) → count (suc n) p ≡ count n (λ i. p (suc i)) + cond (p 0) 1 0
unfolding count
count_low zero p = omega arith
count_low (suc n) p = omega (arith, count_low n p)

low_digit : (x : ℕ) → cond (bit 0 x) 1 0 ≡ x % 2
low_digit x = rw bit_low (go (x % 2) (parity x))
  where
    go : (m : ℕ) → (m ≡ 0) ⊎ (m ≡ 1) → cond (eqb m 1) 1 0 ≡ m
    go m (inl e) = rw e
    go m (inr e) = rw e

-- the ones of a number are its set bits
ones_count : (n x : ℕ) → x < 2 ^ n → ones x ≡ count n (λ i. bit i x)
unfolding ones
ones_count zero x h = omega (arith, ap ones (lt-one h), count_zero (λ i. bit i x))
ones_count (suc n) x h =
    omega (
      arith,
      ones_step x,
      ones_count n (x / 2) (omega arith),
      count_low n (λ i. bit i x),
      low_digit x,
      count_same n (λ i. bit i (x / 2)) (λ i. bit (suc i) x) (λ i _. sym (bit_suc i x)),
    )

pub dist_count : (n x y : ℕ) → x < 2 ^ n → y < 2 ^ n → dist x y ≡ count n (λ i. apart i x y)
unfolding dist apart
dist_count n x y hx hy = ones_count n (bit_xor x y) (xor_lt n x y hx hy)

pub dist_self : (x : ℕ) → dist x x ≡ 0
unfolding dist ones
dist_self x = rw (xor_self x)

pub dist_sym : (x y : ℕ) → dist x y ≡ dist y x
unfolding dist
dist_sym x y = rw (xor_comm x y)

pub dist_zero : (n x y : ℕ) → x < 2 ^ n → y < 2 ^ n → dist x y ≡ 0 → x ≡ y
dist_zero n x y hx hy e = none_apart n x y hx hy go
  where
    go : (i : ℕ) → i < n → apart i x y ≡ false
    go i h = is_false (λ t. omega (arith, dist_count n x y hx hy, count_pos n (λ j. apart j x y) i h t))

-- a hop across a dimension in which x and y differ brings them one nearer; across any other, one farther
pub dist_fall : (n i x y : ℕ) → x < 2 ^ n → y < 2 ^ n → i < n → apart i x y ≡ true → dist x y ≡ suc (dist (flip i x) y)
dist_fall n i x y hx hy h e =
    omega (
      arith,
      dist_count n x y hx hy,
      dist_count n (flip i x) y (flip_lt n i x h hx) hy,
      count_more n i (λ j. apart j (flip i x) y) (λ j. apart j x y) h (apart_same i x y ∙ ap not e) e (λ j _ d. apart_other j i x y d),
    )

pub dist_rise : (n i x y : ℕ) → x < 2 ^ n → y < 2 ^ n → i < n → apart i x y ≡ false → dist (flip i x) y ≡ suc (dist x y)
dist_rise n i x y hx hy h e =
    omega (
      arith,
      dist_count n x y hx hy,
      dist_count n (flip i x) y (flip_lt n i x h hx) hy,
      count_more n i (λ j. apart j x y) (λ j. apart j (flip i x) y) h e (apart_same i x y ∙ ap not e) (λ j _ d. sym (apart_other j i x y d)),
    )

-- nodes that are apart differ in some dimension
pub some_apart : (n x y : ℕ) → x < 2 ^ n → y < 2 ^ n → 0 < dist x y → (i : ℕ) × (i < n) × (apart i x y ≡ true)
some_apart n x y hx hy h =
    let none = count_none n (λ _. false) (λ _ _. refl) in
    let r = pigeon n (λ _. false) (λ j. apart j x y) (omega (arith, dist_count n x y hx hy)) in
    (r.0, r.1, r.2)

-- nodes at distance 1 are neighbours
pub neighbour : (n x y : ℕ) → x < 2 ^ n → y < 2 ^ n → dist x y ≡ 1 → (i : ℕ) × (i < n) × (apart i x y ≡ true) × (x ≡ flip i y)
neighbour n x y hx hy e =
    let r = some_apart n x y hx hy (omega arith) in
    let k = dist_zero n (flip r.0 x) y (flip_lt n r.0 x r.1 hx) hy (omega (arith, dist_fall n r.0 x y hx hy r.1 r.2)) in
    (r.0, r.1, r.2, sym (flip_flip n r.0 x r.1 hx) ∙ ap (flip r.0) k)

-- how code says it: `x ^ (1 << i)` and `1 << n` on a usize
pub shl_one : (i : ℕ) → i < 64 → 1 * 2 ^ i % 2 ^ 64 ≡ 2 ^ i
shl_one i h = shl_exact 1 i 64 (lit< tt) (omega arith) ∙ one-mul (2 ^ i)
