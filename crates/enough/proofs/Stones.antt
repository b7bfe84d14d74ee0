-- Where the stones do not work no node is safe by rule 2: a node is not safe that has two neighbours which are not. So if no node is safe whose bits from m on
-- are clear, and one that is not safe has bit m besides, none of these is, from that one on node by node. From 0 on each stone brings two dimensions more: the
-- first by the node between it and 0, the second by itself.
use mathlib.Core.Path.{◌≡◌, refl, sym, ap, subst, ◌∙◌}
use mathlib.Core.Logic.{◌⊎◌, inl, inr, ◌≢◌}
use mathlib.Core.Bool.{Bool, true, false, not}
use Prim.Native.Nat.{ℕ, zero, suc, ◌+◌, ◌*◌, ◌/◌, ◌^◌, ◌≤◌, ◌<◌}
use native.Mathlib.Decide.{ℕ_discrete}
use native.Mathlib.Omega.{arith}
use lib.Dec.{eqb, ltb}
use lib.Pow.{pow_pos}
use borrow.Author.Tests.{eq-eqb, ltb-false, ltb-true}
use Rattle.cube.specs.Count.{count}
use Rattle.cube.specs.Cube.{apart, bit, dist, flip}
use Rattle.cube.proofs.Bools.{by_cases, clash, either, is_false, xor_not}
use Rattle.cube.proofs.Count.{count_pos, count_without, without, without_is}
use Rattle.cube.proofs.Cube.{bit_flip_other, bit_flip_same, bit_none, bits_same, dist_fall, dist_zero, flip_flip, flip_lt, some_apart}
use Rattle.cube.proofs.Laws.{apart_differ}
use Rattle.cube.proofs.Search.{count_named, some_hit}
use Rattle.rule.specs.Closed.{Closed}
use Rattle.rule.specs.Rule.{safe}
use Rattle.rule.proofs.Largest.{safe_closed}
use Rattle.enough.specs.Enough.{LeavesSafe, stone, stones}
use Rattle.enough.proofs.Enough.{enough}

-- the bits of x from m on are clear
pub record Front (n m x : ℕ) : Type 0 where
  pub clear : (i : ℕ) → m ≤ i → i < n → bit i x ≡ false

module _ (n : ℕ) where
  abbrev F : ℕ → Bool
  F = stones n

  abbrev H : ℕ → Bool
  H = safe n 2 F

  C : Closed n 2 F H
  C = safe_closed n 2 F

  -- none of the nodes whose bits from m on are clear is safe
  abbrev Filled : ℕ → Type 0
  Filled m = (x : ℕ) → x < 2 ^ n → Front n m x → H x ≡ false

  by_two : (i j x : ℕ) → i < n → j < n → j ≢ i → x < 2 ^ n → H (flip i x) ≡ false → H (flip j x) ≡ false → H x ≡ false
  by_two i j x hi hj d hx a b = is_false go
    where
      p : ℕ → Bool
      p l = not (H (flip l x))

      go : H x ≡ true → ⊥
      go t =
          omega (
            arith,
            C.few_outside x hx t,
            count_without n p i hi (ap not a),
            count_pos n (without p i) j hj (without_is p i j (ap not b) d),
          )

  -- one dimension more, if one of the nodes that it brings is not safe
  module _ (m : ℕ) (hm : m < n) (filled : Filled m) (z : ℕ) (hz : z < 2 ^ n) (fz : Front n (suc m) z) (bz : bit m z ≡ true) (oz : H z ≡ false) where
    -- x, on the side of z
    toward : (k x : ℕ) → x < 2 ^ n → Front n (suc m) x → bit m x ≡ true → dist x z ≡ k → H x ≡ false
    toward zero x hx fx bx e = ap H (dist_zero n x z hx hz e) ∙ oz
    toward (suc k) x hx fx bx e =
        let (i, hi, a) = some_apart n x z hx hz (omega (arith, e)) in
        let low = below i hi a in
        by_two m i x hm hi (omega (arith, low)) hx
        (filled (flip m x) (flip_lt n m x hm hx) (record { clear = λ l h g. down l h g }))
        (toward k (flip i x) (flip_lt n i x hi hx) (record { clear = λ l h g. bit_flip_other l i x (omega (arith, low)) ∙ fx.clear l h g })
        (bit_flip_other m i x (omega (arith, low)) ∙ bx) (omega (arith, e, dist_fall n i x z hx hz hi a)))
      where
        -- they agree in m and above it
        below : (i : ℕ) → i < n → apart i x z ≡ true → i < m
        below i hi a = omega (arith, not_m, not_above)
          where
            not_m : ¬ (i ≡ m)
            not_m q = apart_differ i x z a (ap (λ l. bit l x) q ∙ bx ∙ sym (ap (λ l. bit l z) q ∙ bz))

            not_above : ¬ (m < i)
            not_above l = apart_differ i x z a (fx.clear i l hi ∙ sym (fz.clear i l hi))

        down : (l : ℕ) → m ≤ l → l < n → bit l (flip m x) ≡ false
        down l h g =
            elim (ℕ_discrete l m) [
              | yes q ↦ rw q (bit_flip_same m x ∙ xor_not (bit m x) ∙ ap not bx)
              | no d ↦ bit_flip_other l m x d ∙ fx.clear l (omega arith) g
            ]

    wider : Filled (suc m)
    wider x hx fx = go (either (bit m x))
      where
        go : (bit m x ≡ true) ⊎ (bit m x ≡ false) → H x ≡ false
        go (inl b) = toward (dist x z) x hx fx b refl
        go (inr b) = filled x hx (record { clear = λ l h g. clear l (ℕ_discrete l m) h g })
          where
            clear : (l : ℕ) → Dec (l ≡ m) → m ≤ l → l < n → bit l x ≡ false
            clear l (yes q) h g = rw q b
            clear l (no d) h g = fx.clear l (omega arith) g

  -- ---- from stone to stone

  abbrev half : ℕ
  half = (n + 1) / 2

  stone_below : (k : ℕ) → k < suc half → stone n k < 2 ^ n
  unfolding stone
  stone_below zero l = pow_pos n
  stone_below (suc k) l =
      by_cases (λ y. y < 2 ^ n) (ltb (suc (2 * k)) n) (λ e. flip_lt n (suc (2 * k)) (flip (2 * k) 0) (ltb-true (suc (2 * k)) n e) low) (λ e. low)
    where
      low : flip (2 * k) 0 < 2 ^ n
      low = flip_lt n (2 * k) 0 (omega (arith, l)) (pow_pos n)

  stone_out : (k : ℕ) → k < suc half → H (stone n k) ≡ false
  unfolding stones
  stone_out k l =
      let one : F (stone n k) ≡ true = some_hit (suc half) (λ j. eqb (stone n k) (stone n j)) k l (eq-eqb (stone n k) (stone n k) refl) in
      is_false (λ t. clash one (C.works (stone n k) (stone_below k l) t))

  -- a node that is across m from one whose bits from m on are clear
  front_flip : (m x : ℕ) → Front n m x → Front n (suc m) (flip m x)
  front_flip m x f = record { clear = λ l h g. bit_flip_other l m x (omega arith) ∙ f.clear l (omega arith) g }

  bit_set : (m x : ℕ) → m < n → Front n m x → bit m (flip m x) ≡ true
  bit_set m x h f = bit_flip_same m x ∙ xor_not (bit m x) ∙ ap not (f.clear m (omega arith) h)

  front_zero : (m : ℕ) → Front n m 0
  front_zero m = record { clear = λ l h g. bit_none l }

  one_more : (m : ℕ) → m < n → Filled m → H (flip m 0) ≡ false → Filled (suc m)
  one_more m h filled e =
      wider m h filled (flip m 0) (flip_lt n m 0 h (pow_pos n)) (front_flip m 0 (front_zero m)) (bit_set m 0 h (front_zero m)) e

  two_more : (m : ℕ) → suc m < n → Filled m → H (flip (suc m) (flip m 0)) ≡ false → Filled (suc (suc m))
  two_more m h filled e =
      wider (suc m) h (one_more m hm filled between) (flip (suc m) (flip m 0)) (flip_lt n (suc m) (flip m 0) h low)
      (front_flip (suc m) (flip m 0) f) (bit_set (suc m) (flip m 0) h f) e
    where
      hm : m < n
      hm = omega arith

      low : flip m 0 < 2 ^ n
      low = flip_lt n m 0 hm (pow_pos n)

      f : Front n (suc m) (flip m 0)
      f = front_flip m 0 (front_zero m)

      between : H (flip m 0) ≡ false
      between =
          by_two m (suc m) (flip m 0) hm h (omega arith) low
          (ap H (flip_flip n m 0 hm (pow_pos n)) ∙ filled 0 (pow_pos n) (front_zero m)) e

  first : Filled 0
  unfolding stone
  first x hx f = ap H (bits_same n x 0 hx (pow_pos n) (λ i h. f.clear i (omega arith) h ∙ sym (bit_none i))) ∙ stone_out 0 (omega arith)

  fill : (k : ℕ) → k < suc half → Filled (2 * k)
  unfolding stone
  fill zero l = first
  fill (suc k) l = go (fill k (omega arith)) (either (ltb (suc (2 * k)) n))
    where
      out : H (stone n (suc k)) ≡ false
      out = stone_out (suc k) l

      go : Filled (2 * k) → (ltb (suc (2 * k)) n ≡ true) ⊎ (ltb (suc (2 * k)) n ≡ false) → Filled (2 * suc k)
      go ih (inl a) = subst Filled (omega arith) (two_more (2 * k) (ltb-true (suc (2 * k)) n a) ih (rw a at out))
      go ih (inr a) =
          λ x hx f.
          one_more (2 * k) (omega (arith, l)) ih (rw a at out) x hx (record { clear = λ i h g. absurd (omega (arith, ltb-false (suc (2 * k)) n a)) })

  pub two : LeavesSafe n 2 F → ⊥
  two (x, h, e) = clash e (fill half (omega arith) x h (record { clear = λ i l g. absurd (omega arith) }))

  pub two_out : (n + 2 ≤ 2 * count (2 ^ n) F) × (2 * count (2 ^ n) F ≤ n + 3)
  unfolding stones
  two_out = (omega (arith, no_fewer), omega (arith, count_named (2 ^ n) (suc half) (stone n) stone_below))
    where
      no_fewer : ¬ (2 * count (2 ^ n) F < n + 2)
      no_fewer h = two ((enough n F).two h)
