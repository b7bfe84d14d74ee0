-- The turns that may still come, counted. A forward hop in the phase's direction takes one from the dimensions of that direction; a hop that turns
-- takes one from the others, and then the two change places. `bends` bounds the turns: it does not rise with the first kind, and falls with the
-- second where at most two dimensions of the phase's direction are left.
use mathlib.Core.Path.{◌≡◌, refl, sym, ap, ◌∙◌}
use mathlib.Core.Logic.{◌⊎◌, inl, inr, ◌≢◌}
use mathlib.Core.Bool.{Bool, true, false, beq, not, ◌&&◌, ◌||◌}
use Prim.Native.Nat.{ℕ, suc, ◌+◌, ◌*◌, ◌^◌, ◌≤◌, ◌<◌, max}
use native.Mathlib.Omega.{arith}
use native.Mathlib.Decide.{ℕ_discrete}
use lib.Dec.{eqb, leb}
use borrow.Author.Tests.{leb-true, leb-false, le-leb, lt-leb, eqb-true, eqb-false, eq-eqb, ne_eqb}
use Rattle.cube.specs.Count.{count}
use Rattle.cube.specs.Cube.{bit, flip, apart, dist}
use Rattle.cube.proofs.Bools.{beq_not, beq_same, beq_turned, either, or_left, or_right, xor_turned}
use Rattle.cube.proofs.Count.{count_le, count_same, count_more, count_sum}
use Rattle.cube.proofs.Cube.{bit_flip_other, apart_same, apart_other, dist_count}
use Rattle.blocks.specs.Phase.{down, turns, after}
use Rattle.blocks.specs.Turns.{ways, bends, still, Room}
use Rattle.blocks.proofs.Phases.{down_suc, after_turn, after_keep}

-- ---- the dimensions of a direction

turns_other : (p c i j : ℕ) → j ≢ i → turns p (flip i c) j ≡ turns p c j
unfolding turns
turns_other p c i j h = rw (bit_flip_other j i c h)

turns_suc : (p c i : ℕ) → turns (suc p) c i ≡ not (turns p c i)
unfolding turns
turns_suc p c i = rw down_suc (xor_turned (bit i c) (down p))

-- in the next phase the directions have changed places
ways_suc : (n d p c : ℕ) (t : Bool) → ways n d (suc p) c t ≡ ways n d p c (not t)
unfolding ways
ways_suc n d p c t =
    count_same n (λ i. apart i c d && beq (turns (suc p) c i) t) (λ i. apart i c d && beq (turns p c i) (not t))
    (λ i h. rw (turns_suc p c i, beq_turned (turns p c i) t))

pub ways_le : (n d p c : ℕ) (t : Bool) (q : ℕ → Bool)
    → ((i : ℕ) → i < n → (apart i c d && beq (turns p c i) t) ≡ true → q i ≡ true) → ways n d p c t ≤ count n q
unfolding ways
ways_le n d p c t q f = count_le n (λ i. apart i c d && beq (turns p c i) t) q f

-- the forward dimensions are those of both directions
pub ways_sum : (n d p c : ℕ) → c < 2 ^ n → d < 2 ^ n → ways n d p c false + ways n d p c true ≡ dist c d
unfolding ways
ways_sum n d p c hc hd =
    omega (
      arith,
      dist_count n c d hc hd,
      count_sum n (λ i. apart i c d && beq (turns p c i) false) (λ i. apart i c d && beq (turns p c i) true) (λ i h. one (apart i c d) (turns p c i)),
      count_same n (λ i. (apart i c d && beq (turns p c i) false) || (apart i c d && beq (turns p c i) true)) (λ i. apart i c d)
          (λ i h. both (apart i c d) (turns p c i)),
    )
  where
    one : (a b : Bool) → (a && beq b false) ≡ true → (a && beq b true) ≡ false
    one true true e = sym e
    one true false e = refl
    one false b e = refl

    both : (a b : Bool) → ((a && beq b false) || (a && beq b true)) ≡ a
    both true true = refl
    both true false = refl
    both false b = refl

module _ (n d p c i : ℕ) (hi : i < n) (on : apart i c d ≡ true) where
  gone : apart i (flip i c) d ≡ false
  gone = apart_same i c d ∙ ap not on

  -- a hop takes its dimension from its own direction, and none from the other
  ways_fall : (t : Bool) → turns p c i ≡ t → ways n d p c t ≡ suc (ways n d p (flip i c) t)
  unfolding ways
  ways_fall t e =
      count_more n i (λ j. apart j (flip i c) d && beq (turns p (flip i c) j) t) (λ j. apart j c d && beq (turns p c j) t)
      hi (rw gone) (rw (on, e, beq_same t)) (λ j h k. rw (apart_other j i c d k, turns_other p c i j k))

  ways_stay : (t : Bool) → turns p c i ≡ t → ways n d p (flip i c) (not t) ≡ ways n d p c (not t)
  unfolding ways
  ways_stay t e =
      count_same n (λ j. apart j (flip i c) d && beq (turns p (flip i c) j) (not t)) (λ j. apart j c d && beq (turns p c j) (not t)) go
    where
      go : (j : ℕ) → j < n → (apart j (flip i c) d && beq (turns p (flip i c) j) (not t)) ≡ (apart j c d && beq (turns p c j) (not t))
      go j h = elim (ℕ_discrete j i) [ yes k ↦ rw (k, gone, on, e, beq_not t) | no k ↦ rw (apart_other j i c d k, turns_other p c i j k) ]

-- ---- the bound

pub bends_five : (a b : ℕ) → bends a b ≤ 5
unfolding bends
bends_five a b = omega arith

bends_keep : (a b : ℕ) → bends a b ≤ bends (suc a) b
unfolding bends
bends_keep a b = omega arith

bends_turn : (a b : ℕ) → a ≤ 2 → suc (bends b a) ≤ bends a (suc b)
unfolding bends
bends_turn a b h = omega arith

-- a forward hop does not raise the phase and the turns to come, if it turns only where at most two dimensions are left in the phase's direction
module _ (n d p c i : ℕ) (hi : i < n) (on : apart i c d ≡ true) (few : turns p c i ≡ true → ways n d p c false ≤ 2) where
  pub bends_step :
      after p c i + bends (ways n d (after p c i) (flip i c) false) (ways n d (after p c i) (flip i c) true)
      ≤ p + bends (ways n d p c false) (ways n d p c true)
  bends_step = go (either (turns p c i))
    where
      go : (turns p c i ≡ true) ⊎ (turns p c i ≡ false)
          → after p c i + bends (ways n d (after p c i) (flip i c) false) (ways n d (after p c i) (flip i c) true)
          ≤ p + bends (ways n d p c false) (ways n d p c true)
      go (inl t) =
          rw (
            after_turn p c i t,
            ways_suc n d p (flip i c) false,
            ways_suc n d p (flip i c) true,
            ways_fall n d p c i hi on true t,
            ways_stay n d p c i hi on true t,
          )
          (omega (arith, bends_turn (ways n d p c false) (ways n d p (flip i c) true) (few t)))
      go (inr t) =
          rw (after_keep p c i t, ways_fall n d p c i hi on false t, ways_stay n d p c i hi on false t)
          (omega (arith, bends_keep (ways n d p (flip i c) false) (ways n d p c true)))

-- ---- what may still come

module _ (n : ℕ) (lab : ℕ → ℕ) (d p c : ℕ) where
  pub still_near : (dist c d ≤ 1) ⊎ (lab c ≡ 0) → still n lab d p c ≡ bends (ways n d p c false) (ways n d p c true)
  unfolding still
  still_near h = rw (go h)
    where
      go : (dist c d ≤ 1) ⊎ (lab c ≡ 0) → (leb (dist c d) 1 || eqb (lab c) 0) ≡ true
      go (inl e) = or_left (eqb (lab c) 0) (le-leb (dist c d) 1 e)
      go (inr e) = or_right (leb (dist c d) 1) (eq-eqb (lab c) 0 e)

  pub still_far : 1 < dist c d → 0 < lab c → still n lab d p c ≡ 4 + 2 * lab c
  unfolding still
  still_far h k = rw (lt-leb (dist c d) 1 h, ne_eqb (lab c) 0 (λ e. omega arith))

  pub still_most : still n lab d p c ≤ max 5 (4 + 2 * lab c)
  still_most = go (either (leb (dist c d) 1)) (either (eqb (lab c) 0))
    where
      close : (dist c d ≤ 1) ⊎ (lab c ≡ 0) → still n lab d p c ≤ max 5 (4 + 2 * lab c)
      close h = omega (arith, still_near h, bends_five (ways n d p c false) (ways n d p c true))

      go : (leb (dist c d) 1 ≡ true) ⊎ (leb (dist c d) 1 ≡ false) → (eqb (lab c) 0 ≡ true) ⊎ (eqb (lab c) 0 ≡ false) → still n lab d p c ≤ max 5 (4 + 2 * lab c)
      go (inl a) _ = close (inl (leb-true (dist c d) 1 a))
      go (inr a) (inl b) = close (inr (eqb-true (lab c) 0 b))
      go (inr a) (inr b) =
          let l = leb-false (dist c d) 1 a in
          omega (arith, still_far l (omega (arith, eqb-false (lab c) 0 b)))

  -- an unsafe node, 2 hops or more away, is met early
  pub early : Room n lab d p c → 1 < dist c d → 0 < lab c → p + 4 + 2 * lab c ≤ 9
  early room h k = omega (arith, still_far h k)
