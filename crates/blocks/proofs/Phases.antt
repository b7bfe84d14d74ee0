-- The laws of the phases. A hop keeps the phase or adds one to it, and what it crosses says in which direction the phase after it goes. Within a
-- phase the ones of the node rise, or fall, by one a hop; so the height, n for each phase and the ones or zeros besides, rises with every hop.
-- The height after a hop is a function of the channel that the hop uses: so the channels have an order that every message follows.
use mathlib.Core.Path.{◌≡◌, sym, ap, ◌∙◌}
use mathlib.Core.Logic.{◌⊎◌, inl, inr, ⊎_elim}
use mathlib.Core.Bool.{true, false, cond, not}
use Prim.Native.Nat.{ℕ, suc, ◌+◌, ◌*◌, ◌-◌, ◌%◌, ◌^◌, ◌≤◌, ◌<◌}
use native.Mathlib.Omega.{arith}
use lib.Bits.{xor_zero_r}
use lib.Count.{ones, ones-le}
use borrow.Author.Tests.{eqb-true, eqb-false, eq-eqb, ne_eqb}
use Rattle.cube.specs.Cube.{bit, flip, apart, dist}
use Rattle.cube.proofs.Bools.{either, xor_differ}
use Rattle.cube.proofs.Cube.{dist_fall, dist_rise, xor_eq}
use Rattle.blocks.specs.Phase.{down, turns, after, climbed, height, channel, order}

-- ---- directions

pub down_odd : (p : ℕ) → down p ≡ true → p % 2 ≡ 1
unfolding down
down_odd p e = eqb-true (p % 2) 1 e

pub up_even : (p : ℕ) → down p ≡ false → p % 2 ≡ 0
unfolding down
up_even p e = omega (arith, eqb-false (p % 2) 1 e)

pub odd_down : (p : ℕ) → p % 2 ≡ 1 → down p ≡ true
unfolding down
odd_down p e = eq-eqb (p % 2) 1 e

pub even_up : (p : ℕ) → p % 2 ≡ 0 → down p ≡ false
unfolding down
even_up p e = ne_eqb (p % 2) 1 (λ h. omega arith)

later_up : (p : ℕ) → down p ≡ true → down (suc p) ≡ false
later_up p e = even_up (suc p) (omega (arith, down_odd p e))

later_down : (p : ℕ) → down p ≡ false → down (suc p) ≡ true
later_down p e = odd_down (suc p) (omega (arith, up_even p e))

pub down_suc : (p : ℕ) → down (suc p) ≡ not (down p)
down_suc p = go (either (down p))
  where
    go : (down p ≡ true) ⊎ (down p ≡ false) → down (suc p) ≡ not (down p)
    go (inl e) = rw e (later_up p e)
    go (inr e) = rw e (later_down p e)

module _ (p c i : ℕ) where
  -- a hop that turns goes in the other direction, any other in the phase's
  pub turn_bit : turns p c i ≡ true → bit i c ≡ not (down p)
  unfolding turns
  turn_bit e = xor_differ (bit i c) (down p) e

  pub keep_bit : turns p c i ≡ false → bit i c ≡ down p
  unfolding turns
  keep_bit e = xor_eq (bit i c) (down p) e

  pub after_turn : turns p c i ≡ true → after p c i ≡ suc p
  unfolding after
  after_turn e = rw e

  pub after_keep : turns p c i ≡ false → after p c i ≡ p
  unfolding after
  after_keep e = rw e

-- the four kinds of hop: in which direction the phase goes, and whether the hop turns
pub data Kind (p c i : ℕ) : Type 0 where
  up_up : down p ≡ false → turns p c i ≡ false → bit i c ≡ false → after p c i ≡ p → Kind p c i
  down_down : down p ≡ true → turns p c i ≡ false → bit i c ≡ true → after p c i ≡ p → Kind p c i
  up_down : down p ≡ false → turns p c i ≡ true → bit i c ≡ true → after p c i ≡ suc p → Kind p c i
  down_up : down p ≡ true → turns p c i ≡ true → bit i c ≡ false → after p c i ≡ suc p → Kind p c i

pub kind : (p c i : ℕ) → Kind p c i
kind p c i = go (either (down p)) (either (turns p c i))
  where
    go : (down p ≡ true) ⊎ (down p ≡ false) → (turns p c i ≡ true) ⊎ (turns p c i ≡ false) → Kind p c i
    go (inl e) (inl t) = down_up e t (turn_bit p c i t ∙ ap not e) (after_turn p c i t)
    go (inl e) (inr t) = down_down e t (keep_bit p c i t ∙ e) (after_keep p c i t)
    go (inr e) (inl t) = up_down e t (turn_bit p c i t ∙ ap not e) (after_turn p c i t)
    go (inr e) (inr t) = up_up e t (keep_bit p c i t ∙ e) (after_keep p c i t)

-- a hop keeps the phase or adds one
pub keeps_or_adds : (p c i : ℕ) → (after p c i ≡ p) ⊎ (after p c i ≡ suc p)
keeps_or_adds p c i = ⊎_elim (λ t. inr (after_turn p c i t)) (λ t. inl (after_keep p c i t)) (either (turns p c i))

pub after_le : (p c i : ℕ) → after p c i ≤ suc p
after_le p c i = ⊎_elim (λ (e : after p c i ≡ p). omega arith) (λ (e : after p c i ≡ suc p). omega arith) (keeps_or_adds p c i)

-- a hop that goes down is made in a phase that goes down
pub after_odd : (p c i : ℕ) → cond (bit i c) 1 0 ≡ after p c i % 2
after_odd p c i = go (kind p c i)
  where
    go : Kind p c i → cond (bit i c) 1 0 ≡ after p c i % 2
    go (up_up e t b a) = rw (b, a) (sym (up_even p e))
    go (down_down e t b a) = rw (b, a) (sym (down_odd p e))
    go (up_down e t b a) = rw (b, a) (omega (arith, up_even p e))
    go (down_up e t b a) = rw (b, a) (omega (arith, down_odd p e))

-- ---- the ones of a node

ones_dist : (x : ℕ) → ones x ≡ dist x 0
unfolding dist
ones_dist x = rw (xor_zero_r x)

bit_apart : (i x : ℕ) → apart i x 0 ≡ bit i x
unfolding apart
bit_apart i x = rw (xor_zero_r x)

module _ (n c i : ℕ) (hc : c < 2 ^ n) (hi : i < n) where
  -- an up hop raises the ones by one, a down hop lowers them by one
  pub ones_up : bit i c ≡ false → ones (flip i c) ≡ suc (ones c)
  ones_up b = omega (arith, ones_dist c, ones_dist (flip i c), dist_rise n i c 0 hc (omega arith) hi (bit_apart i c ∙ b))

  pub ones_down : bit i c ≡ true → ones c ≡ suc (ones (flip i c))
  ones_down b = omega (arith, ones_dist c, ones_dist (flip i c), dist_fall n i c 0 hc (omega arith) hi (bit_apart i c ∙ b))

-- the phase in which a hop is made says which of the two it does
pub after_ones :
    (n p c i : ℕ) → c < 2 ^ n → i < n
    → ((down (after p c i) ≡ false) × (ones (flip i c) ≡ suc (ones c))) ⊎ ((down (after p c i) ≡ true) × (ones c ≡ suc (ones (flip i c))))
after_ones n p c i hc hi = go (kind p c i)
  where
    go : Kind p c i → ((down (after p c i) ≡ false) × (ones (flip i c) ≡ suc (ones c))) ⊎ ((down (after p c i) ≡ true) × (ones c ≡ suc (ones (flip i c))))
    go (up_up e t b a) = inl (rw a e, ones_up n c i hc hi b)
    go (down_down e t b a) = inr (rw a e, ones_down n c i hc hi b)
    go (up_down e t b a) = inr (rw a (later_down p e), ones_down n c i hc hi b)
    go (down_up e t b a) = inl (rw a (later_up p e), ones_up n c i hc hi b)

-- ---- the height

module _ (n p x : ℕ) where
  height_up : down p ≡ false → height n p x ≡ p * n + ones x
  unfolding height climbed
  height_up e = rw e

  height_down : down p ≡ true → height n p x ≡ p * n + (n - ones x)
  unfolding height climbed
  height_down e = rw e

  pub height_le : x < 2 ^ n → height n p x ≤ suc p * n
  height_le h = ⊎_elim (λ e. omega (arith, height_down e)) (λ e. omega (arith, height_up e, ones-le n x h)) (either (down p))

-- EVERY HOP RISES
pub rises : (n p c i : ℕ) → c < 2 ^ n → i < n → height n p c < height n (after p c i) (flip i c)
rises n p c i hc hi = go (kind p c i)
  where
    go : Kind p c i → height n p c < height n (after p c i) (flip i c)
    go (up_up e t b a) = rw a (omega (arith, height_up n p c e, height_up n p (flip i c) e, ones_up n c i hc hi b))
    go (down_down e t b a) = rw a (omega (arith, height_down n p c e, height_down n p (flip i c) e, ones_down n c i hc hi b, ones-le n c hc))
    go (up_down e t b a) =
        rw a
        (omega (
          arith,
          height_up n p c e,
          height_down n (suc p) (flip i c) (later_down p e),
          ones_down n c i hc hi b,
          ones-le n c hc,
        ))
    go (down_up e t b a) =
        rw a
        (omega (
          arith,
          height_down n p c e,
          height_up n (suc p) (flip i c) (later_up p e),
          ones_up n c i hc hi b,
        ))

-- ---- channels

-- the order of a hop's channel is the height after the hop
pub order_is : (n p c i : ℕ) → order n (channel p c i) ≡ height n (after p c i) (flip i c)
unfolding order
order_is n p c i = ap (λ q. height n q (flip i c)) (omega (arith, after_odd p c i))
