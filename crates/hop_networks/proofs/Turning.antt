-- Whether a hop turns, as the code finds it: by the lowest digit of the node, shifted down to the dimension, and of the phase.
use mathlib.Core.Path.{◌≡◌, sym, ◌∙◌}
use mathlib.Core.Logic.{⊎_elim}
use mathlib.Core.Bool.{true, false, cond}
use Prim.Native.Nat.{ℕ, ◌+◌, ◌/◌, ◌%◌, ◌^◌, ◌≤◌}
use native.Mathlib.Omega.{arith}
use lib.Bits.{bit_and, bit_xor, and_mask}
use lib.Dec.{eqb}
use borrow.Author.Tests.{eqb-false, eqb-true}
use Rattle.cube.specs.Cube.{bit}
use Rattle.cube.proofs.Bools.{by_cases, either}
use Rattle.cube.proofs.Cube.{bit_low, bit-xor}
use Rattle.blocks.specs.Phase.{after, down, turns}

digit : (x : ℕ) → x % 2 ≡ cond (eqb (x % 2) 1) 1 0
digit x =
    ⊎_elim (λ (e : eqb (x % 2) 1 ≡ true). rw e (eqb-true (x % 2) 1 e)) (λ (e : eqb (x % 2) 1 ≡ false). rw e (omega (arith, eqb-false (x % 2) 1 e)))
    (either (eqb (x % 2) 1))

module _ (p c i : ℕ) where
  abbrev x : ℕ
  x = bit_xor (c / 2 ^ i) p

  turns_is : eqb (x % 2) 1 ≡ turns p c i
  unfolding turns down bit
  turns_is = sym (bit_low x) ∙ bit-xor 0 (c / 2 ^ i) p ∙ rw (bit_low (c / 2 ^ i), bit_low p)

  turn_digit : bit_and x 1 ≡ cond (turns p c i) 1 0
  turn_digit = and_mask x 1 ∙ digit x ∙ rw turns_is

  pub one_on : p + bit_and x 1 ≡ after p c i
  unfolding after
  one_on = rw turn_digit (by_cases (λ (q : ℕ). p + cond (turns p c i) 1 0 ≡ q) (turns p c i) (λ e. rw e (omega arith)) (λ e. rw e (omega arith)))

  pub digit_low : bit_and x 1 ≤ 1
  digit_low = omega (arith, and_mask x 1)
