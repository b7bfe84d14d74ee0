-- The neighbours of a node are all different nodes: across dimension i bit i is changed, and across another it is not. So a node has no more neighbours in a
-- set than the set has nodes. And two hops lead to the same node in either order.
use mathlib.Core.Path.{◌≡◌, refl, sym, ap, ◌∙◌}
use mathlib.Core.Bool.{Bool, true, false, xor}
use Prim.Native.Nat.{ℕ, ◌^◌, ◌≤◌, ◌<◌}
use native.Mathlib.Decide.{ℕ_discrete}
use Rattle.cube.specs.Count.{count}
use Rattle.cube.specs.Cube.{bit, flip}
use Rattle.cube.proofs.Bools.{not_itself, xor_not}
use Rattle.cube.proofs.Count.{count_into}
use Rattle.cube.proofs.Cube.{bit_flip_other, bit_flip_same, bit-xor, bits_same, flip_lt}

flip_one : (i j x : ℕ) → flip i x ≡ flip j x → i ≡ j
flip_one i j x e =
    elim (ℕ_discrete i j) [
      | yes s ↦ s
      | no d ↦ absurd (not_itself (bit i x) (sym (xor_not (bit i x)) ∙ sym (bit_flip_same i x) ∙ ap (bit i) e ∙ bit_flip_other i j x d))
    ]

pub near_few : (n x : ℕ) (F : ℕ → Bool) → x < 2 ^ n → count n (λ i. F (flip i x)) ≤ count (2 ^ n) F
near_few n x F hx =
    count_into n (2 ^ n) (λ i. F (flip i x)) F (λ i. flip i x) (λ i h e. (flip_lt n i x h hx, e)) (λ i j h k. flip_one i j x)

-- ---- two hops

xor_swap : (a b c : Bool) → xor (xor a b) c ≡ xor (xor a c) b
unfolding xor
xor_swap true true true = refl
xor_swap true true false = refl
xor_swap true false true = refl
xor_swap true false false = refl
xor_swap false true true = refl
xor_swap false true false = refl
xor_swap false false true = refl
xor_swap false false false = refl

pub flip_swap : (n i j x : ℕ) → i < n → j < n → x < 2 ^ n → flip i (flip j x) ≡ flip j (flip i x)
unfolding flip
flip_swap n i j x hi hj hx =
    bits_same n (flip i (flip j x)) (flip j (flip i x)) (flip_lt n i (flip j x) hi (flip_lt n j x hj hx)) (flip_lt n j (flip i x) hj (flip_lt n i x hi hx))
    (λ l _. rw (bit-xor, bit-xor) (xor_swap (bit l x) (bit l (2 ^ j)) (bit l (2 ^ i)) ∙ sym (rw (bit-xor, bit-xor))))
