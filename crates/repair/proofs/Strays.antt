-- A bit at n or above: what is shifted down past bit n tells it, 0 exactly where there is none.
use mathlib.Core.Bool.{Bool, true, false, not}
use mathlib.Core.List.{List}
use mathlib.Core.Logic.{◌≢◌}
use mathlib.Core.Path.{◌≡◌, sym, ap, ◌∙◌}
use Prim.Native.Nat.{ℕ, ◌/◌, ◌^◌, ◌≤◌, ◌<◌}
use native.Mathlib.Omega.{arith}
use lib.Dec.{eqb}
use lib.ListN.{length}
use borrow.Author.Tests.{eq-eqb, ne_eqb}
use Rattle.std.specs.Bool.{MatchBool}
use Rattle.std.specs.List.{AllWithin, HoldsAt}
use Rattle.cube.proofs.Search.{some_hit, some_none}
use Rattle.cube.proofs.Tables.{shifted}
use Rattle.repair.specs.Repaired.{mask_of, stray_bit, strays}

stray_is : (n mask : ℕ) → n ≤ 16 → mask < 65536 → not (eqb (mask / 2 ^ n) 0) ≡ stray_bit n mask
unfolding stray_bit
stray_is n mask h l = shifted 16 n mask h l

-- of masks of 16 bits
module _ (n : ℕ) (masks : List ℕ) (few : n ≤ 16) (fits : (w : ℕ) → mask_of masks w < 65536) where
  -- w has one
  stray_here : (w : ℕ) → w < length masks → mask_of masks w / 2 ^ n ≢ 0 → strays n masks ≡ true
  unfolding strays
  stray_here w h d =
      some_hit (length masks) (λ v. stray_bit n (mask_of masks v)) w h
      (sym (stray_is n (mask_of masks w) few (fits w)) ∙ ap not (ne_eqb (mask_of masks w / 2 ^ n) 0 d))

  -- none has one
  stray_none : ((w : ℕ) → w < length masks → mask_of masks w / 2 ^ n ≡ 0) → strays n masks ≡ false
  unfolding strays
  stray_none f =
      some_none (length masks) (λ w. stray_bit n (mask_of masks w))
      (λ w l. sym (stray_is n (mask_of masks w) few (fits w)) ∙ ap not (eq-eqb (mask_of masks w / 2 ^ n) 0 (f w l)))

  pub strays_are : (r : Bool)
      → MatchBool r ((w : ℕ) × (w < length masks) × HoldsAt (λ m. m / 2 ^ n ≢ 0) masks w) (AllWithin (λ m. m / 2 ^ n ≡ 0) masks 0 (length masks))
      → r ≡ strays n masks
  strays_are true h = sym (stray_here h.0 h.1 (h.2 0))
  strays_are false h = sym (stray_none (λ w l. h w 0 (omega arith) l))
