-- `scanned`: each scan that finds nothing is passed, and the first that finds a dimension is taken.
use mathlib.Core.Path.{◌≡◌, refl, ap, ◌∙◌}
use Prim.Native.Nat.{ℕ, ◌-◌, ◌^◌}
use native.Mathlib.Omega.{arith}
use lib.Bits.{bit_xor}
use Rattle.std.specs.Prelude.{None}
use Rattle.cube.specs.Count.{least}
use Rattle.hop.specs.Helpers.{found, in_set}
use Rattle.hop.proofs.Scanning.{Past, forward_scan, last_scan, pass, past_none, spare_scan, take, take_none}
use Rattle.scans.specs.Scans.{lowest}
use Rattle.hop.proofs.scanned.Goals as goal

-- the scans passed, one after the other
module _ (n c d own : ℕ) (near : ℕ → ℕ) (e0 : None ≡ found n (lowest n c d 0 near 0)) where
  past1 : Past n c d own near 1
  past1 = pass n c d own near 0 (past_none n c d own near) (e0 ∙ ap (found n) (last_scan n c d own near))

  module _ (e1 : None ≡ found n (least n (in_set (bit_xor c d) near 0))) where
    past2 : Past n c d own near 2
    past2 = pass n c d own near 1 past1 (e1 ∙ ap (found n) (forward_scan n c d own near 1 0 refl))

    module _ (e2 : None ≡ found n (least n (in_set (bit_xor c d) near 1))) where
      past3 : Past n c d own near 3
      past3 = pass n c d own near 2 past2 (e2 ∙ ap (found n) (forward_scan n c d own near 2 1 refl))

      module _ (e3 : None ≡ found n (lowest n c d own near 3)) where
        past4 : Past n c d own near 4
        past4 = pass n c d own near 3 past3 e3

        past5 : None ≡ found n (least n (in_set (bit_xor (bit_xor c d) (2 ^ n - 1)) near 0)) → Past n c d own near 5
        past5 e4 = pass n c d own near 4 past4 (e4 ∙ ap (found n) (spare_scan n c d own near 4 0 refl))

pub returns-in-Some : goal.returns-in-Some
returns-in-Some c = take _ _ _ _ _ 0 _ (omega arith) (past_none _ _ _ _ _) (c.in-Some.ensures ∙ ap (found _) (last_scan _ _ _ _ _))

pub returns-in-Some-forward : goal.returns-in-Some-forward
returns-in-Some-forward c =
    take _ _ _ _ _ 1 _ (omega arith) (past1 _ _ _ _ _ c.in_default.ensures) (c.in-Some-forward.ensures ∙ ap (found _) (forward_scan _ _ _ _ _ 1 0 refl))

pub returns-in-Some-forward-2 : goal.returns-in-Some-forward-2
returns-in-Some-forward-2 c =
    take _ _ _ _ _ 2 _ (omega arith) (past2 _ _ _ _ _ c.in_default.ensures c.in_default-forward.ensures)
    (c.in-Some-forward-2.ensures ∙ ap (found _) (forward_scan _ _ _ _ _ 2 1 refl))

pub returns-in-Some-third : goal.returns-in-Some-third
returns-in-Some-third c =
    take _ _ _ _ _ 3 _ (omega arith) (past3 _ _ _ _ _ c.in_default.ensures c.in_default-forward.ensures c.in_default-forward-2.ensures) c.in-Some-third.ensures

pub returns-in-Some-spare : goal.returns-in-Some-spare
returns-in-Some-spare c =
    take _ _ _ _ _ 4 _ (omega arith)
    (past4 _ _ _ _ _ c.in_default.ensures c.in_default-forward.ensures c.in_default-forward-2.ensures c.in_default-third.ensures)
    (c.in-Some-spare.ensures ∙ ap (found _) (spare_scan _ _ _ _ _ 4 0 refl))

pub returns-in-Some-spare-2 : goal.returns-in-Some-spare-2
returns-in-Some-spare-2 c =
    take _ _ _ _ _ 5 _ (omega arith)
    (past5 _ _ _ _ _ c.in_default.ensures c.in_default-forward.ensures c.in_default-forward-2.ensures c.in_default-third.ensures c.in_default-spare.ensures)
    (c.in-Some-spare-2.ensures ∙ ap (found _) (spare_scan _ _ _ _ _ 5 1 refl))

pub returns : goal.returns
returns c =
    take_none _ _ _ _ _
    (pass _ _ _ _ _ 5
    (past5 _ _ _ _ _ c.in_default.ensures c.in_default-forward.ensures c.in_default-forward-2.ensures c.in_default-third.ensures c.in_default-spare.ensures)
    (c.in_default-spare-2.ensures ∙ ap (found _) (spare_scan _ _ _ _ _ 5 1 refl)))
