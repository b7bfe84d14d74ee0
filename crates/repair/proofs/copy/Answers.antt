use mathlib.Core.List.{List}
use mathlib.Core.Path.{◌≡◌, refl, ◌∙◌}
use Prim.Native.Nat.{ℕ}
use native.Mathlib.Omega.{arith}
use lib.ListN.{get_or, length}
use lib.Seq.{ext_get_or}
use Rattle.cube.specs.Tables.{tab}
use Rattle.cube.proofs.Front.{get_d_tab, length_tab}
use Rattle.cube.proofs.Filling.{fill_start, fill_write, fill_end}
use Rattle.repair.proofs.copy.Goals as goal

-- the list of a list's numbers is the list
same : (s : List ℕ) → tab (length s) (λ k. get_or s k 0) ≡ s
same s =
    let long = length_tab (length s) (λ k. get_or s k 0) in
    ext_get_or 0 (tab (length s) (λ k. get_or s k 0)) s long (λ k h. get_d_tab (length s) (λ j. get_or s j 0) k (omega (arith, long)))

pub loop-i-init : goal.loop-i-init
loop-i-init c = fill_start _ _

pub loop-i-preserved : goal.loop-i-preserved
loop-i-preserved c = fill_write _ _ _ _ c.loop-i.invariant _ (omega (arith, c.requires)) refl

pub returns : goal.returns
returns c = fill_end _ _ _ _ c.loop-i.invariant _ c.requires (omega (arith, c.requires)) ∙ same c.args.from.now
