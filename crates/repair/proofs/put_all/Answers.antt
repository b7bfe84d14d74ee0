use mathlib.Core.Path.{◌≡◌, ◌∙◌}
use Prim.Native.Nat.{ℕ, ◌^◌, ◌<◌}
use native.Mathlib.Omega.{arith}
use Rattle.cube.specs.Cube.{flip}
use Rattle.cube.proofs.Cube.{flip_lt}
use Rattle.cube.proofs.Tables.{node_room, nodes_few}
use Rattle.repair.proofs.Hearing.{bit_clear, bit_set, heard_named, heard_silent, heard_start}
use Rattle.repair.proofs.put_all.Goals as goal
use Rattle.repair.proofs.put_all.Goals.{else-mask-i-eq1, then-mask-i-eq1}

neighbour-within : (n w i : ℕ) {k : ℕ} {A B C : Type 0} → k ≡ flip i w → i < n → A × (B × (C × (w < 2 ^ n))) → k < 2 ^ n
neighbour-within n w i e h p = omega (arith, e, flip_lt n i w h p.1.1.1)

pub loop-i-init : goal.loop-i-init
loop-i-init c = heard_start _ _ _ _

pub put_named-requires : goal.put_named-requires
put_named-requires c =
    let near = neighbour-within c.args.n c.args.w c.loop-i.i c.neighbour.ensures (omega arith) c.requires in (
      node_room c.args.n _ _ (c.loop-i.invariant.table_sized ∙ c.requires.1.0) near,
      (omega (arith, near, c.loop-i.invariant.row_sized, c.requires.1.1.0), omega (arith, nodes_few c.args.n c.requires.0, c.requires.1.1.1)),
    )

pub loop-i-preserved : goal.loop-i-preserved
loop-i-preserved c =
    let H = c.loop-i.invariant in
    let near : (k : ℕ) → k ≡ flip c.loop-i.i c.args.w → k < 2 ^ c.args.n =
    λ k e. neighbour-within c.args.n c.args.w c.loop-i.i e (omega arith) c.requires in
    elim c.if-mask-i-eq1.branch [
      | then-mask-i-eq1 x ↦
          rw (x.res-is, x.row-is)
          (heard_named H (bit_set _ _ x.if-mask-i-eq1.true) x.neighbour.ensures
          (node_room c.args.n _ _ (H.table_sized ∙ c.requires.1.0) (near _ x.neighbour.ensures))
          (omega (arith, near _ x.neighbour.ensures, H.row_sized, c.requires.1.1.0)) x.put_named.ensures.table x.put_named.ensures.row)
      | else-mask-i-eq1 x ↦ rw (x.res-is, x.row-is) (heard_silent H (bit_clear _ _ x.if-mask-i-eq1.false))
    ]
