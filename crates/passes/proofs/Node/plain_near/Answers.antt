use mathlib.Core.Path.{refl, sym, ap, ◌∙◌}
use Prim.Native.Nat.{ℕ, ◌+◌, ◌<◌}
use native.Mathlib.Omega.{arith}
use borrow.Author.Count.{below_more}
use borrow.Author.Tests.{eq-eqb, ne_eqb}
use Rattle.cube.specs.Tables.{label_in}
use Rattle.cube.proofs.Cube.{flip_lt}
use Rattle.rule.proofs.Looks.{near_here, near_none}
use Rattle.passes.specs.Passes.{plain_in}
use Rattle.passes.proofs.Crossing.{across, doubled}
use Rattle.passes.proofs.Node.plain_near.Goals as goal

pub loop-k-init : goal.loop-k-init
loop-k-init c = (λ j h. absurd (omega arith), refl, refl)

pub bounds-self-self : goal.bounds-self-self
bounds-self-self c =
    let s = c.args.self in
    let more : c.loop-k.looked < c.args.self.n = omega (arith, c.loop-k.invariant.2, c.loop-k-test.true) in
    omega (arith, across _ _ c.loop-k.invariant.1 s.x, s.is_node.sized, flip_lt s.n c.loop-k.looked s.x more s.is_node.inside)

pub returns-then-self-bit-eq-PLAIN : goal.returns-then-self-bit-eq-PLAIN
unfolding plain_in label_in
returns-then-self-bit-eq-PLAIN c =
    let e = ap (label_in c.args.self.labels.now) (across _ _ c.loop-k.invariant.1 c.args.self.x) in
    let more : c.loop-k.looked < c.args.self.n = omega (arith, c.loop-k.invariant.2, c.loop-k-test.true) in
    let r = near_here _ _ _ _ c.loop-k.invariant.0 more (eq-eqb _ _ (sym e ∙ c.if-self-bit-eq-PLAIN.true)) in
    record { holds = r.0; looked = r.1 }

pub loop-k-preserved : goal.loop-k-preserved
unfolding plain_in label_in
loop-k-preserved c =
    let e = ap (label_in c.args.self.labels.now) (across _ _ c.loop-k.invariant.1 c.args.self.x) in (
      below_more _ _ c.loop-k.invariant.0 (ne_eqb _ _ (λ q. c.if-self-bit-eq-PLAIN.false (e ∙ q))),
      doubled _ _ c.loop-k.invariant.1,
      ap (λ (j : ℕ). j + 1) c.loop-k.invariant.2,
    )

pub returns : goal.returns
returns c =
    let n = c.args.self.n in
    let r = near_none n _ _ c.loop-k.looked (λ (j : ℕ) (h : j < c.loop-k.looked). c.loop-k.invariant.0 j (omega arith)) (omega (arith, c.loop-k.invariant.2)) in
    record { holds = r.0; looked = r.1 }
