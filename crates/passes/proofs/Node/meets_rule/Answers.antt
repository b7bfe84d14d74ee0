use mathlib.Core.Path.{◌≡◌, refl, ap, ◌∙◌}
use Prim.Native.Nat.{ℕ, ◌+◌, ◌^◌, ◌<◌, ◌≤◌}
use native.Mathlib.Omega.{arith}
use Rattle.cube.specs.Cube.{flip}
use Rattle.cube.specs.Tables.{label_in}
use Rattle.cube.proofs.Cube.{flip_lt}
use Rattle.passes.specs.Passes.{KeptByte, kept_plain, kept_mark, kept_out, kept_new}
use Rattle.rule.proofs.Looks.{rule_looked}
use Rattle.passes.proofs.Crossing.{across, doubled}
use Rattle.passes.proofs.Testing.{seen_all, seen_enough, seen_next, seen_none, weight_few}
use Rattle.passes.proofs.Node.meets_rule.Goals as goal
use Rattle.passes.proofs.Node.meets_rule.Goals.{In-loop-i}

pub loop-i-init : goal.loop-i-init
loop-i-init c = (seen_none _ _ _ _ (omega arith) (omega arith), refl, refl)

-- the neighbour that is read is a node of the cube
inside : (c : In-loop-i) → let s = c.args.self in flip c.loop-i.looked s.x < 2 ^ s.n
inside c = let s = c.args.self in flip_lt s.n c.loop-i.looked s.x (omega (arith, c.loop-i.invariant.2, c.loop-i-test.true)) s.is_node.inside

pub bounds-self-self : goal.bounds-self-self
bounds-self-self c =
    let s = c.args.self in
    omega (arith, across _ _ c.loop-i.invariant.1 s.x, s.is_node.sized, inside (goal.at.bounds-self-self c).In-loop-i)

-- its byte is one of those that the table has
kept : (c : In-loop-i) → KeptByte (label_in c.args.self.labels.now (flip c.loop-i.looked c.args.self.x))
kept c = c.requires _ (omega (arith, c.args.self.is_node.sized, inside c))

few : (b : ℕ) → KeptByte b → b ≤ 128
few b kept_plain = omega arith
few b kept_mark = omega arith
few b kept_out = omega arith
few b kept_new = omega arith

pub overflow_add-weight : goal.overflow_add-weight
unfolding label_in
overflow_add-weight c =
    let p = c.args.rule.is_rule in
    let e = ap (label_in c.args.self.labels.now) (across _ _ c.loop-i.invariant.1 c.args.self.x) in
    let b = few _ (kept (goal.at.overflow_add-weight c).In-loop-i) in
    omega (arith, e, b, weight_few _ _ _ _ p.0 p.1 _ _ c.loop-i.invariant.0 (omega (arith, c.loop-i.invariant.2, c.loop-i-test.true, c.args.self.is_node.small)))

pub returns-then-weight-ge64 : goal.returns-then-weight-ge64
unfolding label_in
returns-then-weight-ge64 c =
    let p = c.args.rule.is_rule in
    let k = kept (goal.at.returns-then-weight-ge64 c).In-loop-i in
    let e = ap (label_in c.args.self.labels.now) (across _ _ c.loop-i.invariant.1 c.args.self.x) in
    let more : c.loop-i.looked < c.args.self.n = omega (arith, c.loop-i.invariant.2, c.loop-i-test.true) in
    let enough = rule_looked _ _ _ _ _ (seen_enough _ _ _ _ p.0 p.1 _ _ c.loop-i.invariant.0 _ more e k (omega arith)) in
    record { holds = enough.0; looked = enough.1 }

pub loop-i-preserved : goal.loop-i-preserved
unfolding label_in
loop-i-preserved c =
    let p = c.args.rule.is_rule in
    let k = kept (goal.at.loop-i-preserved c).In-loop-i in
    let e = ap (label_in c.args.self.labels.now) (across _ _ c.loop-i.invariant.1 c.args.self.x) in
    let more : c.loop-i.looked < c.args.self.n = omega (arith, c.loop-i.invariant.2, c.loop-i-test.true) in (
      seen_next _ _ _ _ p.0 p.1 _ _ c.loop-i.invariant.0 _ more e k (omega arith),
      doubled _ _ c.loop-i.invariant.1,
      ap (λ (j : ℕ). j + 1) c.loop-i.invariant.2,
    )

pub returns : goal.returns
returns c =
    let p = c.args.rule.is_rule in
    let end : c.loop-i.looked ≡ c.args.self.n = omega (arith, c.loop-i.invariant.2) in
    let all = rule_looked _ _ _ _ _ (seen_all _ _ _ _ p.0 p.1 _ _ c.loop-i.invariant.0 end) in
    record { holds = all.0; looked = end ∙ all.1 }
