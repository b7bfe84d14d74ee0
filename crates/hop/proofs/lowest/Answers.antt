use mathlib.Core.Path.{sym, ◌∙◌}
use native.Mathlib.Omega.{arith}
use lib.Count.{count_trailing_zeros}
use Rattle.cube.proofs.Cube.{flip_lt}
use Rattle.hop.proofs.Sets.{LowestOf, found_none, found_some, lowest_of, taken, too_high, none}
use Rattle.hop.proofs.lowest.Goals as goal
use Rattle.hop.proofs.lowest.Goals.{In-loop-rest}

-- in a turn the set is not empty, and i is its lowest dimension
here : (c : In-loop-rest) → LowestOf c.args.n c.loop-rest.rest (count_trailing_zeros 64 c.loop-rest.rest)
here c = lowest_of c.args.n c.loop-rest.rest (omega arith) c.loop-rest.invariant.0 c.loop-rest-test.true

pub bounds-near-i : goal.bounds-near-i
bounds-near-i c = omega (arith, here (goal.at.bounds-near-i c).In-loop-rest)

pub returns-then-near-i : goal.returns-then-near-i
returns-then-near-i c =
    let f = here (goal.at.returns-then-near-i c).In-loop-rest in
    found_some _ _ _ f.inside (taken _ _ _ _ _ f c.if-near-i.true ∙ sym c.loop-rest.invariant.1)

pub loop-rest-preserved : goal.loop-rest-preserved
loop-rest-preserved c =
    let f = here (goal.at.loop-rest-preserved c).In-loop-rest in
    let l = c.loop-rest in
    rw f.rest (flip_lt _ _ _ f.inside l.invariant.0, l.invariant.1 ∙ too_high _ _ _ _ _ c.if-near-i.false)

pub returns : goal.returns
returns c = found_none _ _ (none _ _ _ _ c.loop-rest-test.false ∙ sym c.loop-rest.invariant.1)
