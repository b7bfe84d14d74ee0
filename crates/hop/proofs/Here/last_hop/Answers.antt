-- `last_hop` asks of the lowest forward dimension what scan 0 asks of each: where it is the only one the neighbour across it is d, and otherwise none leads
-- there.
use mathlib.Core.Path.{◌≡◌}
use native.Mathlib.Omega.{arith}
use lib.Bits.{bit_xor, xor_lt}
use lib.Count.{count_trailing_zeros}
use Rattle.hop.proofs.Scanning.{last_left, last_taken}
use Rattle.hop.proofs.Sets.{LowestOf, found_none, found_some, lowest_of, one_only, only_one, some_forward}
use Rattle.hop.proofs.Here.last_hop.Goals as goal
use Rattle.hop.proofs.Here.last_hop.Goals.{Start}

-- there is a forward dimension, and i is the lowest of them
some-dimension : (a : Start) → let s = a.args.self.now in bit_xor s.c s.d ≡ 0 → ⊥
some-dimension a = let s = a.args.self.now in some_forward _ _ _ s.inside s.target a.requires

here : (a : Start) → let s = a.args.self.now in let x = bit_xor s.c s.d in LowestOf s.n x (count_trailing_zeros 64 x)
here a = let s = a.args.self.now in let small = s.small in lowest_of _ _ (omega arith) (xor_lt _ _ _ s.inside s.target) (some-dimension a)

pub returns-then-forward-ne0 : goal.returns-then-forward-ne0
returns-then-forward-ne0 c = found_none _ _ (last_left _ _ _ _ _ _ (here (goal.at.returns-then-forward-ne0 c).Start) (λ e _. c.if-forward-ne0.true (one_only _ _ _ _ (here (goal.at.returns-then-forward-ne0 c).Start) e)))

pub bounds-self-last : goal.bounds-self-last
bounds-self-last c = omega (arith, here (goal.at.bounds-self-last c).Start)

pub returns-then-self-last-eq-DRAINING : goal.returns-then-self-last-eq-DRAINING
returns-then-self-last-eq-DRAINING c =
    let f = here (goal.at.returns-then-self-last-eq-DRAINING c).Start in
    found_some _ _ _ f.inside (last_taken _ _ _ _ _ _ f (only_one _ _ _ _ f c.if-forward-ne0.false) c.if-self-last-eq-DRAINING.true)

pub returns : goal.returns
returns c = found_none _ _ (last_left _ _ _ _ _ _ (here (goal.at.returns c).Start) (λ _ q. c.if-self-last-eq-DRAINING.false q))
