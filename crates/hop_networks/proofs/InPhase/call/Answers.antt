-- `call`: each block that finds nothing is passed, and the first that finds a dimension makes its hop or ends the call.
use mathlib.Core.Path.{◌≡◌, refl, sym, ap, ap₂, ◌∙◌}
use mathlib.Core.Bool.{Bool, true}
use Prim.Native.Nat.{ℕ, ◌<◌, ◌^◌}
use native.Mathlib.Omega.{arith}
use lib.Bits.{bit_and, bit_xor}
use lib.ListN.{get_or}
use Rattle.std.specs.Prelude.{Option, None}
use Rattle.std.specs.Bool.{then_some}
use Rattle.cube.specs.Count.{least}
use Rattle.cube.specs.Cube.{dist}
use Rattle.hop.specs.Helpers.{found, in_set}
use Rattle.hop_networks.specs.Helpers.{is_forward, on_set, side_set}
use Rattle.blocks.specs.Blocks.{block_at, block_of, eager, lowest, on, turning}
use Rattle.hop.proofs.Sets.{none_found}
use Rattle.hop_networks.proofs.Calling as calling
use Rattle.hop_networks.proofs.Calling.{Past, last, last_not, on_block, onward, onward_lt, pass, past_none, shy, take, turned, turned_lt, turning_block}
use Rattle.hop_networks.proofs.InPhase.call.Goals as goal
use Rattle.hop_networks.proofs.InPhase.call.Goals.{Else-not-eager, In_default-lowest-3, In_default-lowest-4}

-- set is the dimensions of the side, mask those of the phase's direction
module _ (n c d p own : ℕ) (near : ℕ → ℕ) (side : Bool) (set mask : ℕ) (es : set ≡ side_set n c d side) (em : mask ≡ on_set n c p) where
  on-is : bit_and set mask ≡ onward n c d p side
  on-is = ap₂ bit_and es em

  turning-is : bit_xor set (bit_and set mask) ≡ turned n c d p side
  turning-is = ap₂ bit_xor es on-is

  -- a search in one of them is a block's
  on-found : (r : Option ℕ) (s t : ℕ) (may : Bool) → r ≡ found n (least n (in_set (bit_and set mask) near t)) → block_at own (dist c d) p s ≡ block_of on t true may
      → r ≡ found n (lowest n c d p own near side s)
  on-found r s t may e b = e ∙ ap (λ (x : ℕ). found n (least n (in_set x near t))) on-is ∙ ap (found n) (on_block n c d p own near side s t may b)

  turning-found : (r : Option ℕ) (s t : ℕ) (may : Bool) → r ≡ found n (least n (in_set (bit_xor set (bit_and set mask)) near t))
      → block_at own (dist c d) p s ≡ block_of turning t true may → r ≡ found n (lowest n c d p own near side s)
  turning-found r s t may e b = e ∙ ap (λ (x : ℕ). found n (least n (in_set x near t))) turning-is ∙ ap (found n) (turning_block n c d p own near side s t may b)

  -- both are sets of the n dimensions
  on-small : c < 2 ^ n → d < 2 ^ n → bit_and set mask < 2 ^ n
  on-small hc hd = omega (arith, on-is, onward_lt n c d p side hc hd)

  turning-small : c < 2 ^ n → d < 2 ^ n → bit_xor set (bit_and set mask) < 2 ^ n
  turning-small hc hd = omega (arith, turning-is, turned_lt n c d p side hc hd)

  -- the first blocks passed, one after the other
  module _ (e1 : None ≡ found n (least n (in_set (bit_and set mask) near 0))) where
    past1 : Past n c d p own near side 1
    past1 = pass n c d p own near side 0 (past_none n c d p own near side) (none_found _ _ (on-found _ 0 0 _ e1 refl))

    module _ (e2 : None ≡ found n (least n (in_set (bit_xor set (bit_and set mask)) near 0))) where
      past2 : Past n c d p own near side 2
      past2 = pass n c d p own near side 1 past1 (none_found _ _ (turning-found _ 1 0 _ e2 refl))

      module _ (e3 : None ≡ found n (least n (in_set (bit_and set mask) near 1))) where
        past3 : Past n c d p own near side 3
        past3 = pass n c d p own near side 2 past2 (none_found _ _ (on-found _ 2 1 _ e3 refl))

        past4 : None ≡ found n (least n (in_set (bit_xor set (bit_and set mask)) near 1)) → Past n c d p own near side 4
        past4 e4 = pass n c d p own near side 3 past3 (none_found _ _ (turning-found _ 3 1 _ e4 refl))

passed4 : (c : In_default-lowest-3) → let a = c.args.self.now.here in Past a.n a.c a.d c.args.self.now.phase a.own (λ i. get_or a.near.now i 0) (is_forward c.args.side) 4
passed4 c =
    past4 _ _ _ _ _ _ _ _ _ c.set-set.ensures c.on_set.ensures c.in_default.ensures c.in_default-lowest.ensures c.in_default-lowest-2.ensures
    c.in_default-lowest-3.ensures

-- the last two are tried
tried : (c : Else-not-eager) → let a = c.args.self.now.here in eager a.own (dist a.c a.d) ≡ true
tried c = ap (eager _) (sym c.distance-l.ensures) ∙ sym c.eager.ensures ∙ c.if-not-eager.false

passed5 : (c : In_default-lowest-4) → let a = c.args.self.now.here in
    eager a.own (dist a.c a.d) ≡ true → Past a.n a.c a.d c.args.self.now.phase a.own (λ i. get_or a.near.now i 0) (is_forward c.args.side) 4
    → Past a.n a.c a.d c.args.self.now.phase a.own (λ i. get_or a.near.now i 0) (is_forward c.args.side) 5
passed5 c t q =
    pass _ _ _ _ _ _ _ 4 q
    (none_found _ _ (on-found _ _ _ _ _ _ _ _ _ c.set-set.ensures c.on_set.ensures _ 4 2 _ c.in_default-lowest-4.ensures (ap (λ (b : Bool). block_of on 2 b true) t)))

pub lowest-requires : goal.lowest-requires
lowest-requires c =
    (c.args.self.now.here.small, on-small _ _ _ _ c.args.self.now.here.own (λ i. get_or c.args.self.now.here.near.now i 0) _ _ _ c.set-set.ensures c.on_set.ensures c.args.self.now.here.inside c.args.self.now.here.target)

pub returns-in-Some : goal.returns-in-Some
returns-in-Some c =
    take _ _ _ _ _ _ _ 0 _ (omega arith) (past_none _ _ _ _ _ _ _) (on-found _ _ _ _ _ _ _ _ _ c.set-set.ensures c.on_set.ensures _ 0 0 _ c.in-Some.ensures refl) refl

pub lowest-requires-2 : goal.lowest-requires-2
lowest-requires-2 c =
    (c.args.self.now.here.small, turning-small _ _ _ _ c.args.self.now.here.own (λ i. get_or c.args.self.now.here.near.now i 0) _ _ _ c.set-set.ensures c.on_set.ensures c.args.self.now.here.inside c.args.self.now.here.target)

pub returns-in-Some-lowest : goal.returns-in-Some-lowest
returns-in-Some-lowest c =
    take _ _ _ _ _ _ _ 1 _ (omega arith) (past1 _ _ _ _ _ _ _ _ _ c.set-set.ensures c.on_set.ensures c.in_default.ensures)
    (turning-found _ _ _ _ _ _ _ _ _ c.set-set.ensures c.on_set.ensures _ 1 0 _ c.in-Some-lowest.ensures refl) refl

pub lowest-requires-3 : goal.lowest-requires-3
lowest-requires-3 c =
    (c.args.self.now.here.small, on-small _ _ _ _ c.args.self.now.here.own (λ i. get_or c.args.self.now.here.near.now i 0) _ _ _ c.set-set.ensures c.on_set.ensures c.args.self.now.here.inside c.args.self.now.here.target)

pub returns-in-Some-lowest-2 : goal.returns-in-Some-lowest-2
returns-in-Some-lowest-2 c =
    take _ _ _ _ _ _ _ 2 _ (omega arith) (past2 _ _ _ _ _ _ _ _ _ c.set-set.ensures c.on_set.ensures c.in_default.ensures c.in_default-lowest.ensures)
    (on-found _ _ _ _ _ _ _ _ _ c.set-set.ensures c.on_set.ensures _ 2 1 _ c.in-Some-lowest-2.ensures refl) refl

pub lowest-requires-4 : goal.lowest-requires-4
lowest-requires-4 c =
    (c.args.self.now.here.small, turning-small _ _ _ _ c.args.self.now.here.own (λ i. get_or c.args.self.now.here.near.now i 0) _ _ _ c.set-set.ensures c.on_set.ensures c.args.self.now.here.inside c.args.self.now.here.target)

pub returns-in-Some-lowest-3 : goal.returns-in-Some-lowest-3
returns-in-Some-lowest-3 c =
    c.then_some.ensures
    ∙ ap (λ (b : Bool). then_some b c.in-Some-lowest-3.i) (rw c.distance-l.ensures at c.may_fourth.ensures)
    ∙ calling.fourth _ _ _ _ _ _ _ _ (past3 _ _ _ _ _ _ _ _ _ c.set-set.ensures c.on_set.ensures c.in_default.ensures c.in_default-lowest.ensures c.in_default-lowest-2.ensures)
    (turning-found _ _ _ _ _ _ _ _ _ c.set-set.ensures c.on_set.ensures _ 3 1 _ c.in-Some-lowest-3.ensures refl)

pub returns-then-not-eager : goal.returns-then-not-eager
returns-then-not-eager c =
    shy _ _ _ _ _ _ _ (passed4 (goal.at.returns-then-not-eager c).In_default-lowest-3)
    ((rw c.distance-l.ensures at (sym c.eager.ensures)) ∙ c.if-not-eager.true)

pub lowest-requires-5 : goal.lowest-requires-5
lowest-requires-5 c =
    (c.args.self.now.here.small, on-small _ _ _ _ c.args.self.now.here.own (λ i. get_or c.args.self.now.here.near.now i 0) _ _ _ c.set-set.ensures c.on_set.ensures c.args.self.now.here.inside c.args.self.now.here.target)

pub returns-in-Some-lowest-4 : goal.returns-in-Some-lowest-4
returns-in-Some-lowest-4 c =
    take _ _ _ _ _ _ _ 4 _ (omega arith) (passed4 (goal.at.returns-in-Some-lowest-4 c).In_default-lowest-3)
    (on-found _ _ _ _ _ _ _ _ _ c.set-set.ensures c.on_set.ensures _ 4 2 _ c.in-Some-lowest-4.ensures (ap (λ (b : Bool). block_of on 2 b true) (tried (goal.at.returns-in-Some-lowest-4 c).Else-not-eager))) refl

pub lowest-requires-then-may_sixth : goal.lowest-requires-then-may_sixth
lowest-requires-then-may_sixth c =
    (c.args.self.now.here.small, turning-small _ _ _ _ c.args.self.now.here.own (λ i. get_or c.args.self.now.here.near.now i 0) _ _ _ c.set-set.ensures c.on_set.ensures c.args.self.now.here.inside c.args.self.now.here.target)

pub returns-then-may_sixth : goal.returns-then-may_sixth
returns-then-may_sixth c =
    turning-found _ _ _ _ _ _ _ _ _ c.set-set.ensures c.on_set.ensures _ 5 2 _ c.lowest-then-may_sixth.ensures
    (ap (λ (b : Bool). block_of turning 2 b (block_at c.args.self.now.here.own (dist c.args.self.now.here.c c.args.self.now.here.d) c.args.self.now.phase 5).may) (tried (goal.at.returns-then-may_sixth c).Else-not-eager))
    ∙ last _ _ _ _ _ _ _ (passed5 (goal.at.returns-then-may_sixth c).In_default-lowest-4 (tried (goal.at.returns-then-may_sixth c).Else-not-eager) (passed4 (goal.at.returns-then-may_sixth c).In_default-lowest-3)) ((rw c.distance-l.ensures at (sym c.may_sixth.ensures)) ∙ c.if-may_sixth.true)

pub returns : goal.returns
returns c =
    last_not _ _ _ _ _ _ _ (passed5 (goal.at.returns c).In_default-lowest-4 (tried (goal.at.returns c).Else-not-eager) (passed4 (goal.at.returns c).In_default-lowest-3)) ((rw c.distance-l.ensures at (sym c.may_sixth.ensures)) ∙ c.if-may_sixth.false)
