use Prim.Native.Nat.{◌<◌}
use native.Mathlib.Omega.{arith}
use Rattle.blocks.specs.Board.{most_hops}
use Rattle.walk_networks.proofs.Steps.{delivered, halted, lacking, most_few, on, room, start}
use Rattle.walk_networks.proofs.find.Goals as goal
use Rattle.walk_networks.proofs.find.Goals.{Else-networks-next}

-- the hop is made: there is room for it in the list
room_at : (c : Else-networks-next) → let a = c.args in c.loop-at.hops < most_hops a.labels.n a.networks
room_at c =
    let p = c.requires in
    room _ _ _ _ _ p.0 p.2 _ _ _ _ _ c.loop-at.invariant p.1 c.loop-at-test.true _ c.in-Some.ensures _ c.after-next.ensures c.if-networks-next.false

few-at : (c : Else-networks-next) → c.loop-at.hops < 120
few-at c =
    let p = c.requires in
    omega (arith, room_at c, most_few _ _ c.args.labels.small p.3)

pub loop-at-init : goal.loop-at-init
loop-at-init c = let p = c.requires in start _ _ _ _ _ p.0 p.2 _

pub returns-in_default : goal.returns-in_default
returns-in_default c =
    let p = c.requires in
    let r = halted _ _ _ _ _ p.0 p.2 _ _ _ _ _ c.loop-at.invariant p.1 c.loop-at-test.true c.in_default.ensures in
    record { answer = r.0; list = r.1 }

pub returns-then-networks-next : goal.returns-then-networks-next
returns-then-networks-next c =
    let p = c.requires in
    let r = lacking _ _ _ _ _ p.0 p.2 _ _ _ _ _ c.loop-at.invariant p.1 c.loop-at-test.true _ c.in-Some.ensures _
    c.after-next.ensures c.if-networks-next.true in
    record { answer = r.0; list = r.1 }

pub bounds-list-hops : goal.bounds-list-hops
bounds-list-hops c = few-at (goal.at.bounds-list-hops c).Else-networks-next

pub overflow_add-hops : goal.overflow_add-hops
overflow_add-hops c = omega (arith, few-at (goal.at.overflow_add-hops c).Else-networks-next)

pub loop-at-smaller : goal.loop-at-smaller
loop-at-smaller c = omega (arith, room_at (goal.at.loop-at-smaller c).Else-networks-next)

pub loop-at-preserved : goal.loop-at-preserved
loop-at-preserved c =
    let p = c.requires in
    on _ _ _ _ _ p.0 p.2 _ _ _ _ _ c.loop-at.invariant p.1 c.loop-at-test.true _ c.in-Some.ensures _ c.after-next.ensures c.if-networks-next.false (omega (arith, few-at (goal.at.loop-at-preserved c).Else-networks-next, p.4)) _ c.neighbour-at.ensures

pub returns : goal.returns
returns c =
    let p = c.requires in
    let r = delivered _ _ _ _ _ p.0 p.2 _ _ _ _ _ c.loop-at.invariant c.loop-at-test.false in
    record { answer = r.0; list = r.1 }
