-- `cause` names the two lowest neighbours that do not work, where it finds a second one.
use native.Mathlib.Omega.{arith}
use Rattle.why.proofs.Causing.{bad_is, faulty_is, short}
use Rattle.why.proofs.cause.Goals as goal

pub overflow_add-a : goal.overflow_add-a
overflow_add-a c = omega (arith, short _ _ _ _ c.args.node.is_node.small c.next_from-a.ensures)

pub returns-then-b-node : goal.returns-then-b-node
returns-then-b-node c = faulty_is _ _ _ _ _ _ c.next_from-a.ensures c.next_from-b.ensures c.if-b-node.true

pub returns : goal.returns
returns c =
    bad_is _ _ _ _ _ _ c.next_from-a.ensures c.next_from-b.ensures (λ h. omega (arith, c.if-b-node.false)) _ c.bad_cause.ensures
