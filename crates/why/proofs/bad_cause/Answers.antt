-- `bad_cause` names the lowest neighbours that do not work or have a mark, as many as the rule's number.
use native.Mathlib.Omega.{arith}
use Rattle.why.proofs.Causing.{short, three_is, two_is}
use Rattle.why.proofs.bad_cause.Goals as goal

pub overflow_add-a : goal.overflow_add-a
overflow_add-a c = omega (arith, short _ _ _ _ c.args.node.is_node.small c.next_from-a.ensures)

pub returns-then-rule-eq2 : goal.returns-then-rule-eq2
returns-then-rule-eq2 c = two_is _ _ _ _ _ _ c.next_from-a.ensures c.next_from-b.ensures c.if-rule-eq2.true

pub overflow_add-b : goal.overflow_add-b
overflow_add-b c = omega (arith, short _ _ _ _ c.args.node.is_node.small c.next_from-b.ensures)

pub returns : goal.returns
returns c =
    three_is _ _ _ _ _ _ c.next_from-a.ensures c.next_from-b.ensures _ c.if-rule-eq2.false c.next_from-c.ensures
