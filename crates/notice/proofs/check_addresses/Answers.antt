use mathlib.Core.Path.{sym, ◌∙◌}
use native.Mathlib.Omega.{arith}
use Rattle.groups.proofs.Groups.{read_number}
use Rattle.notice.proofs.Passes.{checked, check_refused, check_over, check_on}
use Rattle.notice.proofs.check_addresses.Goals as goal

pub returns-in_default : goal.returns-in_default
returns-in_default c =
    let e = c.in_default.is in
    e ∙ check_refused c.loop-i.invariant (omega arith) (sym e ∙ c.number_at-number.ensures)

pub overflow_add-address : goal.overflow_add-address
overflow_add-address c =
    omega (arith, c.loop-i.invariant.low, (read_number _ _ _ _ (sym c.number_at-number.ensures ∙ c.in-Ok.is)).small)

pub returns-then-size-address : goal.returns-then-size-address
returns-then-size-address c =
    check_over c.loop-i.invariant (omega arith) (sym c.in-Ok.is ∙ c.number_at-number.ensures) (omega arith)

pub loop-i-preserved : goal.loop-i-preserved
loop-i-preserved c =
    check_on c.loop-i.invariant (omega arith) (sym c.in-Ok.is ∙ c.number_at-number.ensures) c.if-size-address.false (omega arith)

pub returns : goal.returns
returns c = checked c.loop-i.invariant (omega arith)
