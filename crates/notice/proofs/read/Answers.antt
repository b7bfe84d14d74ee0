-- `read` makes the tests of a notice in their order (RULES, Refusal numbers), and writes only behind the last of them. Each return is one outcome of the
-- notice.
use mathlib.Core.Path.{sym, ◌∙◌}
use native.Mathlib.Omega.{arith}
use Rattle.notice.proofs.Cases.{handed_up}
use Rattle.notice.proofs.Outcomes.{small, rest_read, outcome_number, outcome_length, outcome_rest, outcome_room, outcome_notice}
use Rattle.notice.proofs.read.Goals as goal

pub returns-in_err-n : goal.returns-in_err-n
returns-in_err-n c = outcome_number _ _ (handed_up c.from_residual.result c.from_residual.ensures.1) (sym c.in_err-n.was ∙ c.dimension.ensures)

pub table_len-requires : goal.table_len-requires
table_len-requires c = omega (arith, small _ (sym c.in_ok-n.was ∙ c.dimension.ensures))

pub returns-then-faults-table_len : goal.returns-then-faults-table_len
returns-then-faults-table_len c =
    outcome_length _ (sym c.in_ok-n.was ∙ c.dimension.ensures) _ (λ e. c.if-faults-table_len.true (e ∙ sym c.table_len.ensures))

pub check_rest-requires : goal.check_rest-requires
check_rest-requires c = small _ (sym c.in_ok-n.was ∙ c.dimension.ensures)

pub returns-in_err-found : goal.returns-in_err-found
returns-in_err-found c =
    outcome_rest _ (sym c.in_ok-n.was ∙ c.dimension.ensures) _ (c.if-faults-table_len.false ∙ c.table_len.ensures)
    (handed_up c.from_residual-in_err-found.result c.from_residual-in_err-found.ensures.1) (sym c.in_err-found.was ∙ c.check_rest.ensures)

pub slice_bounds-write_addresses-count : goal.slice_bounds-write_addresses-count
slice_bounds-write_addresses-count c =
    (rest_read _ (sym c.in_ok-n.was ∙ c.dimension.ensures) (sym c.in_ok-found.was ∙ c.check_rest.ensures)).begins

pub slice_bounds-write_addresses-start : goal.slice_bounds-write_addresses-start
slice_bounds-write_addresses-start c =
    (rest_read _ (sym c.in_ok-n.was ∙ c.dimension.ensures) (sym c.in_ok-found.was ∙ c.check_rest.ensures)).begins

pub write_addresses-requires : goal.write_addresses-requires
write_addresses-requires c =
    outcome_room _ (sym c.in_ok-n.was ∙ c.dimension.ensures) (sym c.in_ok-found.was ∙ c.check_rest.ensures) c.args.faults.now
    (c.if-faults-table_len.false ∙ c.table_len.ensures) c.clear.ensures

pub returns : goal.returns
returns c =
    outcome_notice _ (sym c.in_ok-n.was ∙ c.dimension.ensures) (sym c.in_ok-found.was ∙ c.check_rest.ensures) _
    (c.if-faults-table_len.false ∙ c.table_len.ensures) c.clear.ensures c.write_addresses.ensures
