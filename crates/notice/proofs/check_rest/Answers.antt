-- `check_rest` opens the count, tests it, and hands the bytes behind it to the address reader. The end fits, and so does a refusal's place, for both are
-- among those bytes.
use mathlib.Core.Path.{◌≡◌, sym, ◌∙◌}
use native.Mathlib.Omega.{arith}
use lib.Pow.{pow_mono}
use Rattle.std.specs.Prelude.{Ok}
use Rattle.notice.specs.Notice.{count_at}
use Rattle.notice.proofs.Cases.{handed_up}
use Rattle.notice.proofs.Outcomes.{count_many, count_refused, counted, rest_begins, rest_bad, rest_good, rest_fits, rest_place}
use Rattle.notice.proofs.check_rest.Goals as goal
use Rattle.notice.proofs.check_rest.Goals.{Else-size-m}

-- past its test, the count is that of the notice
count_read : (c : goal.Else-size-m) → Ok (c.in_ok-m.m, c.in_ok-m.start) ≡ count_at c.args.n c.args.bytes.now c.args.at
count_read c = counted _ _ _ (sym c.in_ok-m.was ∙ c.number_at.ensures) c.nodes-size.ensures c.if-size-m.false

pub returns-in_err-m : goal.returns-in_err-m
returns-in_err-m c = handed_up c.from_residual.result c.from_residual.ensures.1 ∙ count_refused _ _ _ (sym c.in_err-m.was ∙ c.number_at.ensures)

pub returns-then-size-m : goal.returns-then-size-m
returns-then-size-m c = count_many _ _ _ (sym c.in_ok-m.was ∙ c.number_at.ensures) c.nodes-size.ensures c.if-size-m.true

pub slice_bounds-check_addresses-count : goal.slice_bounds-check_addresses-count
slice_bounds-check_addresses-count c = rest_begins _ _ _ (count_read (goal.at.slice_bounds-check_addresses-count c).Else-size-m) c.nodes-size.ensures

pub slice_bounds-check_addresses-start : goal.slice_bounds-check_addresses-start
slice_bounds-check_addresses-start c = rest_begins _ _ _ (count_read (goal.at.slice_bounds-check_addresses-start c).Else-size-m) c.nodes-size.ensures

pub check_addresses-requires : goal.check_addresses-requires
check_addresses-requires c = omega (arith, c.nodes-size.ensures, pow_mono c.requires)

pub overflow_add-result : goal.overflow_add-result
overflow_add-result c = omega (arith, rest_fits _ _ _ (count_read (goal.at.overflow_add-result c).Else-size-m) c.nodes-size.ensures (sym c.in-Ok.is ∙ c.check_addresses.ensures))

pub returns-in-Ok : goal.returns-in-Ok
returns-in-Ok c = rest_good _ _ _ (count_read (goal.at.returns-in-Ok c).Else-size-m) c.nodes-size.ensures (sym c.in-Ok.is ∙ c.check_addresses.ensures)

pub overflow_add-result-in-Err : goal.overflow_add-result-in-Err
overflow_add-result-in-Err c = omega (arith, rest_place _ _ _ (count_read (goal.at.overflow_add-result-in-Err c).Else-size-m) c.nodes-size.ensures (sym c.in-Err.is ∙ c.check_addresses.ensures))

pub returns-in-Err : goal.returns-in-Err
returns-in-Err c = rest_bad _ _ _ (count_read (goal.at.returns-in-Err c).Else-size-m) c.nodes-size.ensures (sym c.in-Err.is ∙ c.check_addresses.ensures)
