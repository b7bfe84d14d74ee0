-- `tail` hands back the part behind the notice, or the empty part at the end: in bytes, and as a place of the caller's memory. It reads the notice as
-- the reader does, with no table.
use mathlib.Core.Path.{sym, ◌∙◌}
use Rattle.notice.specs.Notice.{notice_of}
use Rattle.notice.proofs.Outcomes.{small, rest_read, notice-refused, notice_bad, notice_good, tail_refused, tail_good, tail_part}
use Rattle.notice.proofs.tail.Goals as goal

pub returns-in_default : goal.returns-in_default
unfolding notice_of
returns-in_default c =
    tail_part c.args.bytes.now c.args.bytes.ref_ptr.0 c.args.bytes.ref_ptr.1 _ _ (tail_refused _ (notice-refused _ (sym c.in_default.is ∙ c.dimension.ensures)))

pub check_rest-requires : goal.check_rest-requires
check_rest-requires c = small _ (sym c.in-Ok.is ∙ c.dimension.ensures)

pub returns-in_default-check_rest : goal.returns-in_default-check_rest
unfolding notice_of
returns-in_default-check_rest c =
    let bad = sym c.in_default-check_rest.is ∙ c.check_rest.ensures in
    tail_part c.args.bytes.now c.args.bytes.ref_ptr.0 c.args.bytes.ref_ptr.1 _ _ (tail_refused _ (notice_bad _ (sym c.in-Ok.is ∙ c.dimension.ensures) bad))

pub slice_bounds-result-count-2 : goal.slice_bounds-result-count-2
slice_bounds-result-count-2 c =
    (rest_read _ (sym c.in-Ok.is ∙ c.dimension.ensures) (sym c.in-Ok-check_rest.is ∙ c.check_rest.ensures)).within

pub slice_bounds-result-start-2 : goal.slice_bounds-result-start-2
slice_bounds-result-start-2 c =
    (rest_read _ (sym c.in-Ok.is ∙ c.dimension.ensures) (sym c.in-Ok-check_rest.is ∙ c.check_rest.ensures)).within

pub returns : goal.returns
unfolding notice_of
returns c =
    tail_part c.args.bytes.now c.args.bytes.ref_ptr.0 c.args.bytes.ref_ptr.1 _ _ (tail_good _ (notice_good _ (sym c.in-Ok.is ∙ c.dimension.ensures) (sym c.in-Ok-check_rest.is ∙ c.check_rest.ensures)))
