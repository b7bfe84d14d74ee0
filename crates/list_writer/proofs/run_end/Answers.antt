use mathlib.Core.Path.{◌≡◌, sym, ◌∙◌}
use native.Mathlib.Omega.{arith}
use Rattle.list_writer.proofs.Runs.{end_beyond, end_here, end_past}
use Rattle.list_writer.proofs.run_end.Goals as goal

pub returns-then-not-has : goal.returns-then-not-has
returns-then-not-has c =
    sym (end_here _ _ _ (omega arith) (sym c.has.ensures ∙ c.if-not-has.true)) ∙ c.loop-end.invariant

pub loop-end-preserved : goal.loop-end-preserved
loop-end-preserved c =
    sym (end_past _ _ _ (omega arith) (sym c.has.ensures ∙ c.if-not-has.false)) ∙ c.loop-end.invariant

pub returns : goal.returns
returns c =
    let e : c.args.faults.size ≡ c.loop-end.end = omega arith in
    e ∙ sym (end_beyond _ _ _ (omega (arith, c.args.faults.counted))) ∙ c.loop-end.invariant
