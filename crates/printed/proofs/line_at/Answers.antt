-- `line_at`: the line of the pair, or of the number that is refused.
use mathlib.Core.Path.{sym, subst, ap, ◌∙◌}
use Rattle.std.specs.Prelude.{Ok, Err}
use Rattle.lines.specs.Lines.{pair_line}
use Rattle.printed.proofs.Pairs.{Shown, shown}
use Rattle.walk.proofs.Refusals.{hops_few}
use Rattle.printed.proofs.line_at.Goals as goal
use Rattle.printed.proofs.line_at.Goals.{In-Ok, In-Err}

pub pair_line-requires : goal.pair_line-requires
pair_line-requires c = rw c.walk.ensures (hops_few _ _ _ _ _ _ _)

read : (c : In-Ok) → Shown c.args.n c.args.labels.now c.args.bytes.now c.args.at (Ok (c.in-Ok.s, c.in-Ok.d, c.in-Ok.next))
read c = subst (Shown c.args.n c.args.labels.now c.args.bytes.now c.args.at) (sym c.pair_at.ensures ∙ c.in-Ok.is) (shown _ _ _ _)

refused : (c : In-Err) → Shown c.args.n c.args.labels.now c.args.bytes.now c.args.at (Err (c.in-Err.refusal, c.in-Err.place))
refused c = subst (Shown c.args.n c.args.labels.now c.args.bytes.now c.args.at) (sym c.pair_at.ensures ∙ c.in-Err.is) (shown _ _ _ _)

pub returns-in-Ok-clause-line : goal.returns-in-Ok-clause-line
returns-in-Ok-clause-line c = c.pair_line.ensures ∙ ap (pair_line _ _) c.walk.ensures ∙ (read (goal.at.returns-in-Ok-clause-line c).In-Ok).0

pub returns-in-Ok-clause-next : goal.returns-in-Ok-clause-next
returns-in-Ok-clause-next c = (read (goal.at.returns-in-Ok-clause-next c).In-Ok).1

pub returns-in-Err-clause-line : goal.returns-in-Err-clause-line
returns-in-Err-clause-line c = (rw c.from.ensures at c.refused_line.ensures) ∙ (refused (goal.at.returns-in-Err-clause-line c).In-Err).0

pub returns-in-Err-clause-next : goal.returns-in-Err-clause-next
returns-in-Err-clause-next c = (refused (goal.at.returns-in-Err-clause-next c).In-Err).1
