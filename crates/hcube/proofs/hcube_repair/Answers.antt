-- `hcube_repair` packs the answer of `repair`, whose refusal is that of the definition.
use mathlib.Core.Path.{ap, ◌∙◌}
use native.Mathlib.Omega.{arith}
use lib.ListN.{length}
use Rattle.cube.specs.Refused.{refused}
use Rattle.cube.proofs.Refused.{refused_is}
use Rattle.repair.proofs.Outcomes.{refusal_few}
use Rattle.hcube.specs.Answers.{done_number}
use Rattle.hcube.proofs.hcube_repair.Goals as goal

pub returns-clause-answer : goal.returns-clause-answer
returns-clause-answer c =
    let a = c.args in
    c.pack_done.ensures
    ∙ ap done_number
    (ap refused c.repair-answer.ensures.answer
    ∙ refused_is _ tt (omega (arith, refusal_few a.n a.faults.now a.masks.now (length a.res.now) (length a.row.now))))
