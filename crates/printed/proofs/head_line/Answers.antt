-- `head_line`: the fault table that is lent on has the length that the notice asks for, which is at most the table's.
use mathlib.Core.Path.{◌∙◌}
use native.Mathlib.Omega.{arith}
use lib.ListN.{length-replicate, replicate}
use lib.Seq.{length-take-le}
use Rattle.printed.proofs.Heads.{wanted_few}
use Rattle.printed.proofs.head_line.Goals as goal

pub notice_line-requires-clause-faults_len : goal.notice_line-requires-clause-faults_len
notice_line-requires-clause-faults_len c =
    length-take-le c.wanted_len-len.result (replicate 512 0) (simp length-replicate (omega (arith, c.wanted_len-len.ensures, wanted_few c.args.bytes.now)))
    ∙ c.wanted_len-len.ensures
