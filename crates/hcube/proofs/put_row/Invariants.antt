-- `put_row` fills the buffer from the front: the first k bytes are the row's, the rest are what stood there.
use Rattle.cube.proofs.Filling.{Filled}
use Rattle.hcube.specs.Answers.{row_byte}
use Rattle.hcube.proofs.put_row.Given as goal

abbrev pub invariant-loop-k : goal.invariant-loop-k
invariant-loop-k l = Filled (row_byte l.row) l.initial.out l.out l.k
