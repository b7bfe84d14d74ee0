-- `hear` is done at once with a mask of 0 and with a faulty node's: either counts as 0, and names nobody.
use mathlib.Core.Path.{sym, ◌∙◌}
use Rattle.cube.proofs.Tables.{node_room}
use Rattle.repair.proofs.Hearing.{heard_faulty_mask, heard_nothing, heard_silent_mask, heard_working_mask}
use Rattle.repair.proofs.Asked.hear.Goals as goal

pub returns-then-mask-eq0 : goal.returns-then-mask-eq0
returns-then-mask-eq0 c = rw (heard_silent_mask _ _ _ c.if-mask-eq0.true) (heard_nothing _ _ _ _)

pub node_bit-requires : goal.node_bit-requires
node_bit-requires c = node_room _ _ _ c.args.self.now.table c.requires.node

pub returns-then-node_bit : goal.returns-then-node_bit
returns-then-node_bit c = rw (heard_faulty_mask _ _ _ (sym c.node_bit.ensures ∙ c.if-node_bit.true)) (heard_nothing _ _ _ _)

pub returns : goal.returns
returns c = rw (heard_working_mask _ _ _ (sym c.node_bit.ensures ∙ c.if-node_bit.false)) c.put_all.ensures
