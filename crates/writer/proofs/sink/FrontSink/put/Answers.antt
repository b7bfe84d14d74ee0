use mathlib.Core.Path.{refl}
use Rattle.spelling.proofs.Sinks.{write_one}
use Rattle.writer.proofs.sink.FrontSink.put.Goals as goal

pub returns : goal.returns
returns c = (write_one _ _ _ c.requires, refl)
