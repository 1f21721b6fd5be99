use Rattle.std.proofs.Common.{refl}
use Rattle.writer.proofs.Overs.{more}
use Rattle.writer.proofs.pen.Pen.pair.Goals as goal

pub returns : goal.returns
returns g c = more c.word.ensures c.word-2.ensures refl
