use Rattle.std.proofs.Common.{refl}
use Rattle.writer.proofs.Overs.{more}
use Rattle.writer.proofs.pen.Pen.extended.Goals as goal

pub returns : goal.returns
returns c = more c.word.ensures (more c.network.ensures (more c.ports.ensures (more c.network-2.ensures c.ports-2.ensures refl) refl) refl) refl
