use Rattle.std.proofs.Common.{sym, ap}
use Rattle.writer.specs.Canon.{port_words}
use Rattle.writer.proofs.Overs.{more}
use Rattle.writer.proofs.pen.Pen.ports.Goals as goal

pub returns-in-Range : goal.returns-in-Range
returns-in-Range c = more c.pair-in-Range.ensures c.word.ensures (sym (ap port_words c.in-Range.is))
