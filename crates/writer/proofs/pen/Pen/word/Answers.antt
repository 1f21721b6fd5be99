use Rattle.writer.proofs.Overs.{word}
use Rattle.writer.proofs.pen.Pen.word.Goals as goal

pub returns : goal.returns
returns g c = word c.text.ensures c.put.ensures
