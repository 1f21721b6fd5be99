use Rattle.std.proofs.Common.{refl}
use Rattle.acl.specs.Shapes.{shape}
use Rattle.writer.proofs.Overs.{two, more, line_end, entry_words_lem}
use Rattle.writer.proofs.pen.Pen.line.Goals as goal

pub returns : goal.returns
returns c =
    let entry = entry_words_lem c.args.list.family (shape c.args.line) in
    let all = more c.word.ensures (more c.word-2.ensures (more c.terms.ensures c.log.ensures refl) entry) refl in
    two c.text.ensures (line_end all c.text-2.ensures) refl
