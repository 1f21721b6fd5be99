use Rattle.std.proofs.Common.{refl, sym, arith}
use Rattle.std.proofs.lemmas.Grind.{common_steps}
use Rattle.ios.proofs.Fronts.{lines_read}
use Rattle.tidying.proofs.tidied.tidied.Goals as goal

pub returns-in-Ok-clause-output : goal.returns-in-Ok-clause-output
returns-in-Ok-clause-output c =
    let read = c.in-Ok.ensures in
    let count = (read.stands.sound c.args.input.now 1024 c.in-Ok.field-0 (sym read.answer)).1 in
    let front = lines_read c.args.input.now 1024 c.in-Ok.field-0 _ c.read.new.memory read.answer read.stands refl read.written in
    grind (arith, common_steps, front, count, read.answer)
