use Rattle.std.proofs.Common.{refl, arith}
use Rattle.std.proofs.lemmas.Grind.{common_steps}
use Rattle.ios.proofs.Fronts.{lines_read}
use Rattle.deciding.proofs.report.put_report.Goals as goal

pub returns-in_ok-tally-in-Ok : goal.returns-in_ok-tally-in-Ok
returns-in_ok-tally-in-Ok c =
    let read = c.in-Ok.ensures in
    let front = lines_read c.args.list.now 1024 c.in-Ok.field-0 _ c.read.new.memory read.answer read.stands refl read.written in
    grind (arith, common_steps, front, read.answer)
