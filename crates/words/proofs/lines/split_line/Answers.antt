use Rattle.std.proofs.lemmas.List.{take_rest}
use Rattle.words.proofs.Ends.{whole_line, cut_line}
use Rattle.words.proofs.Found.{none_found, found}
use Rattle.words.proofs.lines.split_line.Goals as goal

pub returns-in-None : goal.returns-in-None
returns-in-None c = whole_line c.args.text.now c.requires (none_found 10 c.args.text.now c.in-None.ensures)

pub returns-in-Some : goal.returns-in-Some
returns-in-Some c =
    rw take_rest (cut_line c.args.text.now c.in-Some.end (found 10 c.args.text.now c.in-Some.end c.in-Some.ensures) c.without_return.result.now c.without_return.ensures.cut c.without_return.ensures.whole)
