use Rattle.std.proofs.Common.{length}
use Rattle.words.specs.Lines.{left}
use Rattle.cases.proofs.main.Given as goal

abbrev pub decreases-loop-line : goal.decreases-loop-line
decreases-loop-line l = length (left l.lines)
