-- What holds at each turn of the walk over the lines. Assumes nothing.
use Rattle.acl.proofs.Walk.{Walked}
use Rattle.acl.proofs.fitting.first_match.Given as goal

abbrev pub invariant-loop-line : goal.invariant-loop-line
invariant-loop-line l = Walked l.lines l.header l.line-index
