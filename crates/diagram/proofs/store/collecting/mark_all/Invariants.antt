-- The references so far are marked, and nothing else is. Assumes nothing.
use Rattle.diagram.proofs.Marking.{MarksTo}
use Rattle.diagram.proofs.store.collecting.mark_all.Given as goal

abbrev pub invariant-loop-r : goal.invariant-loop-r
invariant-loop-r l = MarksTo l.roots l.marks l.r-index
