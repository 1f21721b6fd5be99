-- At first nothing is marked. Assumes nothing.
use Rattle.diagram.proofs.Marking.{marks_none}
use Rattle.diagram.proofs.store.collecting.mark_all.Goals as goal

pub loop-r-init : goal.loop-r-init
loop-r-init c = marks_none _
