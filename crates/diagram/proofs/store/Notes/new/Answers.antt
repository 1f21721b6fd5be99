-- No note is of a later round. Assumes nothing.
use Rattle.diagram.proofs.Fills.{unmade_early}
use Rattle.diagram.proofs.store.Notes.new.Goals as goal

pub invariant_of-result : goal.invariant_of-result
invariant_of-result c = record { no_later = unmade_early 2048 1 }
