-- An index of no nodes. Assumes nothing.
use Rattle.diagram.proofs.Chains.{sound_none}
use Rattle.diagram.proofs.store.Store.new.Goals as goal

pub invariant_of-result-clause-sound : goal.invariant_of-result-clause-sound
invariant_of-result-clause-sound c = sound_none _ _
