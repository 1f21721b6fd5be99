-- An index of no nodes is sound. Assumes nothing.
use Rattle.diagram.proofs.Chains.{sound_none}
use Rattle.diagram.proofs.store.Store.empty.Goals as goal

pub invariant_of-self-clause-sound : goal.invariant_of-self-clause-sound
invariant_of-self-clause-sound c = sound_none _ _
