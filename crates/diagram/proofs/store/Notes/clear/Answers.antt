-- The places are filled anew, and the nodes either too or in the next round. Assumes nothing.
use Rattle.std.proofs.Common.{None, Option}
use Rattle.diagram.specs.declared.store.Past.{Past}
use Rattle.diagram.proofs.Fills.{get_or_filled, unmade_early, unmade_untold}
use Rattle.diagram.proofs.store.Notes.clear.Goals as goal

pub invariant_of-self : goal.invariant_of-self
invariant_of-self c = record { no_later = unmade_early 2048 1 }

pub returns-then-self-clause-made : goal.returns-then-self-clause-made
returns-then-self-clause-made c = λ k. unmade_untold 2048 k

pub returns-then-self-clause-past : goal.returns-then-self-clause-past
returns-then-self-clause-past c = λ p. get_or_filled {A = Option Past} 104 p None

pub returns-else-self-clause-past : goal.returns-else-self-clause-past
returns-else-self-clause-past c = λ p. get_or_filled {A = Option Past} 104 p None
