-- What is left of the bucket's chain has all nodes of the bucket that were not looked at. Assumes nothing.
use Rattle.diagram.proofs.Chains.{Left, left}
use Rattle.diagram.proofs.store.Store.find.Given as goal

abbrev pub invariant-loop-at : goal.invariant-loop-at
invariant-loop-at l = Left l.self.nodes l.self.linked l.n l.at

abbrev pub decreases-loop-at : goal.decreases-loop-at
decreases-loop-at l = left l.at
