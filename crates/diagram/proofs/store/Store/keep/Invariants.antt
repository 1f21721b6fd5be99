-- The marked nodes before i are copied, and nothing else is there. Assumes nothing.
use Rattle.diagram.proofs.Copies.{Kept}
use Rattle.diagram.proofs.store.Store.keep.Given as goal

abbrev pub invariant-loop-i : goal.invariant-loop-i
invariant-loop-i l = Kept l.fn.self l.marks l.initial.self.cap l.self l.end l.to l.i
