-- The nodes from i on are closed; marks are added, and only of what is reached. Assumes nothing.
use Rattle.std.proofs.Common.{ℕ, ◌<◌}
use Rattle.diagram.specs.Collecting.{IsMarked, ClosedFrom, MarksReached}
use Rattle.diagram.proofs.store.Store.spread.Given as goal

abbrev pub invariant-loop-i : goal.invariant-loop-i
invariant-loop-i l = record {
  closed : ClosedFrom l.self l.marks l.i;
  more : (k : ℕ) → IsMarked l.initial.marks k → IsMarked l.marks k;
  inside : (k : ℕ) → IsMarked l.marks k → k < l.self.linked;
  reached : MarksReached l.self l.initial.marks l.marks;
}
