-- Nodes go one by one. Assumes nothing.
use Rattle.std.proofs.Common.{◌≡◌, ◌≤◌}
use Rattle.diagram.proofs.store.Store.trim.Given as goal

abbrev pub invariant-loop-self : goal.invariant-loop-self
invariant-loop-self l =
    (l.end.at ≤ l.self.linked) × (l.self.nodes ≡ l.initial.self.nodes) × (l.self.cap ≡ l.initial.self.cap)

abbrev pub decreases-loop-self : goal.decreases-loop-self
decreases-loop-self l = l.self.linked
