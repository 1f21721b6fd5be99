-- The references so far have moved, and the others stand. Assumes nothing.
use Rattle.std.proofs.Common.{◌≡◌, ℕ, ◌<◌, ◌≤◌, get_or}
use Rattle.model.specs.declared.node.Ref.TheVariants.{Code}
use Rattle.diagram.specs.Collecting.{moved_to}
use Rattle.diagram.proofs.store.collecting.move_all.Given as goal

abbrev pub invariant-loop-r : goal.invariant-loop-r
invariant-loop-r l =
    ((j : ℕ) → j < l.r-index → get_or l.r-items j (Code 0) ≡ moved_to l.to (get_or l.initial.r-items j (Code 0)))
    × ((j : ℕ) → l.r-index ≤ j → get_or l.r-items j (Code 0) ≡ get_or l.initial.r-items j (Code 0))
