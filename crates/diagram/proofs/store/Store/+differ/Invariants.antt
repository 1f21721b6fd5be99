-- The number of places left falls. Assumes nothing.
use Rattle.std.proofs.Common.{◌-◌}
use Rattle.diagram.proofs.store.Store.+differ.Given as goal

abbrev pub decreases-differ : goal.decreases-differ
decreases-differ l = 104 - l.from
