-- The number of places left falls. Assumes nothing.
use Rattle.std.proofs.Common.{◌-◌}
use Rattle.diagram.proofs.store.Store.+lay.Given as goal

abbrev pub decreases-lay : goal.decreases-lay
decreases-lay l = 104 - l.from
