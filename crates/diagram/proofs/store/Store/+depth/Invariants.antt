-- A node refers to earlier ones. Assumes nothing.
use Rattle.diagram.proofs.Ranks.{rank}
use Rattle.diagram.proofs.store.Store.+depth.Given as goal

abbrev pub decreases-depth : goal.decreases-depth
decreases-depth l = rank l.r
