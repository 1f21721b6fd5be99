-- A node refers to earlier ones. Assumes nothing.
use Rattle.diagram.proofs.Ranks.{rank}
use Rattle.diagram.proofs.store.Store.+decide.Given as goal

abbrev pub decreases-decide : goal.decreases-decide
decreases-decide l = rank l.r
