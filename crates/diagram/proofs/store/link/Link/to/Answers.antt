-- A link to a node leads there. Assumes nothing.
use Rattle.std.proofs.Common.{rules}
use Rattle.diagram.specs.Nodes.{linked}
use Rattle.diagram.proofs.store.link.Link.to.Goals as goal

pub returns : goal.returns
unfolding linked
returns c = search rules
