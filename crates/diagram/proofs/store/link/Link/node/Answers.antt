-- A link leads to no node exactly where it holds 0. Assumes nothing.
use Rattle.std.proofs.Common.{rules}
use Rattle.diagram.specs.Nodes.{linked}
use Rattle.diagram.proofs.store.link.Link.node.Goals as goal

pub returns : goal.returns
unfolding linked
returns c = search rules
