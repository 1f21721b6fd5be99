-- The theorems. Assumes nothing.
use Rattle.model.proofs.Diagram.{references_stand}
use Rattle.model.proofs.Nodes.{nodes_stand}
use Rattle.model.proofs.Families.{counts_stand}
use Rattle.model.proofs.Pruning.{pruning_stands}
use Rattle.model.proofs.theorems_stand.Goals as goal

pub returns : goal.returns
returns g c = record {
  references = references_stand;
  nodes = nodes_stand;
  counts = counts_stand;
  pruning = λ r. pruning_stands r;
}
