-- The bucket by the numbers of both references. Assumes nothing.
use Rattle.diagram.specs.Nodes.{bucket}
use Rattle.diagram.proofs.store.index.bucket_of.Goals as goal

pub returns-clause-value : goal.returns-clause-value
unfolding bucket
returns-clause-value c = rw (c.reference_number-low.ensures.value, c.reference_number-high.ensures.value)
