-- A second range without ports has no blocks. Assumes nothing.
use Rattle.std.proofs.Common.{length, ◌∙◌, ap, ap₂, ◌++◌, arith}
use Rattle.pieces.proofs.Cuts.{length_between}
use Rattle.pieces.proofs.Yielding.{single}
use Rattle.pieces.proofs.block.cutting.range.Goals as goal

pub returns-clause-left : goal.returns-clause-left
returns-clause-left c = ap₂ ◌++◌ c.new.ensures c.new-2.ensures ∙ single _ _ _ _ (omega arith)

pub returns-clause-few : goal.returns-clause-few
returns-clause-few c = omega (arith, ap length (returns-clause-left c), length_between c.args.at c.args.end)
