-- The code, and the theorems on lists of this kind. Assumes nothing.
use Rattle.std.proofs.Common.{rules}
use Rattle.kinds.specs.Kinds.{kind_of}
use Rattle.model.proofs.Pruning.{pruning_stands}
use Rattle.stages.specs.Lists.{ruling}
use Rattle.stages.proofs.LastStage.{stages_stand, alike_stands}
use Rattle.stages.proofs.Fitting.{fits_stand}
use Rattle.stages.proofs.Found.{found_decides}
use Rattle.stages.proofs.verdict_code.Goals as goal

pub returns : goal.returns
returns g c =
    let k = kind_of g.K.Kind c.args.kind.now in
    record {
      answer = rw (
        c.code.ensures,
        found_decides k c.args.lines.now c.args.header c.first_match-found.result c.map_or_else-verdict.result c.first_match-found.ensures (search rules),
      );
      stages = stages_stand k;
      alike = alike_stands k (g.met.K.Kind.laws c.args.kind.now).apart;
      fits = fits_stand k;
      pruning = pruning_stands (ruling k);
    }
