use Rattle.std.proofs.Common.{◌∙◌}
use Rattle.words.proofs.Sorts.{any_dot}
use Rattle.words.proofs.words.has_dot.Goals as goal

pub returns : goal.returns
returns c = c.contains.ensures.value ∙ any_dot c.args.bytes.now
