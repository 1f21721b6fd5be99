-- What is heard is the line's action and number. Assumes nothing.
use mathlib.Core.Path.{refl}
use Rattle.kinds.specs.Kinds.{heard_of}
use Rattle.kinds.specs.Same.{heard_same}
use Rattle.kinds.proofs.hearing.HeardFromLine.from.Goals as goal

pub returns : goal.returns
returns c = heard_same _ (heard_of c.args.line) refl refl
