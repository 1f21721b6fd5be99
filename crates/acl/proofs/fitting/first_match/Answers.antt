-- The walk over the lines finds the first match. Assumes nothing.
use Rattle.std.proofs.Common.{◌<◌, length, sym, refl, ◌∙◌, arith}
use Rattle.acl.proofs.Walk.{skips, takes, walked}
use Rattle.acl.proofs.fitting.first_match.Goals as goal

-- at the start no line is passed
pub loop-line-init : goal.loop-line-init
loop-line-init c = walked _ _ _ refl

-- a line that does not fit is passed over
pub loop-line-preserved : goal.loop-line-preserved
loop-line-preserved c =
    let lt : c.loop-line.line-index < length c.args.lines.now = omega arith in
    walked _ _ _ (c.loop-line.invariant.rest ∙ skips _ _ _ _ c.line-item.is lt c.if-fits.ensures)

-- a line that fits is the first match
pub returns-then-fits : goal.returns-then-fits
returns-then-fits c =
    let lt : c.loop-line.line-index < length c.args.lines.now = omega arith in
    sym (c.loop-line.invariant.rest ∙ takes _ _ _ _ c.line-item.is lt c.if-fits.ensures)
