use Rattle.words.specs.Lines.{left}
use Rattle.ios.proofs.Scans.{filling_some}
use Rattle.ios.proofs.read.fill.Goals as goal

pub loop-bytes-preserved : goal.loop-bytes-preserved
loop-bytes-preserved c =
    let cut = c.in-Some.ensures.steps in
    let steps = rw c.in-Ok-Some.field-0-is at c.in-Ok-Some.ensures in
    filling_some _ _ _ c.loop-bytes.state _ (left c.loop-bytes.bytes-iterator) _ _ _ c.in-Ok-Some.entry _
    c.loop-bytes.invariant cut.0 cut.2 steps c.loop-bytes.auto.memory c.numbered.ensures
