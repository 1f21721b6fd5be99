-- A laying found room, or did not and is given back. Assumes nothing.
use Rattle.diagram.proofs.Fullness.{laid_so}
use Rattle.diagram.proofs.table.Table.lay.Goals as goal

pub returns : goal.returns
returns c =
    let k = c.lay_kept.ensures in
    rw c.ok_or.ensures.value
    (laid_so _ _ c.trim.new.self c.args.cube.now c.args.over c.trim.ensures.nodes c.trim.ensures.level c.trim.ensures.cap
    k.grows k.new c.in_ok-check.ensures c.lay_kept.result k.value)
