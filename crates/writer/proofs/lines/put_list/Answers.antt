use Rattle.std.proofs.Common.{map, ap, ◌∙◌, arith, take_all, rules}
use Rattle.acl.specs.Shapes.{shape}
use Rattle.writer.specs.Canon.{list_bytes}
use Rattle.writer.proofs.Overs.{two, same, over_front}
use Rattle.writer.proofs.Turns.{list_more}
use Rattle.writer.proofs.lines.put_list.Goals as goal

pub loop-line-preserved : goal.loop-line-preserved
loop-line-preserved c = two c.loop-line.invariant c.line.ensures (list_more c.args.list.number c.args.list.family c.args.lines.now c.loop-line.line-index _ c.line-item.is (omega arith))

pub returns : goal.returns
returns c =
    let all = same (ap (λ l. list_bytes c.args.list.number c.args.list.family (map shape l)) (take_all c.loop-line.line-index c.args.lines.now c.loop-line-test.false)) c.loop-line.invariant in
    record { counted = omega (arith, all.count); written = λ h. search (rules, (all.written (omega (arith, h))).1 ∙ over_front _ _ h) }
