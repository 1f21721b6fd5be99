use Rattle.std.proofs.Common.{map, take}
use Rattle.acl.specs.Shapes.{shape}
use Rattle.writer.specs.Canon.{list_bytes}
use Rattle.writer.specs.Pens.{Wrote}
use Rattle.writer.proofs.lines.put_list.Given as goal

abbrev pub invariant-loop-line : goal.invariant-loop-line
invariant-loop-line l = Wrote l.initial.pen (list_bytes l.list.number l.list.family (map shape (take l.line-index l.lines))) l.pen
