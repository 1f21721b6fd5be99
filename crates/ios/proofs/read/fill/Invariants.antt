use Rattle.std.proofs.Common.{map, length}
use Rattle.acl.specs.Shapes.{shape}
use Rattle.words.specs.Lines.{left}
use Rattle.ios.proofs.Scans.{Filling}
use Rattle.ios.proofs.read.fill.Given as goal

abbrev pub invariant-loop-bytes : goal.invariant-loop-bytes
invariant-loop-bytes l =
    Filling l.text (map shape l.initial.memory) (length l.initial.memory) l.state (left l.bytes-iterator) l.memory
