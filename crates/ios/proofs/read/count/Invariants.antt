use Rattle.words.specs.Lines.{left}
use Rattle.ios.proofs.Scans.{Counting}
use Rattle.ios.proofs.read.count.Given as goal

abbrev pub invariant-loop-bytes : goal.invariant-loop-bytes
invariant-loop-bytes l =
    Counting l.text l.state (left l.bytes-iterator)
