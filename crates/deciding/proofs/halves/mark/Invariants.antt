use Rattle.std.proofs.Common.{◌≡◌, ◌+◌, true, drop}
use Rattle.deciding.specs.Halves.{mark_at}
use Rattle.deciding.proofs.halves.mark.Given as goal

abbrev pub invariant-loop-i : goal.invariant-loop-i
invariant-loop-i l = mark_at true l.input ≡ l.i + mark_at l.starts (drop l.i l.input)
