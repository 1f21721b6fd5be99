use Rattle.std.proofs.Common.{map, string_bytes}
use Rattle.std.specs.Iterator.Adapters.{enumerate_source, enumerate_count}
use Rattle.acl.specs.Shapes.{shape}
use Rattle.words.specs.Lines.{left}
use Rattle.deciding.proofs.Answering.{Answering}
use Rattle.deciding.proofs.report.put_answers.Given as goal

abbrev pub invariant-loop-t : goal.invariant-loop-t
invariant-loop-t l =
    (goal.iterator-loop-t).can_next l.t-iterator × (goal.iterator-loop-t).is_finite l.t-iterator
    × Answering (map shape l.lines) l.headers (string_bytes l.initial.out) (left (enumerate_source l.t-iterator)) (enumerate_count l.t-iterator) l.tally (string_bytes l.out)
