use Rattle.std.proofs.Common.{◌≡◌, ◌≤◌, drop}
use Rattle.words.specs.Numbers.{numeral, digits, read_on}
use Rattle.words.proofs.numbers.number_in.Given as goal

abbrev pub invariant-loop-b : goal.invariant-loop-b
invariant-loop-b l =
    (l.n ≤ l.high)
    × (numeral l.word ≡ digits l.word)
    × (digits l.word ≡ digits (drop l.b-index l.word))
    × (read_on 0 l.word ≡ read_on l.n (drop l.b-index l.word))
