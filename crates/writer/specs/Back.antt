-- What is written reads back as the same list. Assumes nothing.
use Rattle.std.specs.Prelude.{◌≡◌, ℕ, ◌+◌, ◌≤◌, List, [], ◌∷◌, map, length, Ok}
use Rattle.acl.specs.declared.line.Line.{Line}
use Rattle.acl.specs.Shapes.{Shape, shape}
use Rattle.ios.specs.Reading.{read_of, text_of, reading}
use Rattle.writer.specs.Writing.{write_of, text_for}

-- the same lines, numbered afresh from k + 1 on
abbrev pub renumbered : ℕ → List Shape → List Shape
renumbered k [] = []
renumbered k (l ∷ ls) = record { action = l.action; number = k + 1; protocol = l.protocol; log = l.log; source = l.source; destination = l.destination } ∷ renumbered (k + 1) ls

-- a text without lines has no list number
abbrev pub number_back : List Shape → ℕ → ℕ
number_back [] n = 0
number_back (l ∷ ls) n = n

-- what is written of any lines under any number reads back, memory sufficing, as that number, 0 for no lines, and the
-- same lines numbered afresh from 1
abbrev pub RoundTrip : Type 0
RoundTrip = (lines : List Line) (n space k room : ℕ) → write_of (map shape lines) n space ≡ Ok k → length lines ≤ room
    → (read_of (text_for (map shape lines) n) room ≡ Ok (reading (number_back (map shape lines) n) (length lines)))
    × ((text_of (text_for (map shape lines) n)).lines ≡ renumbered 0 (map shape lines))
