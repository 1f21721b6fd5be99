-- The two parts of the input: the list, and after a text line `=` the headers. Assumes nothing.
use Rattle.std.specs.Prelude.{ℕ, ◌+◌, Bool, true, false, cond, List, [], ◌∷◌, take, drop, ◌==◌}
use Rattle.words.specs.Lines.{after_line}

-- the next byte is 10
abbrev pub feeds : List ℕ → Bool
feeds [] = false
feeds (b ∷ bs) = b == 10

-- a text line ends here: at byte 10, at bytes 13 and 10, or with the text
abbrev pub line_ends : List ℕ → Bool
line_ends [] = true
line_ends (b ∷ bs) = cond (b == 10) true (cond (b == 13) (feeds bs) false)

-- the text line that starts here is `=`
abbrev pub is_mark : List ℕ → Bool
is_mark [] = false
is_mark (b ∷ bs) = cond (b == 61) (line_ends bs) false

-- where the first text line `=` starts, or the length where there is none; the flag says that a text line starts here
abbrev pub mark_at : Bool → List ℕ → ℕ
mark_at starts [] = 0
mark_at starts (b ∷ bs) = cond (cond starts (is_mark (b ∷ bs)) false) 0 (mark_at (b == 10) bs + 1)

-- the list is what stands before that line
abbrev pub list_part : List ℕ → List ℕ
list_part input = take (mark_at true input) input

-- the headers are what follows that line
abbrev pub header_part : List ℕ → List ℕ
header_part input = after_line (drop (mark_at true input) input)
