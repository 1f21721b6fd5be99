-- The text lines of a text: each ends at byte 10, or at bytes 13 and 10, and the last may lack its end. Assumes nothing.
use Rattle.std.specs.Prelude.{◌≡◌, ℕ, ◌<◌, Bool, false, cond, List, [], ◌∷◌, length, Some, None, Option, ◌==◌}
use Rattle.std.specs.Borrow.{Bor}
use Rattle.words.specs.declared.lines.TextLines.{TextLines}

-- b is a 13 that a 10 follows
abbrev pub returning : ℕ → List ℕ → Bool
returning b [] = false
returning b (c ∷ cs) = cond (b == 13) (c == 10) false

-- a byte before the first of the text lines that follow
abbrev pub glued : ℕ → List (List ℕ) → List (List ℕ)
glued b [] = (b ∷ []) ∷ []
glued b (l ∷ ls) = (b ∷ l) ∷ ls

-- the text lines of a text, without their ends
abbrev pub text_lines : List ℕ → List (List ℕ)
text_lines [] = []
text_lines (b ∷ bs) = cond (b == 10) ([] ∷ text_lines bs) (cond (returning b bs) (text_lines bs) (glued b (text_lines bs)))

-- the bytes that are still to come
abbrev pub left : TextLines → List ℕ
left l = l.rest.now

-- what follows the first byte 10
abbrev pub after_line : List ℕ → List ℕ
after_line [] = []
after_line (b ∷ bs) = cond (b == 10) bs (after_line bs)

-- one step: no text line is left, or the first one is taken
abbrev pub Takes : List ℕ → List ℕ → Option (Bor (List ℕ)) → Type 0
Takes before after None = (before ≡ []) × (after ≡ [])
Takes before after (Some l) = (text_lines before ≡ l.now ∷ text_lines after) × (after ≡ after_line before) × (length after < length before)
