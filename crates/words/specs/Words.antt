-- The words of a text line: its runs of bytes other than 9 and 32, each with its column. Assumes nothing.
use Rattle.std.specs.Prelude.{◌≡◌, ℕ, ◌+◌, ◌<◌, ◌≤◌, Bool, true, false, cond, List, [], ◌∷◌, length, drop, Some, None, Option, ◌==◌}
use Rattle.words.specs.declared.part.Part.{Part}

-- a word: its column, and its bytes
pub record Spanned : Type 0 where
  pub column : ℕ
  pub bytes : List ℕ

-- the word of these bytes at a column
abbrev pub spanned : ℕ → List ℕ → Spanned
spanned c bs = record { column = c; bytes = bs }

-- the bytes of a word
abbrev pub bytes_of : Spanned → List ℕ
bytes_of w = w.bytes

-- tab and space part words
abbrev pub blank : ℕ → Bool
blank b = cond (b == 9) true (b == 32)

-- a word ends before a blank or the end of the line
abbrev pub fresh : List ℕ → Bool
fresh [] = true
fresh (b ∷ bs) = blank b

-- byte b at column c opens a word of its own, or stands before the first of the words that follow
abbrev pub grown : ℕ → ℕ → Bool → List Spanned → List Spanned
grown c b true ws = spanned c (b ∷ []) ∷ ws
grown c b false [] = spanned c (b ∷ []) ∷ []
grown c b false (w ∷ ws) = spanned c (b ∷ w.bytes) ∷ ws

-- the words of bytes that start at column c
abbrev pub words_from : ℕ → List ℕ → List Spanned
words_from c [] = []
words_from c (b ∷ bs) = cond (blank b) (words_from (c + 1) bs) (grown c b (fresh bs) (words_from (c + 1) bs))

-- the words of a text line from a column on
abbrev pub words_at : List ℕ → ℕ → List Spanned
words_at line at = words_from at (drop at line)

-- what a part of the text line shows
abbrev pub shown : Part → Spanned
shown p = spanned p.column p.bytes.now

-- p is the first word at or after `from`
pub record NextPart (line : List ℕ) (from : ℕ) (p : Part) : Type 0 where
  pub is : words_at line from ≡ shown p ∷ words_at line (p.column + length p.bytes.now)
  pub some : 0 < length p.bytes.now
  pub inside : p.column + length p.bytes.now ≤ length line

-- the first word at or after `from`, or none
abbrev pub Next : List ℕ → ℕ → Option Part → Type 0
Next line from None = words_at line from ≡ []
Next line from (Some p) = NextPart line from p
