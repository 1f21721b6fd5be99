-- Reading a text line word by word: what each step says of the words that are left, and what it leaves. Assumes nothing.
use Rattle.std.specs.Prelude.{◌≡◌, ℕ, Bool, true, false, cond, not, List, [], ◌∷◌, length, Some, None, Ok, Err, Option, Result, ◌==◌}
use Rattle.acl.specs.declared.refusal.Refusal.{Refusal}
use Rattle.acl.specs.declared.refusal.Refusal.TheVariants.{BadWord, BadAddress, BadNumber}
use Rattle.words.specs.declared.part.Part.{Part}
use Rattle.words.specs.declared.part.Word.{Word}
use Rattle.words.specs.declared.part.Word.TheVariants.{Keyword, Number, Address}
use Rattle.words.specs.declared.part.Stop.{Stop}
use Rattle.words.specs.declared.words.Words.{Words}
use Rattle.words.specs.Numbers.{digit, number_in, address_in}
use Rattle.words.specs.Words.{Spanned, words_at, shown}

-- what is left of a text line: its whole length, and the words that are still to come
pub record Rest : Type 0 where
  pub size : ℕ
  pub words : List Spanned

-- a text line of length n with these words to come
abbrev pub rest_by : ℕ → List Spanned → Rest
rest_by n ws = record { size = n; words = ws }

-- all of a text line
abbrev pub rest_of : List ℕ → Rest
rest_of line = rest_by (length line) (words_at line 0)

-- what a cursor has left
abbrev pub rest : Words → Rest
rest w = rest_by (length w.line.now) (words_at w.line.now w.at)

-- the sorts of words: by the first byte, and by a dot among the bytes
abbrev pub begins_with_digit : List ℕ → Bool
begins_with_digit [] = false
begins_with_digit (b ∷ bs) = digit b

-- a dot is among the bytes
abbrev pub has_dot : List ℕ → Bool
has_dot [] = false
has_dot (b ∷ bs) = cond (b == 46) true (has_dot bs)

-- a word of the code is of the sort that its bytes say
abbrev pub well_sorted : Word → Bool
well_sorted (Keyword p) = not (begins_with_digit p.bytes.now)
well_sorted (Number p) = cond (begins_with_digit p.bytes.now) (not (has_dot p.bytes.now)) false
well_sorted (Address p) = cond (begins_with_digit p.bytes.now) (has_dot p.bytes.now) false

-- the part of the text line that a word of the code shows
abbrev pub word_part : Word → Part
word_part (Keyword p) = p
word_part (Number p) = p
word_part (Address p) = p

-- a word of the code as its column and bytes
abbrev pub word_shown : Word → Spanned
word_shown w = shown (word_part w)

-- w is the next word, with its sort
abbrev pub Peeks : List Spanned → Option Word → Type 0
Peeks ws None = ws ≡ []
Peeks [] (Some w) = ⊥
Peeks (s ∷ ws) (Some w) = (s ≡ word_shown w) × (well_sorted w ≡ true)

-- the words after the first
abbrev pub after_first : List Spanned → List Spanned
after_first [] = []
after_first (w ∷ ws) = ws

-- what is left after the next word
abbrev pub passed : Rest → Rest
passed r = rest_by r.size (after_first r.words)

-- the column of the next word, or the line's length where there is none
abbrev pub place_by : ℕ → List Spanned → ℕ
place_by n [] = n
place_by n (w ∷ ws) = w.column

-- the same of what is left
abbrev pub place : Rest → ℕ
place r = place_by r.size r.words

-- a refusal at a column
abbrev pub stop : Refusal → ℕ → Stop
stop why c = record { refusal = why; column = c }

-- a refusal there
abbrev pub stop_at : Refusal → Rest → Stop
stop_at why r = stop why (place r)

-- a step of reading gives a value and what is left after it, or a stop
abbrev pub Step : Type 0 → Type 0
Step A = Result (A × Rest) Stop

-- what a function of the code answered, beside what its cursor then had left
abbrev pub handed : {A : Type 0} → Result A Stop → Rest → Step A
handed (Ok a) r = Ok (a, r)
handed (Err s) r = Err s

-- one step after another
abbrev pub onward : {A B : Type 0} → Step A → (A → Rest → Step B) → Step B
onward (Ok p) f = f p.0 p.1
onward (Err s) f = Err s

-- the next word, or a stop at the line's length
abbrev pub expect_by : ℕ → List Spanned → Step Spanned
expect_by n [] = Err (stop BadWord n)
expect_by n (w ∷ ws) = Ok (w, rest_by n ws)

-- the same of what is left
abbrev pub expect_of : Rest → Step Spanned
expect_of r = expect_by r.size r.words

-- a value that a word must have, or a stop at it
abbrev pub valued : {A : Type 0} → Option A → Refusal → ℕ → Rest → Step A
valued None why c r = Err (stop why c)
valued (Some a) why c r = Ok (a, r)

-- the next word as an address
abbrev pub address_of : Rest → Step ℕ
address_of r = onward (expect_of r) (λ w more. valued (address_in w.bytes) BadAddress w.column more)

-- the next word as a number from low to high
abbrev pub number_of : ℕ → ℕ → Rest → Step ℕ
number_of low high r = onward (expect_of r) (λ w more. valued (number_in low high w.bytes) BadNumber w.column more)

-- no word is left
abbrev pub end_by : List Spanned → Result (Unit {0}) Stop
end_by [] = Ok tt
end_by (w ∷ ws) = Err (stop BadWord w.column)

-- the same of what is left
abbrev pub end_of : Rest → Result (Unit {0}) Stop
end_of r = end_by r.words
