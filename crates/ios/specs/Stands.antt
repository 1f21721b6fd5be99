-- What reading owes to the grammar. Assumes nothing.
use Rattle.std.specs.Prelude.{◌≡◌, ℕ, ◌+◌, ◌≤◌, Bool, true, false, List, [], ◌∷◌, ◌++◌, map, length, None, Ok, Err, Option}
use Rattle.acl.specs.declared.refusal.Refusal.{Refusal}
use Rattle.acl.specs.declared.refusal.Refusal.TheVariants.{TooManyNodes, BadProfile, NoSlot, SlotTaken, SlotEmpty, TooManyLines, NoRoom, NoLine, ShortMemory, TooLong, BadWord, BadAddress, BadNumber, BackwardRange, OtherList, NotStandard}
use Rattle.acl.specs.Shapes.{Shape}
use Rattle.words.specs.Words.{Spanned, words_at, bytes_of}
use Rattle.words.specs.Cursor.{place_by}
use Rattle.ios.specs.declared.outcome.Fault.{Fault}
use Rattle.ios.specs.declared.outcome.Reading.{Reading}
use Rattle.ios.specs.Entries.{EntryShape}
use Rattle.ios.specs.Reading.{text_of, reading, read_of}
use Rattle.ios.specs.Grammar.{TextText, LineText, Follows, Lines, ListText}

-- the refusals that stand at a word, or where one is missing
abbrev pub at_word : Refusal → Bool
at_word TooManyNodes = false
at_word BadProfile = false
at_word NoSlot = false
at_word SlotTaken = false
at_word SlotEmpty = false
at_word TooManyLines = false
at_word NoRoom = false
at_word NoLine = false
at_word ShortMemory = false
at_word TooLong = false
at_word BadWord = true
at_word BadAddress = true
at_word BadNumber = true
at_word BackwardRange = true
at_word OtherList = true
at_word NotStandard = false

-- the words up to and with the one at fault, or all words where one is missing, and then others
abbrev pub up_to : List Spanned → List (List ℕ) → List (List ℕ)
up_to [] more = []
up_to (w ∷ ws) more = bytes_of w ∷ more

-- a text line refused at column c: the words before the one there, or all words where none stands there, are the
-- beginning of some good line under the list number that is known, and with the word there, of none
pub record Beginning (known : Option ℕ) (line : List ℕ) (c : ℕ) : Type 0 where
  pub before : List Spanned
  pub after : List Spanned
  pub words : words_at line 0 ≡ before ++ after
  pub column : c ≡ place_by (length line) after
  pub more : List (List ℕ)
  pub number : ℕ
  pub entry : EntryShape
  pub follows : Follows known number
  pub good : LineText number (map bytes_of before ++ more) entry
  pub worst : (rest : List (List ℕ)) (n : ℕ) (e : EntryShape) → Follows known n → LineText n (map bytes_of before ++ up_to after rest) e → ⊥

-- a text refused at a word: the text lines before are good, and the refused one has a good beginning
pub record RefusedAt (bs : List ℕ) (f : Fault) : Type 0 where
  pub front : List (List ℕ)
  pub line : List ℕ
  pub back : List (List ℕ)
  pub entries : List EntryShape
  pub known : Option ℕ
  pub cut : TextText bs (front ++ (line ∷ back))
  pub place : f.line ≡ length front + 1
  pub good : Lines None front entries known
  pub beginning : Beginning known line f.column

-- a text is read, memory sufficing, exactly when it has the form and keeps the limits, and yields the lines that the
-- form says; where it is refused at a word, what stands before that word is a good beginning
pub record ReadingStands : Type 0 where
  pub sound : (bs : List ℕ) (room : ℕ) (r : Reading) → read_of bs room ≡ Ok r → ListText bs r.number (text_of bs).lines × (r.count ≡ length (text_of bs).lines) × (r.count ≤ room)
  pub complete : (bs : List ℕ) (n : ℕ) (ss : List Shape) (room : ℕ) → ListText bs n ss → length ss ≤ room → (read_of bs room ≡ Ok (reading n (length ss))) × ((text_of bs).lines ≡ ss)
  pub beginning : (bs : List ℕ) (room : ℕ) (f : Fault) → read_of bs room ≡ Err f → at_word f.refusal ≡ true → RefusedAt bs f
