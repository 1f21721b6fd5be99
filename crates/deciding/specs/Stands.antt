-- What the parts of the input and the header lines are, in the subject's words. Assumes nothing.
use Rattle.std.specs.Prelude.{◌≡◌, ℕ, ◌<◌, ◌≤◌, true, List, [], ◌∷◌, ◌++◌, map, length, Some, None, Ok, Err, decimal, ◌≢◌}
use Rattle.acl.specs.declared.header.Header.{Header}
use Rattle.words.specs.Lines.{text_lines}
use Rattle.words.specs.Meaning.{AddressText}
use Rattle.words.specs.Words.{Spanned, words_at, bytes_of}
use Rattle.words.specs.Cursor.{place_by}
use Rattle.ios.specs.Grammar.{WordsText, PassedText, ends_in}
use Rattle.ios.specs.Stands.{up_to}
use Rattle.deciding.specs.Halves.{list_part, header_part}
use Rattle.deciding.specs.HeaderLines.{header_line}

-- no text line is `=`
abbrev pub NoMark : List (List ℕ) → Type 0
NoMark [] = Unit {0}
NoMark (l ∷ ls) = (l ≢ 61 ∷ []) × NoMark ls

-- the end of a text line before what follows it
pub data EndText : List ℕ → List ℕ → Type 0 where
  feed : {rest : List ℕ} → EndText (10 ∷ []) rest
  return : {rest : List ℕ} → EndText (13 ∷ (10 ∷ [])) rest
  at_end : EndText [] []

-- whole text lines
pub data WholeText : List ℕ → Type 0 where
  no_lines : WholeText []
  ended : {bs : List ℕ} → ends_in 10 bs ≡ true → WholeText bs

-- an input, its list and its headers: parted by the first text line `=`, if there is one
pub data Parted : List ℕ → List ℕ → List ℕ → Type 0 where
  unmarked : {input : List ℕ} → NoMark (text_lines input) → Parted input input []
  marked : {list end headers : List ℕ} → WholeText list → NoMark (text_lines list) → EndText end headers → Parted (list ++ (61 ∷ (end ++ headers))) list headers

-- a header's words: two addresses, a protocol and two ports
pub record HeaderText (ws : List (List ℕ)) (h : Header) : Type 0 where
  pub source : List ℕ
  pub destination : List ℕ
  pub from : AddressText source h.source
  pub to : AddressText destination h.destination
  pub protocol : h.protocol ≤ 255
  pub from_port : h.source_port ≤ 65535
  pub to_port : h.destination_port ≤ 65535
  pub words : ws ≡ source ∷ (destination ∷ (decimal h.protocol ∷ (decimal h.source_port ∷ (decimal h.destination_port ∷ []))))

-- a text line that is malformed at column c: the words before the one there, or all words where none stands there, are
-- the beginning of some header's words, and with the word there, of none
pub record BadAt (line : List ℕ) (c : ℕ) : Type 0 where
  pub before : List Spanned
  pub after : List Spanned
  pub words : words_at line 0 ≡ before ++ after
  pub column : c ≡ place_by (length line) after
  pub more : List (List ℕ)
  pub header : Header
  pub good : HeaderText (map bytes_of before ++ more) header
  pub worst : (rest : List (List ℕ)) (h : Header) → HeaderText (map bytes_of before ++ up_to after rest) h → ⊥

-- the parts of the input are what they should be, and no other; a text line holds a header exactly when it has the form
pub record ReportStands : Type 0 where
  pub parted : (input : List ℕ) → Parted input (list_part input) (header_part input)
  pub only : (input list headers : List ℕ) → Parted input list headers → (list ≡ list_part input) × (headers ≡ header_part input)
  pub silent : (line : List ℕ) → header_line line ≡ Ok None → (length line ≤ 256) × PassedText (map bytes_of (words_at line 0))
  pub passed : (line : List ℕ) (ws : List (List ℕ)) → length line ≤ 256 → WordsText line ws → PassedText ws → header_line line ≡ Ok None
  pub sound : (line : List ℕ) (h : Header) → header_line line ≡ Ok (Some h) → (length line ≤ 256) × HeaderText (map bytes_of (words_at line 0)) h
  pub complete : (line : List ℕ) (ws : List (List ℕ)) (h : Header) → length line ≤ 256 → WordsText line ws → HeaderText ws h → header_line line ≡ Ok (Some h)
  pub bad : (line : List ℕ) (c : ℕ) → length line ≤ 256 → header_line line ≡ Err c → BadAt line c
  pub long : (line : List ℕ) → 256 < length line → header_line line ≡ Err 256
