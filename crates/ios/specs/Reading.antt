-- What a text says: its lines up to its first fault, and that fault. Assumes nothing.
use Rattle.std.specs.Prelude.{ℕ, ◌+◌, cond, List, [], ◌∷◌, length, Some, None, Ok, Err, Option, Result, nat_le, nat_lt}
use Rattle.acl.specs.declared.refusal.Refusal.{Refusal}
use Rattle.acl.specs.declared.refusal.Refusal.TheVariants.{TooManyLines, ShortMemory, TooLong}
use Rattle.acl.specs.Shapes.{Shape}
use Rattle.words.specs.declared.part.Stop.{Stop}
use Rattle.words.specs.Lines.{text_lines}
use Rattle.ios.specs.declared.outcome.Fault.{Fault}
use Rattle.ios.specs.declared.outcome.Reading.{Reading}
use Rattle.ios.specs.Entries.{EntryShape, numbered}
use Rattle.ios.specs.Parsing.{Said, line_says}

-- a refusal at a text line and a column
abbrev pub fault_at : Refusal → ℕ → ℕ → Fault
fault_at why t c = record { refusal = why; line = t; column = c }

-- a stop in text line t
abbrev pub fault_in : ℕ → Stop → Fault
fault_in t s = fault_at s.refusal t s.column

-- the list number that stands, the lines before the first fault, and that fault
pub record Text : Type 0 where
  pub known : Option ℕ
  pub lines : List Shape
  pub fault : Option Fault

-- a text that says this
abbrev pub text_by : Option ℕ → List Shape → Option Fault → Text
text_by n ls f = record { known = n; lines = ls; fault = f }

-- a text that says nothing but a fault
abbrev pub refused : Fault → Text
refused f = text_by None [] (Some f)

-- one line before those of the rest
abbrev pub added : Shape → Text → Text
added s rest = text_by rest.known (s ∷ rest.lines) rest.fault

-- line k + 1 from an entry in text line t, before the rest of the text; there is no line 1,025
abbrev pub taken : ℕ → ℕ → EntryShape → Text → Text
taken t k e rest = cond (nat_lt k 1024) (added (numbered (k + 1) e) rest) (refused (fault_at TooManyLines t 0))

-- text line t, before which k lines stand, and then the rest of the text by the count and number after it
abbrev pub scan_entry : ℕ → ℕ → Option EntryShape → (ℕ → Text) → Text
scan_entry t k None rest = rest k
scan_entry t k (Some e) rest = taken t k e (rest (k + 1))

-- a text line that stops ends the text; otherwise its entry counts
abbrev pub scan_by : ℕ → ℕ → Result Said Stop → (Option ℕ → ℕ → Text) → Text
scan_by t k (Err s) rest = refused (fault_in t s)
scan_by t k (Ok s) rest = scan_entry t k s.entry (rest s.known)

-- from text line t on, with k lines before and the list number that is known
abbrev pub scan : ℕ → ℕ → Option ℕ → List (List ℕ) → Text
scan t k known [] = text_by known [] None
scan t k known (l ∷ ls) = scan_by t k (line_says known l) (λ n m. scan (t + 1) m n ls)

-- what a whole text says
abbrev pub text_of : List ℕ → Text
text_of bs = scan 1 0 None (text_lines bs)

-- 0 where no list number stands
abbrev pub number_or_none : Option ℕ → ℕ
number_or_none None = 0
number_or_none (Some n) = n

-- what was read: the number, and the count of lines
abbrev pub reading : ℕ → ℕ → Reading
reading n k = record { number = n; count = k }

-- the answer by the fault, if there is one
abbrev pub counted_by : Option ℕ → ℕ → Option Fault → Result Reading Fault
counted_by n k None = Ok (reading (number_or_none n) k)
counted_by n k (Some f) = Err f

-- the answer to what a text says, memory sufficing
abbrev pub counted : Text → Result Reading Fault
counted t = counted_by t.known (length t.lines) t.fault

-- lines that memory has no place for are refused last
abbrev pub room_for : ℕ → Result Reading Fault → Result Reading Fault
room_for room (Err f) = Err f
room_for room (Ok r) = cond (nat_le r.count room) (Ok r) (Err (fault_at ShortMemory 0 0))

-- the answer to a text of at most 65,536 bytes
abbrev pub read_of : List ℕ → ℕ → Result Reading Fault
read_of bs room = cond (nat_le (length bs) 65536) (room_for room (counted (text_of bs))) (Err (fault_at TooLong 0 0))

-- what is new over the front of what was there
abbrev pub over : {A : Type 0} → List A → List A → List A
over [] old = old
over (s ∷ ss) [] = []
over (s ∷ ss) (o ∷ old) = s ∷ over ss old

-- line memory after reading: as it was where the text is refused
abbrev pub memory_after : Result Reading Fault → List ℕ → List Shape → List Shape
memory_after (Ok r) bs old = over (text_of bs).lines old
memory_after (Err f) bs old = old
