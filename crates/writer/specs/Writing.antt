-- What writing a list answers, and what it leaves in text memory. Assumes nothing.
use Rattle.std.specs.Prelude.{ℕ, Bool, true, false, cond, List, [], ◌∷◌, length, Some, None, Ok, Err, Option, Result, ◌==◌, nat_lt}
use Rattle.acl.specs.declared.refusal.Refusal.{Refusal}
use Rattle.acl.specs.declared.refusal.Refusal.TheVariants.{TooManyLines, ShortMemory, TooLong, BadNumber, NotStandard}
use Rattle.acl.specs.Shapes.{Shape}
use Rattle.acl.specs.Terms.{protocol_case, port_case}
use Rattle.ios.specs.declared.family.Family.{Family}
use Rattle.ios.specs.declared.family.Family.TheVariants.{Standard, Extended}
use Rattle.ios.specs.Parsing.{family_of}
use Rattle.ios.specs.Reading.{over}
use Rattle.writer.specs.Canon.{list_bytes}

-- a line that a standard list can hold: any protocol, and any destination, its ports included
abbrev pub standard_line : Shape → Bool
standard_line l =
    cond ((protocol_case l.protocol).number == 0)
    (cond (l.destination.wildcard == 4294967295) ((port_case l.destination.ports).number == 0) false) false

-- lines that a standard list can hold
abbrev pub all_standard : List Shape → Bool
all_standard [] = true
all_standard (l ∷ ls) = cond (standard_line l) (all_standard ls) false

-- a standard list holds only such lines, an extended one all
abbrev pub allowed : Family → List Shape → Bool
allowed Standard ls = all_standard ls
allowed Extended ls = true

-- a text of k bytes, for memory of that length
abbrev pub sized : ℕ → ℕ → Result ℕ Refusal
sized k room = cond (nat_lt 65536 k) (Err TooLong) (cond (nat_lt room k) (Err ShortMemory) (Ok k))

-- the checks after the first, by the form of the list
abbrev pub write_by : List Shape → ℕ → ℕ → Option Family → Result ℕ Refusal
write_by ls n room None = Err BadNumber
write_by ls n room (Some f) = cond (allowed f ls) (sized (length (list_bytes n f ls)) room) (Err NotStandard)

-- the checks in their sequence: too many lines, the list number, lines that a standard list cannot hold, the text's
-- length, and the memory's
abbrev pub write_of : List Shape → ℕ → ℕ → Result ℕ Refusal
write_of ls n room = cond (nat_lt 1024 (length ls)) (Err TooManyLines) (write_by ls n room (family_of n))

-- the text of a list under a number that has a family
abbrev pub text_by : List Shape → ℕ → Option Family → List ℕ
text_by ls n None = []
text_by ls n (Some f) = list_bytes n f ls

-- the text of a list under any number
abbrev pub text_for : List Shape → ℕ → List ℕ
text_for ls n = text_by ls n (family_of n)

-- text memory after writing: the text over its front, or as it was where the list is refused
abbrev pub memory_after : Result ℕ Refusal → List ℕ → List ℕ → List ℕ
memory_after (Ok k) text old = over text old
memory_after (Err e) text old = old
