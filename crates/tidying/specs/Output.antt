-- All that `tidy` prints, from all that it reads. Assumes nothing.
use Rattle.std.specs.Prelude.{ℕ, List, [], ◌∷◌, ◌++◌, Ok, Err, Result}
use Rattle.acl.specs.declared.refusal.Refusal.{Refusal}
use Rattle.acl.specs.Shapes.{Shape}
use Rattle.ios.specs.declared.outcome.Fault.{Fault}
use Rattle.ios.specs.declared.outcome.Reading.{Reading}
use Rattle.ios.specs.Faults.{fault_text}
use Rattle.ios.specs.Reading.{fault_at, read_of, text_of}
use Rattle.writer.specs.Writing.{write_of, text_for}

-- the line that a refusal prints
abbrev pub refused_text : Fault → List ℕ
refused_text f = fault_text f ++ (10 ∷ [])

-- the text, or the refusal to write it
abbrev pub canonical_by : Result ℕ Refusal → List ℕ → List ℕ
canonical_by (Ok k) text = text
canonical_by (Err e) text = refused_text (fault_at e 0 0)

-- the canonical text of lines; one over 65,536 bytes is refused, at no place of the input
abbrev pub canonical_of : List Shape → ℕ → List ℕ
canonical_of ls n = canonical_by (write_of ls n 65536) (text_for ls n)

-- a list without lines gives nothing
abbrev pub tidied_lines : List Shape → ℕ → List ℕ
tidied_lines [] n = []
tidied_lines (l ∷ ls) n = canonical_of (l ∷ ls) n

-- the lines that were read in canonical form, or the refusal
abbrev pub tidied_by : Result Reading Fault → List Shape → List ℕ
tidied_by (Ok r) ls = tidied_lines ls r.number
tidied_by (Err f) ls = refused_text f

-- the whole output for an input; memory holds 1,024 lines, so it is never too short
abbrev pub tidied_of : List ℕ → List ℕ
tidied_of input = tidied_by (read_of input 1024) (text_of input).lines
