-- All that is printed, from all that is read. Assumes nothing.
use Rattle.std.specs.Prelude.{ℕ, ◌+◌, List, [], ◌∷◌, ◌++◌, Some, None, Ok, Err, Option, Result}
use Rattle.acl.specs.declared.header.Header.{Header}
use Rattle.acl.specs.declared.terms.Action.{Action}
use Rattle.acl.specs.declared.terms.Action.TheVariants.{Deny, Permit}
use Rattle.acl.specs.Shapes.{Shape}
use Rattle.acl.specs.Fits.{first_match, found_shape}
use Rattle.words.specs.Lines.{text_lines}
use Rattle.ios.specs.declared.outcome.Fault.{Fault}
use Rattle.ios.specs.declared.outcome.Reading.{Reading}
use Rattle.ios.specs.Faults.{fault_text}
use Rattle.ios.specs.Reading.{read_of, text_of}
use Rattle.deciding.specs.declared.answer.Answer.{Answer}
use Rattle.deciding.specs.declared.answer.Answer.TheVariants.{Decided, Bad}
use Rattle.deciding.specs.Halves.{list_part, header_part}
use Rattle.deciding.specs.HeaderLines.{header_line}
use Rattle.deciding.specs.declared.answer.Tally.{Tally}
use Rattle.deciding.specs.Answers.{line_text, verdict_text, bad_text, summary_text}

-- what is printed for text line t of the header part
abbrev pub answer_by : List Shape → ℕ → Result (Option Header) ℕ → List ℕ
answer_by ss t (Ok None) = []
answer_by ss t (Ok (Some h)) = line_text (verdict_text (first_match ss h))
answer_by ss t (Err c) = line_text (bad_text t c)

-- what is printed for the text lines from t on
abbrev pub answers_from : List Shape → ℕ → List (List ℕ) → List ℕ
answers_from ss t [] = []
answers_from ss t (l ∷ ls) = answer_by ss t (header_line l) ++ answers_from ss (t + 1) ls

-- these counts of permitted, denied and malformed headers
abbrev pub tally : ℕ → ℕ → ℕ → Tally
tally p d b = record { permit = p; deny = d; bad = b }

-- one header more; the end of the list denies
abbrev pub action_noted : Action → Tally → Tally
action_noted Permit t = tally (t.permit + 1) t.deny t.bad
action_noted Deny t = tally t.permit (t.deny + 1) t.bad

-- one header more that this line decides, or none; the end of the list denies
abbrev pub verdict_noted : Option Shape → Tally → Tally
verdict_noted None t = action_noted Deny t
verdict_noted (Some s) t = action_noted s.action t

-- one text line more of the header part
abbrev pub noted : List Shape → Result (Option Header) ℕ → Tally → Tally
noted ss (Ok None) t = t
noted ss (Ok (Some h)) t = verdict_noted (first_match ss h) t
noted ss (Err c) t = tally t.permit t.deny (t.bad + 1)

-- how many headers of these text lines are permitted, denied and malformed
abbrev pub tally_of : List Shape → List (List ℕ) → Tally
tally_of ss [] = tally 0 0 0
tally_of ss (l ∷ ls) = noted ss (header_line l) (tally_of ss ls)

-- a refused list prints its refusal and nothing else
abbrev pub report_by : Result Reading Fault → List Shape → List (List ℕ) → List ℕ
report_by (Err f) ss ls = line_text (fault_text f)
report_by (Ok r) ss ls = answers_from ss 1 ls ++ line_text (summary_text r.count (tally_of ss ls))

-- the whole output for an input; memory holds 1,024 lines, so it is never too short
abbrev pub report_of : List ℕ → List ℕ
report_of input = report_by (read_of (list_part input) 1024) (text_of (list_part input)).lines (text_lines (header_part input))

-- the tally after an answer of the code
abbrev pub answer_noted : Answer → Tally → Tally
answer_noted (Decided found) t = verdict_noted (found_shape found) t
answer_noted (Bad n c) t = tally t.permit t.deny (t.bad + 1)
