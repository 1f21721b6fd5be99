-- What the entry for C answers. Assumes nothing.
use Rattle.std.specs.Prelude.{ℕ, ◌+◌, List, Some, None, Ok, Err, Option, Result, ◌≢◌}
use Rattle.acl.specs.declared.header.Header.{Header}
use Rattle.acl.specs.declared.refusal.Refusal.{Refusal}
use Rattle.acl.specs.declared.terms.Action.{Action}
use Rattle.acl.specs.declared.terms.Action.TheVariants.{Deny}
use Rattle.acl.specs.Fits.{first_match}
use Rattle.acl.specs.Refusals.{refusal_number}
use Rattle.acl.specs.Shapes.{Shape}
use Rattle.acl.specs.Terms.{action_number}
use Rattle.ios.specs.declared.outcome.Fault.{Fault}
use Rattle.ios.specs.declared.outcome.Reading.{Reading}
use Rattle.ios.specs.Reading.{read_of, text_of}

-- the action of the line that decides; the end of a list denies
abbrev pub verdict_of : Option Shape → Action
verdict_of None = Deny
verdict_of (Some l) = l.action

-- the verdict of the lines that were read, or the refusal
abbrev pub decided_by : Result Reading Fault → List Shape → Header → Result Action Refusal
decided_by (Err f) ls h = Err f.refusal
decided_by (Ok r) ls h = Ok (verdict_of (first_match ls h))

-- what the list in a text decides of a header, with memory for 1,024 lines
abbrev pub decided_of : List ℕ → Header → Result Action Refusal
decided_of text h = decided_by (read_of text 1024) (text_of text).lines h

-- 0 is deny, 1 permit, and 256 + number a refused text
abbrev pub code_of : Result Action Refusal → ℕ
code_of (Ok a) = action_number a
code_of (Err e) = 256 + refusal_number e

-- the answer to a text and the five numbers of a header
abbrev pub entry_of : List ℕ → ℕ → ℕ → ℕ → ℕ → ℕ → ℕ
entry_of text s d p sp dp = code_of (decided_of text (record { source = s; destination = d; protocol = p; source_port = sp; destination_port = dp }))

-- memory is never too short, whatever the text: 256 + 9 does not come
abbrev pub Roomy : Type 0
Roomy = (text : List ℕ) (s d p sp dp : ℕ) → entry_of text s d p sp dp ≢ 265
