-- What the lines in memory decide, and that memory for 1,024 lines is never too short. Assumes nothing.
use Rattle.std.proofs.Common.{◌≡◌, ℕ, List, map, length, take, Ok, Err, Result, sym, refl, ap, ◌∙◌, arith}
use Rattle.acl.specs.declared.header.Header.{Header}
use Rattle.acl.specs.declared.line.Line.{Line}
use Rattle.acl.specs.declared.terms.Action.{Action}
use Rattle.acl.specs.declared.terms.Action.TheVariants.{Deny, Permit}
use Rattle.acl.specs.Fits.{first_match}
use Rattle.acl.specs.Shapes.{Shape, shape}
use Rattle.acl.specs.Terms.{action_number}
use Rattle.ios.specs.declared.outcome.Fault.{Fault}
use Rattle.ios.specs.declared.outcome.Reading.{Reading}
use Rattle.ios.specs.Reading.{read_of, text_of, memory_after}
use Rattle.ios.specs.Stands.{ReadingStands}
use Rattle.ios.proofs.Fronts.{lines_read}
use Rattle.ios.proofs.Reasons.{other_reasons}
use Rattle.firmware.specs.Entry.{verdict_of, decided_by, decided_of, code_of, Roomy}

-- where the text was read, its lines decide
pub decided_read : (text : List ℕ) (h : Header) (result : Result Reading Fault) (r : Reading) (old : List Shape) (memory : List Line)
    → result ≡ Ok r → result ≡ read_of text 1024 → ReadingStands → length old ≡ 1024 → map shape memory ≡ memory_after result text old
    → Ok (verdict_of (first_match (map shape (take r.count memory)) h)) ≡ decided_of text h
decided_read text h result r old memory is answer stands room written =
    let read = sym is ∙ answer in
    let front = lines_read text 1024 r old memory read stands room (written ∙ ap (λ x. memory_after x text old) is) in
    ap (λ ls. Ok (verdict_of (first_match ls h))) front ∙ ap (λ a. decided_by a (text_of text).lines h) read

-- an action has a small number
no_action : (a : Action) → action_number a ≡ 265 → ⊥
no_action Deny e = omega arith
no_action Permit e = omega arith

pub roomy : Roomy
roomy text s d p sp dp = go (read_of text 1024) refl where
  go : (x : Result Reading Fault) → read_of text 1024 ≡ x
      → code_of (decided_by x (text_of text).lines (record { source = s; destination = d; protocol = p; source_port = sp; destination_port = dp })) ≡ 265 → ⊥
  go (Ok r) h e = no_action _ e
  go (Err f) h e = other_reasons text f h (omega arith)
