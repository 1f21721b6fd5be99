-- The front of text memory after writing. Assumes nothing.
use Rattle.std.proofs.Common.{◌≡◌, ℕ, ◌≤◌, List, ◌++◌, length, take, Ok, Err, ap, ◌∙◌, arith}
use Rattle.std.proofs.lemmas.Bool.Decides.{nat_tests}
use Rattle.std.proofs.lemmas.List.{take_at}
use Rattle.acl.specs.declared.refusal.Refusal.{Refusal}
use Rattle.acl.specs.Shapes.{Shape}
use Rattle.ios.specs.declared.outcome.Fault.{Fault}
use Rattle.ios.specs.Reading.{fault_at, over}
use Rattle.ios.proofs.Fronts.{over_front, length_over}
use Rattle.writer.specs.Writing.{write_of, text_for}
use Rattle.tidying.specs.Output.{refused_text, canonical_by, canonical_of}

-- the length that is answered is that of a text which memory has room for
write_fits : (ls : List Shape) (n room m : ℕ) → Ok m ≡ write_of ls n room → (m ≡ length (text_for ls n)) × (length (text_for ls n) ≤ room)
write_fits ls n room m e = grind (arith, nat_tests)

-- memory that is cut to the length of what was written over it is the text
pub text_cut : (ls : List Shape) (n k size : ℕ) (old new rest : List ℕ) → Ok k ≡ write_of ls n (length old) → new ≡ over (text_for ls n) old
    → length old ≡ size → size ≡ 65536 → take k (take size (new ++ rest)) ≡ canonical_of ls n
text_cut ls n k size old new rest answer written room all =
    let p = write_fits ls n (length old) k answer in
    let text = text_for ls n in
    ap (take k) (take_at new rest size (ap length written ∙ length_over text old ∙ room)) ∙ ap (take k) written ∙ ap (λ j. take j (over text old)) p.0
    ∙ over_front text old p.1 ∙ ap (λ x. canonical_by x text) (answer ∙ ap (write_of ls n) (room ∙ all))

-- and where it is refused, the refusal is
pub text_refused : (ls : List Shape) (n size : ℕ) (e : Refusal) (f : Fault) (old : List ℕ) → f ≡ fault_at e 0 0 → Err e ≡ write_of ls n (length old)
    → length old ≡ size → size ≡ 65536 → refused_text f ≡ canonical_of ls n
text_refused ls n size e f old is answer room all = ap refused_text is ∙ ap (λ x. canonical_by x (text_for ls n)) (answer ∙ ap (write_of ls n) (room ∙ all))
