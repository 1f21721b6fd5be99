-- The front of line memory after reading. Assumes nothing.
use Rattle.std.proofs.Common.{◌≡◌, ℕ, suc, ◌≤◌, List, [], ◌∷◌, map, length, take, Ok, sym, refl, ap, ◌∙◌, arith}
use Rattle.std.proofs.lemmas.List.{take-map}
use Rattle.acl.specs.declared.line.Line.{Line}
use Rattle.acl.specs.Shapes.{Shape, shape}
use Rattle.ios.specs.declared.outcome.Reading.{Reading}
use Rattle.ios.specs.Reading.{text_of, read_of, over}
use Rattle.ios.specs.Stands.{ReadingStands}

-- the front of memory is what was written over it, and memory keeps its length
pub over_front : {A : Type 0} (new old : List A) → length new ≤ length old → take (length new) (over new old) ≡ new
over_front [] old h = refl
over_front (s ∷ ss) [] h = absurd (omega arith)
over_front (s ∷ ss) (o ∷ old) h = ap (λ l. s ∷ l) (over_front ss old (omega arith))

pub length_over : {A : Type 0} (new old : List A) → length (over new old) ≡ length old
length_over [] old = refl
length_over (s ∷ ss) [] = refl
length_over (s ∷ ss) (o ∷ old) = ap suc (length_over ss old)

-- the front of the memory holds the lines of the text
pub lines_read : (text : List ℕ) (room : ℕ) (r : Reading) (old : List Shape) (memory : List Line)
    → Ok r ≡ read_of text room → ReadingStands → length old ≡ room → map shape memory ≡ over (text_of text).lines old
    → map shape (take r.count memory) ≡ (text_of text).lines
lines_read text room r old memory answer stands same written =
    let ss = (text_of text).lines in
    let sound = stands.sound text room r (sym answer) in
    sym (take-map shape r.count memory) ∙ ap (take r.count) written
    ∙ ap (λ j. take j (over ss old)) sound.1 ∙ over_front ss old (omega (arith, sound.1, sound.2))
