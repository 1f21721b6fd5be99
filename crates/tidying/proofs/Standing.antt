-- What is tidied stays the same list, and stays as it is. Assumes nothing.
use Rattle.std.proofs.Common.{◌≡◌, ℕ, ◌+◌, ◌≤◌, List, [], ◌∷◌, map, length, Some, None, Ok, Option, sym, refl, ap, ◌∙◌, subst, arith}
use lib.ListN.{length-map}
use Rattle.acl.specs.declared.line.Line.{Line}
use Rattle.acl.specs.Shapes.{Shape, shape}
use Rattle.ios.specs.declared.family.Family.{Family}
use Rattle.ios.specs.declared.outcome.Reading.{Reading}
use Rattle.ios.specs.Entries.{EntryShape, numbered}
use Rattle.ios.specs.Parsing.{family_of}
use Rattle.ios.specs.Reading.{read_of, text_of, reading}
use Rattle.ios.specs.Grammar.{numbered_from}
use Rattle.ios.proofs.Lined.{read_lined}
use Rattle.ios.proofs.Whole.{reading_stands}
use Rattle.writer.specs.Back.{renumbered, number_back}
use Rattle.writer.specs.Writing.{write_of, text_by, text_for}
use Rattle.writer.proofs.Back.{round_trip}
use Rattle.tidying.specs.Output.{canonical_by, tidied_lines, tidied_by, tidied_of}
use Rattle.tidying.specs.Stands.{Tidies, TidiedStands}

-- what is numbered from k + 1 on keeps its numbers
renumbered_from : (k : ℕ) (es : List EntryShape) → renumbered k (numbered_from k es) ≡ numbered_from k es
renumbered_from k [] = refl
renumbered_from k (e ∷ es) = ap (λ ss. numbered (k + 1) e ∷ ss) (renumbered_from (k + 1) es)

-- the text of such lines reads back as these
abbrev Back : List Shape → Type 0
Back ss = (n k : ℕ) → write_of ss n 65536 ≡ Ok k → length ss ≤ 1024 → renumbered 0 ss ≡ ss
    → (read_of (text_for ss n) 1024 ≡ Ok (reading (number_back ss n) (length ss))) × ((text_of (text_for ss n)).lines ≡ ss)

back : (lines : List Line) → Back (map shape lines)
back lines n k e few same =
    let size = length-map lines shape in
    let p = round_trip lines n 65536 k 1024 e (omega (arith, size)) in
    (p.0 ∙ ap (λ m. Ok (reading (number_back (map shape lines) n) m)) (sym size), p.1 ∙ same)

-- no lines have no text
no_text : (n : ℕ) (o : Option Family) → [] ≡ text_by [] n o
no_text n None = refl
no_text n (Some f) = refl

-- where lines can be written, their text is what is printed
printed : (ss : List Shape) (n k : ℕ) → write_of ss n 65536 ≡ Ok k → tidied_lines ss n ≡ text_for ss n
printed [] n k e = no_text n (family_of n)
printed (s ∷ ss) n k e = ap (λ x. canonical_by x (text_for (s ∷ ss) n)) e

-- the number that is read back prints the same
number_back_lem : (ss : List Shape) (n : ℕ) → tidied_lines ss (number_back ss n) ≡ tidied_lines ss n
number_back_lem [] n = refl
number_back_lem (s ∷ ss) n = refl

-- what is printed of a text that is read
output : (input : List ℕ) (r : Reading) → read_of input 1024 ≡ Ok r → tidied_of input ≡ tidied_lines (text_of input).lines r.number
output input r e = ap (λ x. tidied_by x (text_of input).lines) e

pub tidied_stands : TidiedStands
tidied_stands = record { same = same; again = again; nothing = nothing } where
  same : (input : List ℕ) (r : Reading) → Tidies input r
      → (read_of (tidied_of input) 1024 ≡ Ok (reading (number_back (text_of input).lines r.number) r.count))
      × ((text_of (tidied_of input)).lines ≡ (text_of input).lines)
  same input r t =
      let ss = (text_of input).lines in
      let n = r.number in
      let sound = reading_stands.sound input 1024 r t.read in
      let text = sound.0 in
      let lined = read_lined input 1024 r t.read in
      let is : tidied_of input ≡ text_for ss n = output input r t.read ∙ printed ss n t.length t.written in
      let kept : renumbered 0 ss ≡ ss = ap (renumbered 0) text.shapes ∙ renumbered_from 0 text.entries ∙ sym text.shapes in
      let p = subst Back lined.1 (back lined.0) n t.length t.written (omega (arith, sound.1, sound.2)) kept in
      (ap (λ bs. read_of bs 1024) is ∙ p.0 ∙ ap (λ m. Ok (reading (number_back ss n) m)) (sym sound.1), ap (λ bs. (text_of bs).lines) is ∙ p.1)

  again : (input : List ℕ) (r : Reading) → Tidies input r → tidied_of (tidied_of input) ≡ tidied_of input
  again input r t =
      let ss = (text_of input).lines in
      let n = r.number in
      let p = same input r t in
      output (tidied_of input) (reading (number_back ss n) r.count) p.0 ∙ ap (λ ls. tidied_lines ls (number_back ss n)) p.1
      ∙ number_back_lem ss n ∙ sym (output input r t.read)

  nothing : (input : List ℕ) (r : Reading) → read_of input 1024 ≡ Ok r → (text_of input).lines ≡ [] → tidied_of input ≡ []
  nothing input r e none = output input r e ∙ ap (λ ls. tidied_lines ls r.number) none
