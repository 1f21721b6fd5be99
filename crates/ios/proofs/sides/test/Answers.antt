use Rattle.std.proofs.Common.{◌≡◌, ℕ, Bool, List, [], ◌∷◌, Some, sym, ap, ◌∙◌, rules}
use Rattle.words.specs.declared.part.Word.{Word}
use Rattle.words.specs.Words.{Spanned}
use Rattle.words.specs.Cursor.{word_shown, Peeks}
use Rattle.words.specs.Keywords.{named}
use Rattle.ios.specs.Parsing.{next_by}
use Rattle.ios.proofs.sides.test.Goals as goal
use Rattle.ios.proofs.sides.test.Goals.{in_default-via-in-Some-5+else-is-5, in_default-via-in_default}

-- a word that is next is the keyword where the answer says so
next_says : (ws : List Spanned) (w : Word) → Peeks ws (Some w) → (k : List ℕ) (b : Bool) → b ≡ named (word_shown w).bytes k → next_by ws k ≡ b
next_says [] w p k b e = absurd p
next_says (s ∷ ws) w p k b e = ap (λ (u : Spanned). named u.bytes k) p.0 ∙ sym e

pub returns-in-Some-5 : goal.returns-in-Some-5
returns-in-Some-5 c =
    let says = next_says _ _ c.in-Some.ensures in
    c.range.ensures
    ∙ rw (says _ _ c.if-is.ensures, says _ _ c.if-is-2.ensures, says _ _ c.if-is-3.ensures, says _ _ c.if-is-4.ensures, says _ _ c.if-is-5.ensures)

pub returns-in_default : goal.returns-in_default
returns-in_default c = elim c.in_default.branch [
  | in_default-via-in-Some-5+else-is-5 w ↦
      let says = next_says _ _ w.in-Some.ensures in
      rw (says _ _ w.if-is.ensures, says _ _ w.if-is-2.ensures, says _ _ w.if-is-3.ensures, says _ _ w.if-is-4.ensures, says _ _ w.if-is-5.ensures)
  | in_default-via-in_default w ↦ search rules
]
