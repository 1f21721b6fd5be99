use Rattle.std.proofs.Common.{◌≡◌, ℕ, true, false, List, [], ◌∷◌, codes, Some, Option, sym, ap, ◌∙◌}
use Rattle.words.specs.declared.part.Word.{Word}
use Rattle.words.specs.Keywords.{named, comment}
use Rattle.words.specs.Words.{Spanned}
use Rattle.words.specs.Cursor.{Rest, Peeks, word_shown, rest, passed}
use Rattle.ios.specs.Parsing.{says_by, body_says, list_number_of}
use Rattle.ios.proofs.parse.words_say.Goals as goal

-- a text line whose first word is this keyword is a line of a list
opens_list : (known : Option ℕ) (r : Rest) (ws : List Spanned) (w : Word) → Peeks ws (Some w)
    → false ≡ comment (word_shown w).bytes → true ≡ named (word_shown w).bytes (codes "access-list")
    → says_by known r ws ≡ body_says (list_number_of known (passed r))
opens_list known r [] w p c n = absurd p
opens_list known r (s ∷ ws) w p c n = rw (p.0, ← c, ← n)

pub returns : goal.returns
returns c =
    c.body.ensures
    ∙ ap (λ r. body_says (list_number_of c.args.known r)) c.pass.ensures
    ∙ sym (opens_list c.args.known (rest c.args.words.now) _ c.in-Some.word c.in-Some.ensures c.if-not-opens_comment.ensures c.if-not-is.ensures)
