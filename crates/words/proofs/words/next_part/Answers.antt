use Rattle.std.proofs.Common.{◌≡◌, ◌-◌, length, take, drop, unwrap_or, sym, subst, refl, ap, ◌∙◌}
use Rattle.std.proofs.lemmas.List.{take_rest}
use Rattle.words.specs.Words.{Next}
use Rattle.words.proofs.Spans.{none_next, next_word}
use Rattle.words.proofs.words.next_part.Goals as goal

pub returns-in_err-start : goal.returns-in_err-start
returns-in_err-start c =
    let e : c.in_ok-rest.rest.now ≡ drop c.args.from c.args.line.now = c.in_ok-rest.ensures.lookup.0.2 ∙ take_rest c.args.line.now c.args.from in
    subst (λ o. Next c.args.line.now c.args.from o) (sym c.from_residual-in_err-start.ensures)
    (none_next c.args.line.now c.args.from c.in_ok-rest.rest.now e c.in_err-start.ensures)

pub returns : goal.returns
returns c =
    let e : c.in_ok-rest.rest.now ≡ drop c.args.from c.args.line.now = c.in_ok-rest.ensures.lookup.0.2 ∙ take_rest c.args.line.now c.args.from in
    let word = take (length c.in_ok-rest.rest.now - c.in_ok-start.start) (drop c.in_ok-start.start c.in_ok-rest.rest.now) in
    next_word c.args.line.now c.args.from c.in_ok-rest.rest.now e c.in_ok-start.start c.unwrap_or-end.result c.in_ok-start.ensures
    word (take_rest c.in_ok-rest.rest.now c.in_ok-start.start) (c.unwrap_or-end.ensures ∙ ap (λ o. unwrap_or o (length word)) c.before_blank.ensures) _ refl refl
