use Rattle.std.proofs.Common.{get_or, sym, refl, ◌∙◌, ⊎_elim, arith}
use Rattle.words.proofs.Digits.{numeral_some, bad, big, all_read, below, inside, same_digit, digits_more, read_on_at}
use Rattle.words.proofs.numbers.number_in.Goals as goal

pub loop-b-init : goal.loop-b-init
loop-b-init c = (omega arith, numeral_some c.args.word.now c.if-is_empty.ensures (λ z. ⊎_elim (λ p. p.1) (λ n. absurd (n z)) c.else-word-eq48.either), refl, refl)

pub returns-then-not-is_ascii_digit : goal.returns-then-not-is_ascii_digit
returns-then-not-is_ascii_digit c = bad _ _ c.args.word.now c.loop-b.b-index (omega arith) c.loop-b.invariant.1 c.loop-b.invariant.2 (sym (same_digit (get_or c.args.word.now c.loop-b.b-index 0)) ∙ sym c.if-not-is_ascii_digit.ensures.value)

pub returns-then-n-high : goal.returns-then-n-high
returns-then-n-high c =
    big _ _ c.args.word.now _ _ (c.loop-b.invariant.3 ∙ read_on_at _ c.args.word.now c.loop-b.b-index (omega arith)) c.if-n-high.true

pub loop-b-preserved : goal.loop-b-preserved
loop-b-preserved c = (
  omega arith,
  c.loop-b.invariant.1,
  digits_more c.args.word.now c.loop-b.b-index (omega arith) (sym (same_digit (get_or c.args.word.now c.loop-b.b-index 0)) ∙ sym c.if-not-is_ascii_digit.ensures.value) c.loop-b.invariant.2,
  c.loop-b.invariant.3 ∙ read_on_at _ c.args.word.now c.loop-b.b-index (omega arith),
)

pub returns-then-n-low : goal.returns-then-n-low
returns-then-n-low c =
    below _ _ c.loop-b.n c.if-n-low.true ∙ sym (all_read _ _ c.args.word.now c.loop-b.b-index _ (omega arith) c.loop-b.invariant.1 c.loop-b.invariant.2 c.loop-b.invariant.3)

pub returns-else-n-low : goal.returns-else-n-low
returns-else-n-low c =
    inside _ _ c.loop-b.n c.if-n-low.false c.loop-b.invariant.0
    ∙ sym (all_read _ _ c.args.word.now c.loop-b.b-index _ (omega arith) c.loop-b.invariant.1 c.loop-b.invariant.2 c.loop-b.invariant.3)
