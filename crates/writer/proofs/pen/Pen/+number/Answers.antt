use Rattle.std.proofs.Common.{◌+◌, [], ◌∷◌, sym, ap, arith}
use Rattle.std.proofs.lemmas.Fmt.{decimal_digit, decimal_step}
use Rattle.writer.proofs.Overs.{two, same}
use Rattle.writer.proofs.pen.Pen.+number.Goals as goal
use Rattle.writer.proofs.pen.Pen.+number.Goals.{then-n-ge10, else-n-ge10}

pub returns : goal.returns
returns t c = elim c.if-n-ge10.branch [
  | then-n-ge10 w ↦ two w.number.ensures (rw w.self-is at c.bytes.ensures) (sym (decimal_step _ (omega arith) (omega arith)))
  | else-n-ge10 w ↦ same (rw (decimal_digit _ w.if-n-ge10.false) (ap (λ d. (48 + d) ∷ []) (omega arith))) (rw w.self-is at c.bytes.ensures)
]
