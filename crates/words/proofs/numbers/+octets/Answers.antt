use Rattle.std.proofs.Common.{◌+◌, ◌-◌, ◌*◌, take, ap, ◌∙◌, arith}
use Rattle.std.proofs.lemmas.List.{take_rest}
use Rattle.words.specs.Numbers.{octets_in}
use Rattle.words.proofs.Dots.{octet_refused, octet_alone, octet_followed, fits_more, octet_small}
use Rattle.words.proofs.Found.{none_found, found}
use Rattle.words.proofs.numbers.+octets.Goals as goal

pub returns-in_err-end : goal.returns-in_err-end
returns-in_err-end t c =
    c.from_residual-in_err-end.ensures ∙ octet_alone c.args.left c.args.value c.args.word.now (omega arith) (none_found 46 c.args.word.now c.in_err-end.ensures)

pub returns-in_err-n-2 : goal.returns-in_err-n-2
returns-in_err-n-2 t c =
    c.from_residual-in_err-n-2.ensures
    ∙ octet_refused c.args.left c.args.value c.args.word.now c.in_ok-end.end (omega arith) (found 46 c.args.word.now c.in_ok-end.end c.in_ok-end.ensures) c.in_err-n-2.ensures

pub overflow_mul-value : goal.overflow_mul-value
overflow_mul-value t c = omega (arith, (fits_more c.args.left c.args.value 0 (omega arith) c.requires.0 c.requires.1 (omega arith)).0)

pub overflow_add-value : goal.overflow_add-value
overflow_add-value t c =
    omega (arith, (fits_more c.args.left c.args.value c.in_ok-n-2.n (omega arith) c.requires.0 c.requires.1 (octet_small (take c.in_ok-end.end c.args.word.now) _ c.in_ok-n-2.ensures)).1)

pub octets-requires : goal.octets-requires
octets-requires t c =
    (omega arith, (omega arith, (fits_more c.args.left c.args.value c.in_ok-n-2.n (omega arith) c.requires.0 c.requires.1 (octet_small (take c.in_ok-end.end c.args.word.now) _ c.in_ok-n-2.ensures)).2))

pub returns : goal.returns
returns t c =
    c.octets.ensures
    ∙ ap (octets_in (c.args.left - 1) (c.args.value * 256 + c.in_ok-n-2.n)) (take_rest c.args.word.now (c.in_ok-end.end + 1))
    ∙ octet_followed c.args.left c.args.value c.args.word.now c.in_ok-end.end (omega arith) (found 46 c.args.word.now c.in_ok-end.end c.in_ok-end.ensures) _ c.in_ok-n-2.ensures
