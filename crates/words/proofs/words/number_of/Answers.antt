use Rattle.std.proofs.Common.{◌≡◌, true, None, sym, subst}
use Rattle.words.specs.Numbers.{number_in}
use Rattle.words.specs.Cursor.{well_sorted, word_part}
use Rattle.words.proofs.Sorts.{address_number}
use Rattle.words.proofs.words.number_of.Goals as goal

pub returns-in-Address : goal.returns-in-Address
returns-in-Address c =
    subst (λ w. well_sorted w ≡ true → None ≡ number_in c.args.low c.args.high (word_part w).bytes.now) (sym c.in-Address.is)
    (address_number c.args.low c.args.high c.in-Address.field-0) c.requires
