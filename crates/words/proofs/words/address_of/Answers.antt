use Rattle.std.proofs.Common.{◌≡◌, true, None, sym, subst}
use Rattle.words.specs.Numbers.{address_in}
use Rattle.words.specs.Cursor.{well_sorted, word_part}
use Rattle.words.proofs.Sorts.{number_address}
use Rattle.words.proofs.words.address_of.Goals as goal

pub returns-in-Number : goal.returns-in-Number
returns-in-Number c = subst (λ w. well_sorted w ≡ true → None ≡ address_in (word_part w).bytes.now) (sym c.in-Number.is) (number_address c.in-Number.field-0) c.requires
