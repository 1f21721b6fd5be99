-- The theorem on books. Assumes nothing.
use Rattle.book.proofs.Stands.{books_stand}
use Rattle.book.proofs.books_stand.Goals as goal

pub returns : goal.returns
returns g c = λ b laws. books_stand b laws
