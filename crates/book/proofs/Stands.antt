-- Every book with a lawful order has unique answers and keeps the promises. Assumes nothing.
use Rattle.acl.specs.Headers.{width}
use Rattle.orders.specs.Meanings.{LawfulOrder}
use Rattle.book.specs.Books.{Book}
use Rattle.book.specs.Promises.{BookStands}
use Rattle.book.proofs.Once.{answers_once}
use Rattle.book.proofs.Kept.{promises_kept}

-- the answers of a book are unique, and its promises are kept
pub books_stand : {V : Type 0} (b : Book V) → LawfulOrder width b.order → BookStands b
books_stand b laws = record { once = answers_once b laws; promised = promises_kept b }
