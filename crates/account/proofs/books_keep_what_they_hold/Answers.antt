use Rattle.account.proofs.Books.{books_keep}
use Rattle.account.proofs.books_keep_what_they_hold.Goals as goal

pub returns : goal.returns
returns c = books_keep
