use Rattle.account.proofs.Books.{book_grows}
use Rattle.account.proofs.the_book_only_grows.Goals as goal

pub returns : goal.returns
returns c = book_grows
