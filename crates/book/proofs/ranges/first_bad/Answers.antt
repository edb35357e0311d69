use Rattle.std.proofs.Common.{◌≡◌, true, false, rules}
use Rattle.std.proofs.lemmas.Iterator.{IsFirst-from_position, YieldsList-from_slice}
use Rattle.book.specs.Bill.{holds}
use Rattle.book.proofs.Walks.{first_found}
use Rattle.book.proofs.ranges.first_bad.Goals as goal

pub returns : goal.returns
returns g c =
    let m = g.M.Make.sheet in
    let es = c.args.entries.now in
    let found = IsFirst-from_position _ _ c.position.result (λ e. false ≡ holds m e) (λ e. true ≡ holds m e) c.position.ensures.ran
    (YieldsList-from_slice es cc) (λ x q k. search rules) (λ x q k. search rules) in
    first_found m es c.position.result found
