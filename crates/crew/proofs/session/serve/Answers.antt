use Rattle.std.proofs.Common.{◌≡◌, rules, length, ap}
use Rattle.std.proofs.lemmas.Result.{on_ok_weaker}
use Rattle.book.specs.Book.{pages}
use Rattle.crew.proofs.Sessions.{post_served}
use Rattle.crew.proofs.session.serve.Goals as goal

pub returns : goal.returns
returns g c =
    let m = g.M.Make.sheet in
    let ended = c.end-book.ensures in
    let many : length c.args.places.now ≡ 64 = search rules in
    on_ok_weaker c.answer_lines-answered.result
    (λ p. record {
      replies = p.replies;
      served = post_served m many c.new-post.ensures.opened p.answered ended.written_off ended.wire (ap pages ended.book);
      prints = p.prints;
    })
    c.answer_lines-answered.ensures
