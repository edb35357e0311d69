use Rattle.std.proofs.Common.{refl}
use Rattle.wire.proofs.scripted.Scripted.play.Goals as goal

pub returns-in-Pass : goal.returns-in-Pass
returns-in-Pass g c = record {
  oldest = rw (← c.in-Pass.ensures.value) (record { shown = _; shows = refl; left = _; met = c.request.ensures; leaves = refl });
  taken = c.take.ensures.after;
  same = c.take.ensures.same;
}

pub returns-in-DropReply : goal.returns-in-DropReply
returns-in-DropReply g c = record {
  oldest = rw (← c.in-DropReply.ensures.value) (refl, (_, record { shown = _; shows = refl; left = _; met = c.request-in-DropReply.ensures; leaves = refl }));
  taken = c.take.ensures.after;
  same = c.take.ensures.same;
}
