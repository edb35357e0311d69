use Rattle.meter.proofs.Billing.{bill_made}
use Rattle.book.specs.Book.{pages}
use Rattle.meter.proofs.meter.Meter.bill.Goals as goal
use Rattle.meter.specs.Views.{meter_of}

pub returns : goal.returns
returns g c = bill_made g.W.Make.Make.sheet g.met.W.Wire.meant g.met.W.Make.Make.lawful c.args.channel c.args.shunt (meter_of c.args.self.now) _ (pages c.args.book.now) c.bill.result c.bill.ensures
