use Rattle.std.proofs.Common.{◌∙◌, arith}
use Rattle.chip.proofs.Bytes.{number_below, padded}
use Rattle.chip.proofs.register.number_of.Goals as goal

pub returns : goal.returns
returns c =
    let value = c.from_be_bytes.ensures ∙ padded c.args.bytes.now c.copy_from_slice.new.self c.requires c.copy_from_slice.ensures.after in
    record { value = value; bound = omega (arith, value, number_below c.args.bytes.now (λ i. (c.type_inv.bytes i).fits)) }
