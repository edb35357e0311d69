use Rattle.std.proofs.Common.{◌<◌, length, get_or, arith}
use Rattle.std.proofs.lemmas.List.Edits.{map_over_more}
use Rattle.std.proofs.lemmas.List.{get_or_default}
use Rattle.chip.specs.Chip.{blank, cleared}
use Rattle.chip.proofs.state.clear_all.Goals as goal

pub loop-channel-preserved : goal.loop-channel-preserved
loop-channel-preserved c =
    let ys = c.loop-channel.channel-items in
    let i = c.loop-channel.channel-index in
    let here : i < length ys = omega arith in
    map_over_more cleared c.args.channels.now ys i (get_or ys i blank) (omega arith) c.loop-channel.invariant (get_or_default ys i blank _ here)
