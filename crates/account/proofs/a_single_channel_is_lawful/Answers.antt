use Rattle.account.proofs.LawfulSingle.{lawful_single}
use Rattle.account.proofs.a_single_channel_is_lawful.Goals as goal

pub returns : goal.returns
returns c = lawful_single
