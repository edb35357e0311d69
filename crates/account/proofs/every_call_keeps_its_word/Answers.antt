use Rattle.account.proofs.CallsAreTrueToChip.{every_call}
use Rattle.account.proofs.every_call_keeps_its_word.Goals as goal

pub returns : goal.returns
returns c = every_call
