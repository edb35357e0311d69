use Rattle.busy.proofs.Assembly.{every_busy_call}
use Rattle.busy.proofs.every_busy_call_keeps_its_word.Goals as goal

pub returns : goal.returns
returns c = every_busy_call
