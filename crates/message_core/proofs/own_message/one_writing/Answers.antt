use Rattle.message_core.proofs.Own.{one_writing}
use Rattle.message_core.proofs.own_message.one_writing.Goals as goal

pub returns : goal.returns
returns c = one_writing
