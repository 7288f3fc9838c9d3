use Rattle.message_core.proofs.Said.{said_is}
use Rattle.message_core.proofs.message.one_reading.Goals as goal

pub returns : goal.returns
returns c = said_is
