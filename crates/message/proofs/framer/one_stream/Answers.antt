use Rattle.message.proofs.Once.{one_stream}
use Rattle.message.proofs.framer.one_stream.Goals as goal

pub returns : goal.returns
returns c = one_stream
