use Rattle.marshal.proofs.Decoded.{is_one_text}
use Rattle.marshal.proofs.decoding.one_text.Goals as goal

pub returns : goal.returns
returns c = is_one_text
