use Rattle.marshal.proofs.Decoded.{is_one}
use Rattle.marshal.proofs.decoding.one_spelling.Goals as goal

pub returns : goal.returns
returns c = is_one
