use Rattle.std.proofs.Common.{lit<}
use Rattle.service_files.proofs.line.is_closed.Goals as goal

pub returns : goal.returns
returns c = c.ends_with.ensures.byte (lit< tt) (lit< tt) (λ w o h. h)
