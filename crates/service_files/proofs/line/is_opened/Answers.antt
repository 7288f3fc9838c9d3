use Rattle.std.proofs.Common.{lit<}
use Rattle.service_files.proofs.line.is_opened.Goals as goal

pub returns : goal.returns
returns c = c.starts_with.ensures.byte (lit< tt) (lit< tt) (λ w o h. h)
