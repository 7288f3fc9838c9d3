use Rattle.std.specs.Prelude.{refl}
use Rattle.std.specs.Fmt.{digits}
use Rattle.test_rows.proofs.queues.replacers_wait_last.Goals as goal

pub returns : goal.returns
unfolding digits
returns c = refl
