use Rattle.std.specs.Prelude.{refl}
use Rattle.std.specs.Fmt.{digits}
use Rattle.test_rows.proofs.queues.reserved_names_stay.Goals as goal

pub returns : goal.returns
unfolding digits
returns c = refl
