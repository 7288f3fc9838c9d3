use Rattle.std.specs.Prelude.{refl}
use Rattle.std.specs.Fmt.{digits}
use Rattle.test_rows.proofs.routing.slot_is_given_again.Goals as goal

pub returns : goal.returns
unfolding digits
returns c = refl
