use Rattle.std.specs.Prelude.{refl}
use Rattle.std.specs.Fmt.{digits}
use Rattle.test_rows.proofs.routing.call_goes_to_other_router.Goals as goal

pub returns : goal.returns
unfolding digits
returns c = refl
