use Rattle.std.specs.Prelude.{refl}
use Rattle.test_rows.proofs.routers.other_seats_have_none.Goals as goal

pub returns : goal.returns
returns c = (refl, refl)
