use Rattle.std.specs.Prelude.{refl}
use Rattle.test_rows.proofs.routers.third_has_85_places.Goals as goal

pub returns : goal.returns
returns c = (refl, refl)
