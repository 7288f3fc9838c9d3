use Rattle.std.specs.Prelude.{refl}
use Rattle.test_rows.proofs.routers.eighth_has_32_places.Goals as goal

pub returns : goal.returns
returns c = (refl, refl)
