use Rattle.std.specs.Prelude.{refl}
use Rattle.test_rows.proofs.routers.one_router_has_256_places.Goals as goal

pub returns : goal.returns
returns c = (refl, refl)
