use Rattle.std.specs.Prelude.{refl}
use Rattle.test_rows.proofs.limits.no_65th_name.Goals as goal

pub returns : goal.returns
returns c = (refl, refl, refl, refl)
