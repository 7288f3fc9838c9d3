use Rattle.std.specs.Prelude.{refl}
use Rattle.std.specs.Fmt.{digits}
use Rattle.test_rows.proofs.services.service_takes_its_name.Goals as goal

pub returns : goal.returns
unfolding digits
returns c = refl
