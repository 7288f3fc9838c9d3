use Rattle.std.specs.Prelude.{refl}
use Rattle.std.specs.Fmt.{digits}
use Rattle.test_rows.proofs.monitors.monitor_gives_up_its_names.Goals as goal

pub returns : goal.returns
unfolding digits
returns c = refl
