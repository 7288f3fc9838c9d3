use Rattle.std.specs.Prelude.{refl}
use Rattle.std.specs.Fmt.{digits}
use Rattle.test_rows.proofs.monitors.monitor_is_shown_what_its_rules_fit.Goals as goal

pub returns : goal.returns
unfolding digits
returns c = refl
