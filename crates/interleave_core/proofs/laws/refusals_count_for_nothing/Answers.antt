use Rattle.interleave_core.proofs.Schedules.{refusals_count_for_nothing}
use Rattle.interleave_core.proofs.laws.refusals_count_for_nothing.Goals as goal

pub returns : goal.returns
returns c = refusals_count_for_nothing
