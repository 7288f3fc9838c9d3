use Rattle.interleave_core.proofs.Schedules.{every_schedule}
use Rattle.interleave_core.proofs.laws.every_schedule.Goals as goal

pub returns : goal.returns
returns c = every_schedule
