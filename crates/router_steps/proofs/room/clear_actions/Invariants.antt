use Rattle.std.proofs.Common.{vec_len}
use Rattle.router_steps.proofs.room.clear_actions.Given as goal

abbrev pub decreases-loop-action : goal.decreases-loop-action
decreases-loop-action g l = vec_len l.actions
