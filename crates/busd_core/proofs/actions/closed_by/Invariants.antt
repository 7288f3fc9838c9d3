-- The first actions do not close the connection.
use Rattle.std.proofs.Common.{◌≡◌, drop}
use Rattle.busd_core.specs.Happenings.{closed_by}
use Rattle.busd_core.proofs.actions.closed_by.Given as goal

abbrev pub invariant-loop-action : goal.invariant-loop-action
invariant-loop-action g l = closed_by l.key (drop l.action-index l.actions) ≡ closed_by l.key l.actions
