use Rattle.std.proofs.Common.{◌∙◌, ap, sym, subst}
use Rattle.seq_bus_core.specs.declared.outcome.NumberedOutcome.{NumberedOutcome}
use Rattle.activation.specs.Rooms.{IsRoomFor}
use Rattle.registry.specs.PreparedChanges.{PreparedChange}
use Rattle.settling.proofs.settling.Settling.take.Goals as goal

pub returns-clause-settles : goal.returns-clause-settles
returns-clause-settles c s seat prepared_is =
    let taken = c.take_outcome-outcome.ensures.taken in
    record {
      outcome = taken ∙ ap (λ (q : PreparedChange). q.outcome) prepared_is;
      called = c.caller-caller.ensures ∙ ap (λ (q : PreparedChange). q.caller) prepared_is;
      room = subst (λ (outcome : NumberedOutcome). IsRoomFor c.args.change.now outcome c.in_ok-room.room) (c.outcome.ensures ∙ sym taken) c.in_ok-room.ensures;
    }
