use Rattle.std.proofs.Common.{Option, [], sym, ap, ◌∙◌}
use Rattle.seq_bus_core.specs.BusState.{BusState}
use Rattle.seq_bus_core.specs.Changes.{no_call}
use Rattle.seq_bus_core.specs.Steps.{step}
use Rattle.seq_bus_core.specs.declared.change.Change.TheVariants.{Hold}
use Rattle.seq_bus_core.specs.declared.connection.Conn.{Conn}
use Rattle.seq_bus_core.specs.declared.outcome.NumberedOutcome.{NumberedOutcome}
use Rattle.registry.specs.PreparedChanges.{PreparedChange}
use Rattle.registry.specs.Starts.{told_to_wait}
use Rattle.registry.proofs.StartLemmas.{hold_by}
use Rattle.registry.proofs.registry.Registry.prepare_hold.Goals as goal

pub returns : goal.returns
returns c =
    let s : BusState = c.args.self.now in
    let name = c.args.name.now in
    let told : NumberedOutcome → PreparedChange = λ o. record { seat = c.args.seat; change = Hold c.args.connection name no_call []; outcome = o; caller = c.conn.result } in
    ap (λ name. record { seat = c.args.seat; change = Hold c.args.connection name no_call []; outcome = c.told_to_wait.result; caller = c.conn.result }) c.in_ok-new.ensures.ok
    ∙ ap told (c.told_to_wait.ensures ∙ ap (told_to_wait s name) c.reply_to_hold-reply.ensures ∙ sym (ap (λ r. r.1) (hold_by s c.args.seat c.args.connection name no_call [])))
    ∙ ap (λ (caller : Option Conn). record { seat = c.args.seat; change = Hold c.args.connection name no_call []; outcome = (step s c.args.seat (Hold c.args.connection name no_call [])).1; caller = caller }) c.conn.ensures
