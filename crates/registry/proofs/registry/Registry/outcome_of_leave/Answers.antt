use Rattle.std.proofs.Common.{ℕ, None, [], sym, ap, ◌∙◌, subst}
use Rattle.seq_bus_core.specs.BusState.{BusState}
use Rattle.seq_bus_core.specs.Consistency.{IsConsistent}
use Rattle.seq_bus_core.specs.declared.outcome.NumberedOutcome.{NumberedOutcome}
use Rattle.seq_bus_core.specs.declared.outcome.Reply.TheVariants.{Done}
use Rattle.registry.proofs.LeaveLemmas.{leave_gone, leave_of_monitor, leave_told}
use Rattle.registry.proofs.registry.Registry.outcome_of_leave.Goals as goal

pub returns-then-not-present : goal.returns-then-not-present
returns-then-not-present c = c.replied.ensures ∙ sym (leave_gone c.args.self.now c.args.seat c.args.connection (sym c.if-not-present.ensures)).1

pub returns-then-not-is_client : goal.returns-then-not-is_client
returns-then-not-is_client c =
    c.replied-outcome.ensures
    ∙ sym (leave_of_monitor c.args.self.now c.args.seat c.args.connection (subst IsConsistent c.self.view_is c.self.invariant.consistent) (sym c.if-not-is_client.ensures) (sym c.if-not-present.ensures))

pub returns : goal.returns
returns c =
    let s : BusState = c.args.self.now in
    let n : ℕ = c.args.connection in
    ap (λ (o : NumberedOutcome). record { reply = o.reply; signals = c.tell_of_leave.new.signals; tickets = o.tickets; start = o.start }) c.replied-outcome.ensures
    ∙ ap (λ signals. record { reply = Done; signals = signals; tickets = []; start = None }) c.in_ok-tell_of_leave.ensures
    ∙ sym (leave_told s c.args.seat n (subst IsConsistent c.self.view_is c.self.invariant.consistent) (sym c.if-not-is_client.ensures) (sym c.if-not-present.ensures))
