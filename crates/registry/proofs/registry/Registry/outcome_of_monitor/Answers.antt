use Rattle.std.proofs.Common.{None, [], sym, ap, ◌∙◌, subst}
use Rattle.seq_bus_core.specs.BusState.{BusState}
use Rattle.seq_bus_core.specs.Consistency.{IsConsistent}
use Rattle.seq_bus_core.specs.Steps.{replied}
use Rattle.seq_bus_core.specs.declared.outcome.NumberedOutcome.{NumberedOutcome}
use Rattle.seq_bus_core.specs.declared.outcome.Reply.TheVariants.{Done}
use Rattle.registry.proofs.MonitorLemmas.{monitor_made, monitor_not_made}
use Rattle.registry.proofs.registry.Registry.outcome_of_monitor.Goals as goal

pub returns-in_ok-tell_of_monitor-in-Done : goal.returns-in_ok-tell_of_monitor-in-Done
returns-in_ok-tell_of_monitor-in-Done c =
    let s : BusState = c.args.self.now in
    ap (λ (o : NumberedOutcome). record { reply = o.reply; signals = c.tell_of_monitor.new.signals; tickets = o.tickets; start = o.start }) c.replied-outcome.ensures
    ∙ ap (λ signals. record { reply = Done; signals = signals; tickets = []; start = None }) c.in_ok-tell_of_monitor-in-Done.ensures
    ∙ sym (ap (λ r. r.1) (monitor_made s c.args.seat c.args.connection c.args.rules.now (subst IsConsistent c.self.view_is c.self.invariant.consistent) (sym c.reply_to_monitor.ensures ∙ c.in-Done.is)))

pub returns-in_default : goal.returns-in_default
returns-in_default c =
    let s : BusState = c.args.self.now in
    c.replied.ensures ∙ ap replied c.reply_to_monitor.ensures
    ∙ sym (ap (λ r. r.1) (monitor_not_made s c.args.seat c.args.connection c.args.rules.now (subst IsConsistent c.self.view_is c.self.invariant.consistent)
    (λ done. c.in_default.not-Done (c.reply_to_monitor.ensures ∙ done))))
