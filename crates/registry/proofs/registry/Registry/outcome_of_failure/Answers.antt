use Rattle.std.proofs.Common.{◌++◌, None, [], sym, ap, ◌∙◌, subst}
use Rattle.seq_bus_core.specs.BusState.{BusState}
use Rattle.seq_bus_core.specs.Consistency.{IsConsistent}
use Rattle.seq_bus_core.specs.Steps.{settled}
use Rattle.seq_bus_core.specs.declared.outcome.NumberedOutcome.{NumberedOutcome}
use Rattle.seq_bus_core.specs.declared.outcome.Reply.TheVariants.{Done}
use Rattle.seq_bus_core.specs.declared.ticket.Fate.TheVariants.{Failed}
use Rattle.registry_core.specs.StartTables.{run_of}
use Rattle.registry.proofs.StartLemmas.{fail_done, fail_ignored}
use Rattle.registry.proofs.registry.Registry.outcome_of_failure.Goals as goal

pub returns-then-not-is_running : goal.returns-then-not-is_running
returns-then-not-is_running c =
    c.replied.ensures ∙ sym (ap (λ r. r.1) (fail_ignored c.args.self.now c.args.name.now c.args.start (subst IsConsistent c.self.view_is c.self.invariant.consistent) (sym c.if-not-is_running.ensures)))

pub returns : goal.returns
returns c =
    let s : BusState = c.args.self.now in
    let name = c.args.name.now in
    ap (λ (o : NumberedOutcome). record { reply = o.reply; signals = o.signals; tickets = c.settle.new.numbers; start = o.start }) c.replied-outcome.ensures
    ∙ ap (λ tickets. record { reply = Done; signals = []; tickets = tickets; start = None })
    (c.in_ok-settle.ensures ∙ ap (λ (o : NumberedOutcome). o.tickets ++ settled Failed (run_of c.self.inside.starts name)) c.replied-outcome.ensures
    ∙ ap (λ (t : BusState). settled Failed (run_of t.starts name)) c.self.view_is)
    ∙ sym (ap (λ r. r.1) (fail_done s name c.args.start (subst IsConsistent c.self.view_is c.self.invariant.consistent) (sym c.if-not-is_running.ensures)))
