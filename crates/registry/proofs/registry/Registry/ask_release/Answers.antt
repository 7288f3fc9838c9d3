use Rattle.std.proofs.Common.{None, sym, ap, ◌∙◌}
use Rattle.seq_bus_core.specs.BusState.{BusState}
use Rattle.seq_bus_core.specs.declared.change.Change.TheVariants.{Release}
use Rattle.seq_bus_core.specs.declared.outcome.NumberedOutcome.{NumberedOutcome}
use Rattle.registry.specs.PreparedChanges.{PreparedChange}
use Rattle.registry.specs.Requests.{requeue_outcome}
use Rattle.registry.proofs.RequestLemmas.{release_told}
use Rattle.registry.proofs.registry.Registry.ask_release.Goals as goal

pub returns-clause-prepared : goal.returns-clause-prepared
returns-clause-prepared c =
    let s : BusState = c.args.self.now in
    let told : NumberedOutcome → PreparedChange = λ o. record { seat = c.args.seat; change = Release c.args.connection c.args.name.now; outcome = o; caller = None } in
    ap (λ name. record { seat = c.args.seat; change = Release c.args.connection name; outcome = c.in_ok-outcome_of_requeue.field-0; caller = None }) c.in_ok-new.ensures.ok
    ∙ ap told (c.in_ok-outcome_of_requeue.ensures ∙ ap (requeue_outcome s c.args.name.now) c.when_released-change.ensures
    ∙ sym (release_told s c.args.seat c.args.connection c.args.name.now))
