use Rattle.std.proofs.Common.{None, sym, ap, ◌∙◌}
use Rattle.seq_bus_core.specs.BusState.{BusState}
use Rattle.seq_bus_core.specs.declared.change.Change.TheVariants.{Request}
use Rattle.seq_bus_core.specs.declared.outcome.NumberedOutcome.{NumberedOutcome}
use Rattle.registry.specs.PreparedChanges.{PreparedChange}
use Rattle.registry.specs.Requests.{request_outcome}
use Rattle.registry.proofs.RequestLemmas.{request_told}
use Rattle.registry.proofs.registry.Registry.ask_request.Goals as goal

pub returns-clause-prepared : goal.returns-clause-prepared
returns-clause-prepared c =
    let s : BusState = c.args.self.now in
    let told : NumberedOutcome → PreparedChange = λ o. record { seat = c.args.seat; change = Request c.args.connection c.args.name.now c.args.flags; outcome = o; caller = None } in
    ap (λ name. record { seat = c.args.seat; change = Request c.args.connection name c.args.flags; outcome = c.in_ok-outcome_of_request.field-0; caller = None }) c.in_ok-new.ensures.ok
    ∙ ap told (c.in_ok-outcome_of_request.ensures ∙ ap (request_outcome s c.args.name.now) c.when_requested-change.ensures
    ∙ sym (request_told s c.args.seat c.args.connection c.args.name.now c.args.flags))
