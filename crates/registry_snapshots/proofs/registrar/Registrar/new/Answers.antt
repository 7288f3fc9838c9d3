use Rattle.std.proofs.Common.{◌≡◌, ◌∙◌, [], ap, sym, length}
use Rattle.owner_queues.specs.declared.request.Profile.TheVariants.{Two}
use Rattle.seq_bus_core.specs.Histories.{History}
use Rattle.seq_bus_core.specs.Tickets.{WholeBus}
use Rattle.registry_snapshots.proofs.Changes.{no_calls}
use Rattle.registry_snapshots.proofs.registrar.Registrar.new.Goals as goal

pub invariant_of-result : goal.invariant_of-result
invariant_of-result g c =
    let log : c.in_ok-copies.copies.0.prefix.log ≡ [] = c.in_ok-copies.ensures.0 in
    let calls : c.in_ok-calls.calls ≡ [] = c.in_ok-calls.ensures in
    let bus = c.in_ok-third.ensures ∙ ap (λ (b : WholeBus). b.state) (sym c.requires.bus.1) ∙ sym c.in_ok-copies.ensures.2 in (
      record { waiting = rw (c.requires.bus.1, log, calls) (no_calls Two c.args.routers c.args.services.now); same = λ _. bus },
      c.requires.ledger ∙ sym (ap (λ (h : History). length h) log),
    )
