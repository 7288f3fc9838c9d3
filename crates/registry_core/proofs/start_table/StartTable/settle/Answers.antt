use Rattle.std.proofs.Common.{◌++◌, List, sym, ap, ◌∙◌, arith}
use Rattle.std.proofs.lemmas.List.{take_all}
use Rattle.seq_bus_core.specs.BusState.{RunningStart}
use Rattle.seq_bus_core.specs.Steps.{settled}
use Rattle.registry_core.specs.StartTables.{numbers_of, run_of}
use Rattle.registry_core.specs.declared.start_table.WaitingTicket.{WaitingTicket}
use Rattle.registry_core.proofs.StartLemmas.{tickets_are}
use Rattle.registry_core.proofs.start_table.StartTable.settle.Goals as goal

pub returns : goal.returns
returns c =
    let fate = c.args.fate in
    let name = c.args.name.now in
    let ts : List WaitingTicket = c.deref-ticket-items.result.now in
    c.loop-ticket.invariant ∙ ap (λ (us : List WaitingTicket). c.args.numbers.now ++ numbers_of fate name us) (take_all c.loop-ticket.ticket-index ts (omega (arith, c.loop-ticket-test.false)) ∙ c.deref-ticket-items.ensures.value)
    ∙ ap (λ numbers. c.args.numbers.now ++ numbers) (sym (tickets_are c.self.inside.tickets.items fate name) ∙ ap (λ (starts : List RunningStart). settled fate (run_of starts name)) c.self.view_is)
