use Rattle.std.proofs.Common.{List, option_map, sym, ap, ◌∙◌}
use Rattle.std.specs.List.{find}
use Rattle.names.specs.Texts.{text_eq}
use Rattle.seq_bus_core.specs.BusState.{RunningStart}
use Rattle.registry_core.specs.StartTables.{run_of}
use Rattle.registry_core.specs.declared.start_table.WaitingTicket.{WaitingTicket}
use Rattle.registry_core.proofs.StartLemmas.{number_is}
use Rattle.registry_core.proofs.start_table.StartTable.start_of.Goals as goal

pub returns : goal.returns
returns c =
    let name = c.args.name.now in
    c.first_start.ensures ∙ ap (λ (ts : List WaitingTicket). option_map (λ t. t.start) (find (λ t. text_eq t.name name) ts)) c.deref.ensures.value
    ∙ sym (number_is c.self.inside.tickets.items name) ∙ ap (λ (starts : List RunningStart). option_map (λ r. r.number) (run_of starts name)) c.self.view_is
