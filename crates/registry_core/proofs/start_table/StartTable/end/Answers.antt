use Rattle.std.proofs.Common.{rules, List, [], filter, not, sym, ap, ◌∙◌}
use Rattle.std.proofs.lemmas.Fn.{filter_same}
use Rattle.names.specs.Texts.{text_eq}
use Rattle.seq_bus_core.specs.BusState.{RunningStart}
use Rattle.registry_core.specs.StartTables.{starts_of}
use Rattle.registry_core.specs.declared.start_table.WaitingTicket.{WaitingTicket}
use Rattle.registry_core.proofs.StartLemmas.{ended}
use Rattle.registry_core.proofs.start_table.StartTable.end.Goals as goal

pub returns : goal.returns
returns c =
    let name = c.args.name.now in
    let ts : List WaitingTicket = c.self.inside.tickets.items in
    ap (starts_of []) (filter_same _ (λ t. not (text_eq t.name name)) _ (λ d b f k. search rules) _ _ c.retain.ensures.filtered)
    ∙ sym (ended name [] ts) ∙ ap (λ (starts : List RunningStart). filter (λ r. not (text_eq r.name name)) starts) c.self.view_is
