use Rattle.std.proofs.Common.{List, [], length, ap, ◌∙◌, arith}
use Rattle.seq_bus_core.specs.BusState.{RunningStart, tickets_in}
use Rattle.registry_core.specs.StartTables.{starts_of, with_ticket}
use Rattle.registry_core.proofs.StartLemmas.{all_wait, starts_pushed}
use Rattle.std.proofs.lemmas.List.{length_push}
use Rattle.registry_core.proofs.start_table.StartTable.wait.Goals as goal

pub push_reserved-requires : goal.push_reserved-requires
push_reserved-requires c =
    let all = all_wait c.self.inside.tickets.items in
    let same = ap tickets_in c.self.view_is in
    omega (arith, c.requires, all, same, c.self.invariant.has_room, c.self.inside.tickets.ok.0)

pub invariant_of-self : goal.invariant_of-self
invariant_of-self c =
    let ts = c.self.inside.tickets.items in
    let all = all_wait ts in
    let same = ap tickets_in c.self.view_is in
    let more = ap length c.push_reserved.ensures.items ∙ length_push ts c.args.ticket in
    record {
      few = omega (arith, c.requires, all, same, more);
      has_room = omega (arith, c.self.invariant.has_room, c.push_reserved.ensures.capacity);
    }

pub returns : goal.returns
returns c =
    ap (starts_of []) c.push_reserved.ensures.items ∙ starts_pushed [] c.self.inside.tickets.items c.args.ticket
    ∙ ap (λ (starts : List RunningStart). with_ticket starts c.args.ticket) c.self.view_is
