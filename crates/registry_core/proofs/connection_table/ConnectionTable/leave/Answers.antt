use Rattle.std.proofs.Common.{◌≡◌, rules, List, sym, ap, ◌∙◌, subst, arith, vec_capacity}
use Rattle.std.proofs.lemmas.Fn.{filter_same}
use Rattle.monitor.specs.Monitors.{Monitor, without}
use Rattle.registry_core.specs.ConnectionTables.{connections_in, those_without, AreEntries}
use Rattle.registry_core.specs.declared.connection_entry.ConnectionEntry.{ConnectionEntry}
use Rattle.registry_core.proofs.ConnectionTableLemmas.{left_view, others_of, table_left}
use Rattle.registry_core.proofs.connection_table.ConnectionTable.leave.Goals.{After-drop_owner}
use Rattle.registry_core.proofs.connection_table.ConnectionTable.leave.Goals as goal

left : (c : After-drop_owner) → c.retain.new.self.items ≡ others_of c.args.number c.self.inside.entries.items
left c = filter_same _ _ _ (λ d b f k. search rules) _ _ c.retain.ensures.filtered

pub invariant_of-self : goal.invariant_of-self
invariant_of-self c =
    let number = c.args.number in
    let ms : List ConnectionEntry = c.self.inside.entries.items in
    let monitors : List Monitor = c.self.inside.monitors in
    let room = vec_capacity c.retain.new.self in
    let table : AreEntries (others_of number ms) (without number monitors) room =
    table_left number monitors ms (vec_capacity c.self.inside.entries) room c.self.invariant (omega (arith, c.retain.ensures.capacity)) in
    subst (λ (ns : List ConnectionEntry). AreEntries ns c.drop_owner.new.self room) (sym (left c))
    (subst (λ (ns : List Monitor). AreEntries (others_of number ms) ns room) (sym c.drop_owner.ensures) table)

pub returns : goal.returns
returns c =
    let ms : List ConnectionEntry = c.self.inside.entries.items in
    ap (connections_in c.drop_owner.new.self) (left c) ∙ ap (λ (ns : List Monitor). connections_in ns (others_of c.args.number ms)) c.drop_owner.ensures
    ∙ left_view c.args.number c.self.inside.monitors ms ∙ ap (those_without c.args.number) c.self.view_is
