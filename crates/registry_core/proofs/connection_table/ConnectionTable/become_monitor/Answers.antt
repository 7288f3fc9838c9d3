use Rattle.std.proofs.Common.{◌≡◌, ◌==◌, ℕ, Bool, true, Option, Some, None, List, map, length, sym, ap, ◌∙◌, subst, arith, vec_capacity}
use Rattle.std.specs.List.{position}
use Rattle.std.proofs.Math.ListN.{set}
use Rattle.monitor.specs.Monitors.{Monitor, inserted, without}
use Rattle.seq_bus_core.specs.Steps.{monitor_if}
use Rattle.registry_core.specs.Listening.{Rising}
use Rattle.registry_core.specs.ConnectionTables.{connections_in, AreEntries}
use Rattle.registry_core.specs.declared.connection_entry.ConnectionEntry.{ConnectionEntry}
use Rattle.registry_core.proofs.BecomingMonitor.{Becomes, becomes, nobody_becomes}
use Rattle.registry_core.proofs.ConnectionTableLemmas.{rising_entries}
use Rattle.match_index.proofs.Lists.{first_place, position_is}
use Rattle.registry_core.proofs.connection_table.ConnectionTable.become_monitor.Goals.{After-add}
use Rattle.registry_core.proofs.connection_table.ConnectionTable.become_monitor.Goals as goal

pub find_place-requires : goal.find_place-requires
find_place-requires c = subst Rising (sym c.deref.ensures.value) (rising_entries c.self.inside.monitors c.self.inside.entries.items c.self.invariant.rise)

pub add-requires : goal.add-requires
add-requires c =
    let ms : List ConnectionEntry = c.self.inside.entries.items in
    let found : ◌≡◌ {A = Option ℕ} (position (λ (m : ConnectionEntry). m.conn.number == c.args.number) ms) (Some c.in-Some.place) = ap (position (λ (m : ConnectionEntry). m.conn.number == c.args.number)) (sym c.deref.ensures.value) ∙ sym c.find_place.ensures ∙ c.in-Some.is in
    let became = becomes c.args.number c.args.rules.now c.self.inside.monitors ms c.in-Some.place c.index_mut-entry.result.now (vec_capacity c.self.inside.entries) c.self.invariant found c.index_mut-entry.ensures.value in
    omega (arith, became.fewer, ap length c.drop_owner.ensures, c.self.invariant.few)

became : (c : After-add) → Becomes c.args.number c.args.rules.now c.self.inside.monitors c.self.inside.entries.items c.in-Some.place c.index_mut-entry.result.now (vec_capacity c.self.inside.entries)
became c =
    let ms : List ConnectionEntry = c.self.inside.entries.items in
    let found : ◌≡◌ {A = Option ℕ} (position (λ (m : ConnectionEntry). m.conn.number == c.args.number) ms) (Some c.in-Some.place) = ap (position (λ (m : ConnectionEntry). m.conn.number == c.args.number)) (sym c.deref.ensures.value) ∙ sym c.find_place.ensures ∙ c.in-Some.is in
    becomes c.args.number c.args.rules.now c.self.inside.monitors ms c.in-Some.place c.index_mut-entry.result.now (vec_capacity c.self.inside.entries) c.self.invariant found c.index_mut-entry.ensures.value

monitors_are : (c : After-add) → c.add.new.self ≡ inserted (record { conn = c.index_mut-entry.result.now.conn; rules = c.args.rules.now }) (without c.args.number c.self.inside.monitors)
monitors_are c = c.add.ensures ∙ ap (inserted (record { conn = c.index_mut-entry.result.now.conn; rules = c.args.rules.now })) c.drop_owner.ensures

pub invariant_of-self : goal.invariant_of-self
invariant_of-self c =
    let ms : List ConnectionEntry = set c.self.inside.entries.items c.in-Some.place (record c.index_mut-entry.result.now { is_monitor = true }) in
    subst (λ (ns : List Monitor). AreEntries ms ns (vec_capacity c.self.inside.entries)) (sym (monitors_are c)) (became c).table

pub returns-in-Some : goal.returns-in-Some
returns-in-Some c =
    let ms : List ConnectionEntry = set c.self.inside.entries.items c.in-Some.place (record c.index_mut-entry.result.now { is_monitor = true }) in
    ap (λ (ns : List Monitor). connections_in ns ms) (monitors_are c) ∙ (became c).view ∙ ap (map (monitor_if c.args.number c.args.rules.now)) c.self.view_is

pub returns-in_default : goal.returns-in_default
returns-in_default c =
    let ms : List ConnectionEntry = c.self.inside.entries.items in
    let test : ConnectionEntry → Bool = λ m. m.conn.number == c.args.number in
    let found : ◌≡◌ {A = Option ℕ} (first_place test ms) None = sym (position_is test ms) ∙ ap (position test) (sym c.deref.ensures.value) ∙ sym c.find_place.ensures ∙ c.in_default.is in
    sym (ap (map (monitor_if c.args.number c.args.rules.now)) (sym c.self.view_is) ∙ nobody_becomes c.args.number c.args.rules.now c.self.inside.monitors ms found ∙ c.self.view_is)
