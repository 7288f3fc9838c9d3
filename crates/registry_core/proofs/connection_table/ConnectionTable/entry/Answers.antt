use Rattle.std.proofs.Common.{◌≡◌, ◌==◌, ℕ, Bool, Option, Some, None, option_map, List, sym, ap, ◌∙◌, subst}
use Rattle.std.specs.List.{find, position}
use Rattle.seq_bus_core.specs.BusState.{Connection}
use Rattle.registry_core.specs.Listening.{Rising}
use Rattle.registry_core.specs.ConnectionTables.{entry_of}
use Rattle.registry_core.specs.declared.connection_entry.ConnectionEntry.{ConnectionEntry}
use Rattle.registry_core.proofs.ConnectionTableLemmas.{entry_found, entry_nowhere, rising_entries}
use Rattle.match_index.proofs.Lists.{first_place, position_is}
use Rattle.registry_core.proofs.connection_table.ConnectionTable.entry.Goals as goal

pub find_place-requires : goal.find_place-requires
find_place-requires c = subst Rising (sym c.deref.ensures.value) (rising_entries c.self.inside.monitors c.self.inside.entries.items c.self.invariant.rise)

pub returns-in-Some : goal.returns-in-Some
returns-in-Some c =
    let ms : List ConnectionEntry = c.self.inside.entries.items in
    let number = c.args.number in
    let test : ConnectionEntry → Bool = λ m. m.conn.number == number in
    let found : first_place test ms ≡ Some c.in-Some.place = sym (position_is test ms) ∙ ap (position test) (sym c.deref.ensures.value) ∙ sym c.find_place.ensures ∙ c.in-Some.is in
    sym (ap (λ (cs : List Connection). option_map entry_of (find (λ d. d.number == number) cs)) (sym c.self.view_is)
    ∙ entry_found c.self.inside.monitors number ms c.index.result.now c.in-Some.place found ∙ ap (λ m. Some m) (sym c.index.ensures))

pub returns-in-None : goal.returns-in-None
returns-in-None c =
    let ms : List ConnectionEntry = c.self.inside.entries.items in
    let number = c.args.number in
    let test : ConnectionEntry → Bool = λ m. m.conn.number == number in
    let found : ◌≡◌ {A = Option ℕ} (first_place test ms) None = sym (position_is test ms) ∙ ap (position test) (sym c.deref.ensures.value) ∙ sym c.find_place.ensures ∙ c.in-None.is in
    sym (ap (λ (cs : List Connection). option_map entry_of (find (λ d. d.number == number) cs)) (sym c.self.view_is) ∙ entry_nowhere c.self.inside.monitors number ms found)
