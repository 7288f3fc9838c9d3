use Rattle.std.proofs.Common.{◌≡◌, ◌+◌, ◌≤◌, List, ◌++◌, map, length, take, drop, sym, ap, ◌∙◌, subst, arith, vec_capacity}
use Rattle.std.proofs.lemmas.List.{length-map}
use Rattle.seq_bus_core.specs.BusState.{max_names}
use Rattle.registry_core.specs.NameIndexes.{IndexedNames}
use Rattle.registry_core.specs.NameTables.{Entry, owned_name, numbers_of, values_of, AreIndexed, AreInTable}
use Rattle.registry_core.proofs.CopiedTable.{indexed_by, names_by, table_by}
use Rattle.match_index.proofs.IndexLemmas.{written_back}
use Rattle.registry_core.proofs.name_table.NameTable.copy_from.Goals as goal

pub invariant_of-self : goal.invariant_of-self
invariant_of-self c =
    let entries : List Entry = c.fill_all.new.entries.items in
    let others : List Entry = c.other.inside.entries.items in
    let spare : List Entry = c.renumber.new.entries in
    let other_spare : List Entry = c.other.inside.spare.items in
    let same : values_of entries ≡ values_of others = c.fill_all.ensures.values ∙ ap values_of c.deref.ensures.value in
    let same_spare : numbers_of spare ≡ numbers_of other_spare = c.renumber.ensures ∙ ap numbers_of c.deref-2.ensures.value in
    let spare_long : length spare ≡ length other_spare = sym (length-map spare (λ (e : Entry). e.value.id)) ∙ ap length same_spare ∙ length-map other_spare (λ (e : Entry). e.value.id) in
    let n = c.fill_all.new.spare.len in
    let mine = c.self.inside in
    let all : length mine.entries.items + length mine.spare.items ≡ max_names = omega (arith, c.self.invariant.0.entries, length-map mine.entries.items (λ (e : Entry). owned_name e.value)) in
    let theirs : length others + length other_spare ≡ max_names = omega (arith, c.other.invariant.0.entries, length-map others (λ (e : Entry). owned_name e.value)) in
    let size : length spare ≡ n = omega (arith, spare_long, all, theirs, c.set_aside.ensures.all, c.fill_all.ensures.fewer, ap length c.deref.ensures.value, c.fill_all.new.spare.ok.0) in
    let back : take n (spare ++ drop (length spare) c.fill_all.new.spare.items) ≡ spare = written_back n c.fill_all.new.spare.items spare size in
    let room = vec_capacity c.fill_all.new.entries in
    let spare_room = vec_capacity c.fill_all.new.spare in
    let has_room : max_names ≤ room = omega (arith, c.self.invariant.0.has_room, c.set_aside.ensures.room, c.fill_all.ensures.room) in
    let has_spare_room : max_names ≤ spare_room = omega (arith, c.self.invariant.0.has_spare_room, c.set_aside.ensures.spare_room, c.fill_all.ensures.spare_room) in
    let table = table_by entries others (length spare) (length other_spare) c.other.inside.queued room spare_room (vec_capacity c.other.inside.entries) (vec_capacity c.other.inside.spare) same spare_long has_room has_spare_room c.other.invariant.0 in
    let indexed = indexed_by entries spare others other_spare c.other.inside.index c.other.inside.queued same same_spare c.other.invariant.1 in (
      subst (λ (es : List Entry). AreInTable (map (λ (e : Entry). owned_name e.value) entries) (length es) c.other.inside.queued room spare_room) (sym back) table,
      subst (λ (es : List Entry). AreIndexed entries es c.copy_from.new.self c.other.inside.queued) (sym back)
          (subst (λ (index : IndexedNames). AreIndexed entries spare index c.other.inside.queued) (sym c.copy_from.ensures) indexed),
    )

pub returns : goal.returns
returns c =
    let same : values_of c.fill_all.new.entries.items ≡ values_of c.other.inside.entries.items = c.fill_all.ensures.values ∙ ap values_of c.deref.ensures.value in
    names_by c.fill_all.new.entries.items c.other.inside.entries.items same ∙ c.other.view_is
