use Rattle.std.proofs.Common.{◌≡◌, ◌<◌, ◌≤◌, ◌+◌, ◌==◌, ℕ, count_by, List, map, insert, length, refl, sym, ap, ◌∙◌, subst, arith, vec_capacity, Box, Global}
use Rattle.std.proofs.lemmas.List.{length-map, length_push}
use Rattle.owner_queues.specs.Queues.{Queue}
use Rattle.seq_bus_core.specs.BusState.{OwnedName, queued_in, max_names, max_queued}
use Rattle.registry_core.specs.NameTables.{owned_name, NamesRise, AreIndexed}
use Rattle.registry_core.specs.declared.name_table.NameEntry.{NameEntry}
use Rattle.registry_core.proofs.NameTableLemmas.{resized, added, map_inserted}
use Rattle.registry_core.proofs.CountLemmas.{one_if_in, once}
use Rattle.registry_core.proofs.TableIndex.{free_number, not_held, indexed_added}
use Rattle.registry_core.specs.NameIndexes.{held, name_at}
use Rattle.registry_core.proofs.name_table.NameTable.add.Goals as goal

abbrev name_in : Box NameEntry Global → OwnedName
name_in b = owned_name b.value

pub rename-requires-clause-there : goal.rename-requires-clause-there
rename-requires-clause-there c =
    let r = c.self.inside in
    subst (λ (e : NameEntry). e.id < max_names) (sym c.deref.ensures) (free_number r.entries.items r.spare.items c.pop.new.self.items c.in-Some.spare r.index r.queued c.self.invariant.1 c.in-Some.ensures.items)

pub rename-requires-clause-unused : goal.rename-requires-clause-unused
rename-requires-clause-unused c k =
    let r = c.self.inside in
    subst (λ (e : NameEntry). held k e.id r.index.places ≡ 0) (sym c.deref.ensures) (not_held r.entries.items r.spare.items c.pop.new.self.items c.in-Some.spare r.index r.queued c.self.invariant.1 c.in-Some.ensures.items k)

pub add_all-requires : goal.add_all-requires
add_all-requires c =
    let r = c.self.inside in
    let counted : length r.index.places ≡ queued_in c.args.self.now = c.self.invariant.1.all ∙ c.self.invariant.0.counted ∙ ap queued_in c.self.view_is in
    omega (arith, counted, ap length c.rename.ensures.places, ap length c.as_slice-in-Some.ensures.value, c.requires.few_places)

pub invariant_of-self : goal.invariant_of-self
invariant_of-self c =
    let r = c.self.inside in
    let items = r.entries.items in
    let names : List OwnedName = map name_in items in
    let place = c.args.place in
    let n : OwnedName = record { name = c.args.name.now; queue = c.args.queue.now } in
    let le : place ≤ length names = subst (λ (ns : List OwnedName). place ≤ length ns) (sym c.self.view_is) c.requires.there in
    let rise : NamesRise (insert names place n) = subst (λ (ns : List OwnedName). NamesRise (insert ns place n)) (sym c.self.view_is) c.requires.rise in
    let counted : r.queued ≡ queued_in c.args.self.now = c.self.invariant.0.counted ∙ ap queued_in c.self.view_is in
    let few : r.queued + length c.args.queue.now ≤ max_queued = subst (λ k. k + length c.args.queue.now ≤ max_queued) (sym counted) c.requires.few_places in
    let less : length r.spare.items ≡ length c.pop.new.self.items + 1 = ap length c.in-Some.ensures.items ∙ length_push c.pop.new.self.items c.in-Some.spare in
    let le_items : place ≤ length items = omega (arith, le, length-map items name_in) in
    let names_are : map name_in c.insert_reserved.new.entries.items ≡ insert names place n =
    ap (map name_in) c.insert_reserved.ensures.items ∙ map_inserted name_in items place c.filled.result le_items ∙ ap (insert names place) c.filled.ensures.value in
    let table = added names place n _ (length c.pop.new.self.items) _ _ _ c.self.invariant.0 le rise c.requires.owned less few in
    let y = c.add_all.new.self in
    let x = c.rename.new.self in
    let s : Box NameEntry Global = c.in-Some.spare in
    let e : Box NameEntry Global = c.filled.result in
    let queue_is : e.value.queue ≡ c.args.queue.now = ap (λ (m : OwnedName). m.queue) c.filled.ensures.value in
    let name : name_at y.names s.value.id ≡ e.value.name =
    ap (λ ns. name_at ns s.value.id) c.add_all.ensures.names ∙ subst (λ (k : NameEntry). name_at x.names k.id ≡ c.args.name.now) c.deref.ensures c.rename.ensures.own ∙ sym (ap (λ (m : OwnedName). m.name) c.filled.ensures.value) in
    let its : (k : ℕ) → held k s.value.id y.places ≡ held k s.value.id r.index.places + one_if_in k e.value.queue =
    λ k. subst (λ (b : NameEntry). held k b.id y.places ≡ held k b.id x.places + count_by (λ o. o.connection == k) c.as_slice-in-Some.result.now) c.deref-in-Some.ensures (c.add_all.ensures.its k)
    ∙ ap (λ hs. held k s.value.id hs + count_by (λ o. o.connection == k) c.as_slice-in-Some.result.now) c.rename.ensures.places
    ∙ ap (λ m. held k s.value.id r.index.places + m) (ap (λ (q : Queue). count_by (λ o. o.connection == k) q) c.as_slice-in-Some.ensures.value ∙ once k c.args.queue.now c.as_slice.ensures.once ∙ ap (one_if_in k) (sym queue_is)) in
    let all : length y.places ≡ r.queued + length c.as_slice.result.now =
    omega (arith, c.add_all.ensures.all, ap length c.rename.ensures.places, c.self.invariant.1.all, ap length c.as_slice.ensures.value, ap length c.as_slice-in-Some.ensures.value) in (
      resized (insert names place n) (map name_in c.insert_reserved.new.entries.items) (length c.pop.new.self.items) (length c.pop.new.self.items) (r.queued + length c.args.queue.now) (r.queued + length c.as_slice.result.now)
          (vec_capacity r.entries) (vec_capacity c.insert_reserved.new.entries) (vec_capacity r.spare) (vec_capacity c.pop.new.self) table names_are refl (ap (λ (q : Queue). r.queued + length q) c.as_slice.ensures.value)
          c.insert_reserved.ensures.room (omega (arith, c.in-Some.ensures.capacity)),
      subst (λ (es : List (Box NameEntry Global)). AreIndexed es c.pop.new.self.items y (r.queued + length c.as_slice.result.now)) (sym c.insert_reserved.ensures.items)
          (indexed_added items r.spare.items c.pop.new.self.items place s e r.index y r.queued (r.queued + length c.as_slice.result.now) c.self.invariant.1 c.in-Some.ensures.items c.filled.ensures.id name
          (λ i other. ap (λ ns. name_at ns i) c.add_all.ensures.names ∙ c.rename.ensures.others i (ap (λ (k : NameEntry). k.id == i) c.deref.ensures ∙ other)) its
          (λ k i other. c.add_all.ensures.others k i (ap (λ (b : NameEntry). b.id == i) c.deref-in-Some.ensures ∙ other) ∙ ap (held k i) c.rename.ensures.places) all),
    )

pub returns-in-Some : goal.returns-in-Some
returns-in-Some c =
    let items = c.self.inside.entries.items in
    let place = c.args.place in
    let n : OwnedName = record { name = c.args.name.now; queue = c.args.queue.now } in
    let short : length items ≡ length c.args.self.now = sym (length-map items name_in) ∙ ap length c.self.view_is in
    ap (map name_in) c.insert_reserved.ensures.items ∙ map_inserted name_in items place c.filled.result (omega (arith, short, c.requires.there)) ∙ ap (insert (map name_in items) place) c.filled.ensures.value
    ∙ ap (λ (ns : List OwnedName). insert ns place n) c.self.view_is
