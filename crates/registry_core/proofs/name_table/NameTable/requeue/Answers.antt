use Rattle.std.proofs.Common.{◌≡◌, ◌<◌, ◌≤◌, ◌+◌, ◌-◌, ◌==◌, ℕ, suc, List, ◌∷◌, ◌++◌, map, take, drop, get_or, length, sym, ap, ◌∙◌, subst, arith, Box, Global}
use Rattle.std.proofs.lemmas.List.{length-map}
use Rattle.owner_queues.specs.Queues.{Queue}
use Rattle.seq_bus_core.specs.BusState.{OwnedName, max_queued}
use Rattle.registry_core.specs.NameTables.{owned_name}
use Rattle.registry_core.specs.declared.name_table.NameEntry.{NameEntry}
use Rattle.registry_core.proofs.NameTableLemmas.{split_at, map_at, map_set, place_counts, requeued, few_at}
use Rattle.registry_core.proofs.CountLemmas.{one_if_in}
use Rattle.registry_core.proofs.TableIndex.{waits_at, indexed_set}
use Rattle.registry_core.specs.NameIndexes.{held}
use Rattle.registry_core.proofs.name_table.NameTable.requeue.Goals as goal

abbrev name_in : Box NameEntry Global → OwnedName
name_in b = owned_name b.value

pub overflow_sub-self : goal.overflow_sub-self
overflow_sub-self c =
    let r = c.self.inside in
    let items = r.entries.items in
    let b : Box NameEntry Global = c.index_mut-entry.result.now in
    let there : c.args.place < length items = omega (arith, ap length c.self.view_is, length-map items name_in, c.requires.there) in
    let split = split_at name_in items c.args.place b there in
    let front : List OwnedName = take c.args.place (map name_in items) in
    let back : List OwnedName = drop (suc c.args.place) (map name_in items) in
    let n : OwnedName = name_in (get_or items c.args.place b) in
    let at : name_in b ≡ n = ap name_in c.index_mut-entry.ensures.value in
    let queue_is : c.as_slice.result.now ≡ n.queue = c.as_slice.ensures.value ∙ ap (λ (e : NameEntry). e.queue) c.deref.ensures ∙ ap (λ (m : OwnedName). m.queue) at in
    subst (λ (q : Queue). length q ≤ r.queued) (sym queue_is) (place_counts (map name_in items) front back n _ _ _ _ c.self.invariant.0 split.0)

pub replace-requires-clause-held : goal.replace-requires-clause-held
replace-requires-clause-held c k =
    let r = c.self.inside in
    let items = r.entries.items in
    let b : Box NameEntry Global = c.index_mut-entry.result.now in
    let there : c.args.place < length items = omega (arith, ap length c.self.view_is, length-map items name_in, c.requires.there) in
    subst (λ (e : NameEntry). one_if_in k e.queue ≤ held k c.deref-2.result.now.id r.index.places) (sym c.deref-3.ensures)
    (subst (λ (e : NameEntry). one_if_in k b.value.queue ≤ held k e.id r.index.places) (sym c.deref-2.ensures) (waits_at items r.spare.items c.args.place k b r.index r.queued c.self.invariant.1 there c.index_mut-entry.ensures.value))

pub replace-requires-clause-few : goal.replace-requires-clause-few
replace-requires-clause-few c =
    let r = c.self.inside in
    let items = r.entries.items in
    let b : Box NameEntry Global = c.index_mut-entry.result.now in
    let there : c.args.place < length items = omega (arith, ap length c.self.view_is, length-map items name_in, c.requires.there) in
    let split = split_at name_in items c.args.place b there in
    let front : List OwnedName = take c.args.place (map name_in items) in
    let back : List OwnedName = drop (suc c.args.place) (map name_in items) in
    let n : OwnedName = name_in (get_or items c.args.place b) in
    let at : name_in b ≡ n = ap name_in c.index_mut-entry.ensures.value in
    let old_is : c.deref-3.result.now.queue ≡ n.queue = ap (λ (e : NameEntry). e.queue) c.deref-3.ensures ∙ ap (λ (m : OwnedName). m.queue) at in
    subst (λ (q : Queue). length r.index.places + length c.args.queue.now ≤ max_queued + length q) (sym old_is)
    (few_at (map name_in items) front back n c.args.queue.now (length r.index.places) (c.self.invariant.1.all ∙ c.self.invariant.0.counted) split.0 (c.requires.few_places front back n (sym c.self.view_is ∙ split.0) split.1))

pub invariant_of-self : goal.invariant_of-self
invariant_of-self c =
    let r = c.self.inside in
    let items = r.entries.items in
    let b : Box NameEntry Global = c.index_mut-entry.result.now in
    let there : c.args.place < length items = omega (arith, ap length c.self.view_is, length-map items name_in, c.requires.there) in
    let split = split_at name_in items c.args.place b there in
    let front : List OwnedName = take c.args.place (map name_in items) in
    let back : List OwnedName = drop (suc c.args.place) (map name_in items) in
    let n : OwnedName = name_in (get_or items c.args.place b) in
    let at : name_in b ≡ n = ap name_in c.index_mut-entry.ensures.value in
    let e : Box NameEntry Global = record b { value = record { name = c.deref_mut.result.now.name; queue = c.copy_from.new.self; id = c.deref_mut.result.now.id } } in
    let queue_is : c.as_slice.result.now ≡ n.queue = c.as_slice.ensures.value ∙ ap (λ (k : NameEntry). k.queue) c.deref.ensures ∙ ap (λ (m : OwnedName). m.queue) at in
    let left_is : name_in e ≡ record n { queue = c.args.queue.now } =
    ap (λ (q : Queue). record { name = c.deref_mut.result.now.name; queue = q }) c.copy_from.ensures
    ∙ ap (λ (k : NameEntry). record (owned_name k) { queue = c.args.queue.now }) c.deref_mut.ensures.value ∙ ap (λ (m : OwnedName). record m { queue = c.args.queue.now }) at in
    let id_is : c.deref-2.result.now.id ≡ b.value.id = ap (λ (k : NameEntry). k.id) c.deref-2.ensures in
    let old_is : c.deref-3.result.now.queue ≡ b.value.queue = ap (λ (k : NameEntry). k.queue) c.deref-3.ensures in
    let y = c.replace.new.self in
    let its : (k : ℕ) → held k b.value.id y.places + one_if_in k b.value.queue ≡ held k b.value.id r.index.places + one_if_in k c.copy_from.new.self =
    λ k. subst (λ (q : Queue). held k b.value.id y.places + one_if_in k b.value.queue ≡ held k b.value.id r.index.places + one_if_in k q) (sym c.copy_from.ensures)
    (subst (λ (q : Queue). held k b.value.id y.places + one_if_in k q ≡ held k b.value.id r.index.places + one_if_in k c.args.queue.now) old_is
    (subst (λ id. held k id y.places + one_if_in k c.deref-3.result.now.queue ≡ held k id r.index.places + one_if_in k c.args.queue.now) id_is (c.replace.ensures.its k))) in
    let few : length n.queue ≤ r.queued = place_counts (map name_in items) front back n _ _ _ _ c.self.invariant.0 split.0 in
    let old_length : length c.deref-3.result.now.queue ≡ length n.queue = ap length (old_is ∙ ap (λ (m : OwnedName). m.queue) at) in
    let all : length y.places ≡ r.queued - length c.as_slice.result.now + length c.as_slice-2.result.now = omega (arith, c.replace.ensures.all, c.self.invariant.1.all, ap length queue_is, ap length c.as_slice-2.ensures.value, old_length, few) in (
      rw (map_set name_in items c.args.place _ front back n split.0 split.1, left_is, queue_is, c.as_slice-2.ensures.value)
          (requeued (map name_in items) front back n c.args.queue.now _ _ _ _ c.self.invariant.0 split.0 c.requires.owned (c.requires.few_places front back n (sym c.self.view_is ∙ split.0) split.1)),
      indexed_set items r.spare.items c.args.place b e r.index y r.queued (r.queued - length c.as_slice.result.now + length c.as_slice-2.result.now) c.self.invariant.1 there c.index_mut-entry.ensures.value
          (ap (λ (k : NameEntry). k.id) c.deref_mut.ensures.value) (ap (λ (k : NameEntry). k.name) c.deref_mut.ensures.value) c.replace.ensures.names its
          (λ k i other. c.replace.ensures.others k i (ap (λ id. id == i) id_is ∙ other)) all,
    )

pub returns : goal.returns
returns c front back n is place_is =
    let items = c.self.inside.entries.items in
    let b : Box NameEntry Global = c.index_mut-entry.result.now in
    let names_are : map name_in items ≡ front ++ n ∷ back = c.self.view_is ∙ is in
    let at : name_in b ≡ n = ap name_in c.index_mut-entry.ensures.value ∙ map_at name_in items c.args.place b front back n names_are place_is in
    let left_is : name_in (record b { value = record { name = c.deref_mut.result.now.name; queue = c.copy_from.new.self; id = c.deref_mut.result.now.id } }) ≡ record n { queue = c.args.queue.now } =
    ap (λ (q : Queue). record { name = c.deref_mut.result.now.name; queue = q }) c.copy_from.ensures
    ∙ ap (λ (e : NameEntry). record (owned_name e) { queue = c.args.queue.now }) c.deref_mut.ensures.value ∙ ap (λ (m : OwnedName). record m { queue = c.args.queue.now }) at in
    map_set name_in items c.args.place (record b { value = record { name = c.deref_mut.result.now.name; queue = c.copy_from.new.self; id = c.deref_mut.result.now.id } }) front back n names_are place_is ∙ ap (λ m. front ++ m ∷ back) left_is
