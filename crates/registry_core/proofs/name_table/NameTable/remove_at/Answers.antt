use Rattle.std.proofs.Common.{◌≡◌, ◌<◌, ◌≤◌, ◌+◌, ◌-◌, ◌==◌, ℕ, suc, count_by, List, ◌∷◌, ◌++◌, map, take, drop, remove, get_or, length, sym, ap, ◌∙◌, subst, arith, vec_capacity, Box, Global}
use Rattle.std.proofs.lemmas.List.{length-map, length_push}
use Rattle.owner_queues.specs.Queues.{Queue, IsQueue}
use Rattle.seq_bus_core.specs.BusState.{OwnedName}
use Rattle.registry_core.specs.NameTables.{owned_name, AreIndexed}
use Rattle.registry_core.specs.declared.name_table.NameEntry.{NameEntry}
use Rattle.registry_core.specs.NameIndexes.{held}
use Rattle.registry_core.proofs.NameTableLemmas.{resized, split_at, map_removed, place_counts, dropped}
use Rattle.registry_core.proofs.CountLemmas.{one_if_in, once}
use Rattle.registry_core.proofs.TableIndex.{waits_at, indexed_removed}
use Rattle.registry_core.proofs.name_table.NameTable.remove_at.Goals as goal

abbrev name_in : Box NameEntry Global → OwnedName
name_in b = owned_name b.value

pub overflow_sub-self : goal.overflow_sub-self
overflow_sub-self c =
    let r = c.self.inside in
    let items = r.entries.items in
    let b : Box NameEntry Global = c.remove-entry.result in
    let there : c.args.place < length items = omega (arith, ap length c.self.view_is, length-map items name_in, c.requires) in
    let split = split_at name_in items c.args.place b there in
    let front : List OwnedName = take c.args.place (map name_in items) in
    let back : List OwnedName = drop (suc c.args.place) (map name_in items) in
    let n : OwnedName = name_in (get_or items c.args.place b) in
    let at : name_in b ≡ n = ap name_in c.remove-entry.ensures.value in
    let queue_is : c.as_slice.result.now ≡ n.queue = c.as_slice.ensures.value ∙ ap (λ (e : NameEntry). e.queue) c.deref.ensures ∙ ap (λ (m : OwnedName). m.queue) at in
    subst (λ (q : Queue). length q ≤ r.queued) (sym queue_is) (place_counts (map name_in items) front back n _ _ _ _ c.self.invariant.0 split.0)

pub take_all-requires : goal.take_all-requires
take_all-requires c k =
    let r = c.self.inside in
    let items = r.entries.items in
    let b : Box NameEntry Global = c.remove-entry.result in
    let there : c.args.place < length items = omega (arith, ap length c.self.view_is, length-map items name_in, c.requires) in
    let queue_is : c.as_slice-2.result.now ≡ b.value.queue = c.as_slice-2.ensures.value ∙ ap (λ (e : NameEntry). e.queue) c.deref-3.ensures in
    let is_queue : IsQueue b.value.queue = subst IsQueue (sym c.as_slice-2.ensures.value ∙ queue_is) c.as_slice-2.ensures.once in
    let its : count_by (λ o. o.connection == k) c.as_slice-2.result.now ≡ one_if_in k b.value.queue = ap (λ (q : Queue). count_by (λ o. o.connection == k) q) queue_is ∙ once k b.value.queue is_queue in
    let some : one_if_in k b.value.queue ≤ held k b.value.id r.index.places = waits_at items r.spare.items c.args.place k b r.index r.queued c.self.invariant.1 there c.remove-entry.ensures.value in
    subst (λ (e : NameEntry). count_by (λ o. o.connection == k) c.as_slice-2.result.now ≤ held k e.id r.index.places) (sym c.deref-2.ensures) (omega (arith, its, some))

pub invariant_of-self : goal.invariant_of-self
invariant_of-self c =
    let r = c.self.inside in
    let items = r.entries.items in
    let b : Box NameEntry Global = c.remove-entry.result in
    let there : c.args.place < length items = omega (arith, ap length c.self.view_is, length-map items name_in, c.requires) in
    let split = split_at name_in items c.args.place b there in
    let front : List OwnedName = take c.args.place (map name_in items) in
    let back : List OwnedName = drop (suc c.args.place) (map name_in items) in
    let n : OwnedName = name_in (get_or items c.args.place b) in
    let at : name_in b ≡ n = ap name_in c.remove-entry.ensures.value in
    let first_is : c.as_slice.result.now ≡ n.queue = c.as_slice.ensures.value ∙ ap (λ (e : NameEntry). e.queue) c.deref.ensures ∙ ap (λ (m : OwnedName). m.queue) at in
    let queue_is : c.as_slice-2.result.now ≡ b.value.queue = c.as_slice-2.ensures.value ∙ ap (λ (e : NameEntry). e.queue) c.deref-3.ensures in
    let is_queue : IsQueue b.value.queue = subst IsQueue (sym c.as_slice-2.ensures.value ∙ queue_is) c.as_slice-2.ensures.once in
    let id_is : c.deref-2.result.now.id ≡ b.value.id = ap (λ (e : NameEntry). e.id) c.deref-2.ensures in
    let table = dropped (map name_in items) front back n _ _ _ _ c.self.invariant.0 split.0 in
    let names_are : map name_in c.remove-entry.new.self.items ≡ front ++ back = ap (map name_in) c.remove-entry.ensures.items ∙ map_removed name_in items c.args.place front back n split.0 split.1 in
    let spare_is : length c.push_reserved.new.self.items ≡ length r.spare.items + 1 = ap length c.push_reserved.ensures.items ∙ length_push r.spare.items c.remove-entry.result in
    let y = c.take_all.new.self in
    let its : (k : ℕ) → held k b.value.id y.places + one_if_in k b.value.queue ≡ held k b.value.id r.index.places =
    λ k. ap (λ m. held k b.value.id y.places + m) (sym (ap (λ (q : Queue). count_by (λ o. o.connection == k) q) queue_is ∙ once k b.value.queue is_queue))
    ∙ subst (λ id. held k id y.places + count_by (λ o. o.connection == k) c.as_slice-2.result.now ≡ held k id r.index.places) id_is (c.take_all.ensures.its k) in
    let few : length n.queue ≤ r.queued = place_counts (map name_in items) front back n _ _ _ _ c.self.invariant.0 split.0 in
    let same_length : length c.as_slice-2.result.now ≡ length n.queue = ap length (queue_is ∙ ap (λ (m : OwnedName). m.queue) at) in
    let all : length y.places ≡ r.queued - length c.as_slice.result.now = omega (arith, c.take_all.ensures.all, c.self.invariant.1.all, ap length first_is, same_length, few) in (
      resized (front ++ back) (map name_in c.remove-entry.new.self.items) (length r.spare.items + 1) (length c.push_reserved.new.self.items) (r.queued - length n.queue) _ (vec_capacity r.entries) (vec_capacity c.remove-entry.new.self)
          (vec_capacity r.spare) (vec_capacity c.push_reserved.new.self) table names_are spare_is (ap (λ (q : Queue). r.queued - length q) first_is) (omega (arith, c.remove-entry.ensures.capacity)) (omega (arith, c.push_reserved.ensures.capacity)),
      subst (λ (es : List (Box NameEntry Global)). AreIndexed es c.push_reserved.new.self.items y (r.queued - length c.as_slice.result.now)) (sym c.remove-entry.ensures.items)
          (subst (λ (es : List (Box NameEntry Global)). AreIndexed (remove items c.args.place) es y (r.queued - length c.as_slice.result.now)) (sym c.push_reserved.ensures.items)
          (indexed_removed items r.spare.items c.args.place b r.index y r.queued (r.queued - length c.as_slice.result.now) c.self.invariant.1 there c.remove-entry.ensures.value c.take_all.ensures.names its
          (λ k i other. c.take_all.ensures.others k i (ap (λ id. id == i) id_is ∙ other)) all)),
    )

pub returns : goal.returns
returns c front back n is place_is =
    let items = c.self.inside.entries.items in
    let names_are : map name_in items ≡ front ++ n ∷ back = c.self.view_is ∙ is in
    ap (map name_in) c.remove-entry.ensures.items ∙ map_removed name_in items c.args.place front back n names_are place_is
