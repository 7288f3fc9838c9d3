use Rattle.std.proofs.Common.{◌≡◌, ◌<◌, ◌≤◌, ◌+◌, ◌-◌, ◌==◌, if◌then◌else◌, ℕ, true, suc, List, ◌∷◌, ◌++◌, map, take, drop, get_or, length, refl, sym, ap, ◌∙◌, subst, arith, Box, Global}
use Rattle.std.proofs.lemmas.List.{length-map}
use Rattle.owner_queues.specs.Queues.{Queue, IsQueue, is_in, without}
use Rattle.seq_bus_core.specs.BusState.{OwnedName}
use Rattle.registry_core.specs.NameTables.{owned_name}
use Rattle.registry_core.specs.declared.name_table.NameEntry.{NameEntry}
use Rattle.registry_core.proofs.NameTableLemmas.{split_at, map_at, map_set, place_counts, requeued, fewer_places}
use Rattle.registry_core.proofs.CountLemmas.{one_if_in, left_counts, left_length}
use Rattle.registry_core.proofs.TableIndex.{waits_at, indexed_set}
use Rattle.registry_core.specs.NameIndexes.{held}
use Rattle.registry_core.proofs.name_table.NameTable.shorten.Goals as goal

abbrev name_in : Box NameEntry Global → OwnedName
name_in b = owned_name b.value

pub overflow_sub-self : goal.overflow_sub-self
overflow_sub-self c =
    let r = c.self.inside in
    let items = r.entries.items in
    let b : Box NameEntry Global = c.index_mut-entry.result.now in
    let there : c.args.place < length items = omega (arith, ap length c.self.view_is, length-map items name_in, c.requires.there) in
    let split = split_at name_in items c.args.place b there in
    let front : List OwnedName = take c.args.place (map name_in items) in
    let back : List OwnedName = drop (suc c.args.place) (map name_in items) in
    let n : OwnedName = name_in (get_or items c.args.place b) in
    let at : name_in b ≡ n = ap name_in c.index_mut-entry.ensures.value in
    let queue_is : c.as_slice.result.now ≡ n.queue = c.as_slice.ensures.value ∙ ap (λ (e : NameEntry). e.queue) c.deref.ensures ∙ ap (λ (m : OwnedName). m.queue) at in
    subst (λ (q : Queue). length q ≤ r.queued) (sym queue_is) (place_counts (map name_in items) front back n _ _ _ _ c.self.invariant.0 split.0)

pub take-requires : goal.take-requires
take-requires c =
    let r = c.self.inside in
    let items = r.entries.items in
    let b : Box NameEntry Global = c.index_mut-entry.result.now in
    let there : c.args.place < length items = omega (arith, ap length c.self.view_is, length-map items name_in, c.requires.there) in
    let split = split_at name_in items c.args.place b there in
    let front : List OwnedName = take c.args.place (map name_in items) in
    let back : List OwnedName = drop (suc c.args.place) (map name_in items) in
    let n : OwnedName = name_in (get_or items c.args.place b) in
    let at : name_in b ≡ n = ap name_in c.index_mut-entry.ensures.value in
    let waits : is_in c.args.connection b.value.queue ≡ true = subst (λ (m : OwnedName). is_in c.args.connection m.queue ≡ true) (sym at) (c.requires.waits front back n (sym c.self.view_is ∙ split.0) split.1) in
    let id_is : c.deref-2.result.now.id ≡ b.value.id = ap (λ (e : NameEntry). e.id) c.deref-2.ensures in
    let one : one_if_in c.args.connection b.value.queue ≡ 1 = rw waits refl in
    let some : one_if_in c.args.connection b.value.queue ≤ held c.args.connection b.value.id r.index.places = waits_at items r.spare.items c.args.place c.args.connection b r.index r.queued c.self.invariant.1 there c.index_mut-entry.ensures.value in
    subst (λ k. 0 < held c.args.connection k r.index.places) (sym id_is) (omega (arith, one, some))

pub invariant_of-self : goal.invariant_of-self
invariant_of-self c =
    let r = c.self.inside in
    let items = r.entries.items in
    let b : Box NameEntry Global = c.index_mut-entry.result.now in
    let there : c.args.place < length items = omega (arith, ap length c.self.view_is, length-map items name_in, c.requires.there) in
    let split = split_at name_in items c.args.place b there in
    let front : List OwnedName = take c.args.place (map name_in items) in
    let back : List OwnedName = drop (suc c.args.place) (map name_in items) in
    let n : OwnedName = name_in (get_or items c.args.place b) in
    let at : name_in b ≡ n = ap name_in c.index_mut-entry.ensures.value in
    let waits : is_in c.args.connection b.value.queue ≡ true = subst (λ (m : OwnedName). is_in c.args.connection m.queue ≡ true) (sym at) (c.requires.waits front back n (sym c.self.view_is ∙ split.0) split.1) in
    let e : Box NameEntry Global = record b { value = record { name = c.deref_mut.result.now.name; queue = c.leave.new.self; id = c.deref_mut.result.now.id } } in
    let id_is : c.deref-2.result.now.id ≡ b.value.id = ap (λ (k : NameEntry). k.id) c.deref-2.ensures in
    let queue_is : c.as_slice.result.now ≡ n.queue = c.as_slice.ensures.value ∙ ap (λ (k : NameEntry). k.queue) c.deref.ensures ∙ ap (λ (m : OwnedName). m.queue) at in
    let shorter : c.leave.new.self ≡ without c.args.connection b.value.queue = c.leave.ensures ∙ ap (λ (k : NameEntry). without c.args.connection k.queue) c.deref_mut.ensures.value in
    let left_is : name_in e ≡ record n { queue = without c.args.connection n.queue } =
    ap (λ (q : Queue). record { name = c.deref_mut.result.now.name; queue = q }) c.leave.ensures
    ∙ ap (λ (k : NameEntry). record (owned_name k) { queue = without c.args.connection k.queue }) c.deref_mut.ensures.value ∙ ap (λ (m : OwnedName). record m { queue = without c.args.connection m.queue }) at in
    let fewer_is : c.as_slice-2.result.now ≡ without c.args.connection n.queue = c.as_slice-2.ensures.value ∙ ap (λ (k : NameEntry). k.queue) c.deref-3.ensures ∙ ap (λ (m : OwnedName). m.queue) left_is in
    let y = c.take.new.self in
    let its : (k : ℕ) → held k b.value.id y.places + one_if_in k b.value.queue ≡ held k b.value.id r.index.places + one_if_in k c.leave.new.self =
    λ k. let taken : held k b.value.id y.places + (if c.args.connection == k then 1 else 0) ≡ held k b.value.id r.index.places = subst (λ id. held k id y.places + (if c.args.connection == k then 1 else 0) ≡ held k id r.index.places) id_is (c.take.ensures.its k) in
    let parts : one_if_in k b.value.queue ≡ (if c.args.connection == k then 1 else 0) + one_if_in k (without c.args.connection b.value.queue) = left_counts k c.args.connection b.value.queue waits in
    let after : one_if_in k c.leave.new.self ≡ one_if_in k (without c.args.connection b.value.queue) = ap (one_if_in k) shorter in
    omega (arith, taken, parts, after) in
    let once : IsQueue n.queue = subst IsQueue (sym c.as_slice.ensures.value ∙ queue_is) c.as_slice.ensures.once in
    let waits_n : is_in c.args.connection n.queue ≡ true = subst (λ (m : OwnedName). is_in c.args.connection m.queue ≡ true) at waits in
    let less : length n.queue ≡ length (without c.args.connection n.queue) + 1 = left_length c.args.connection n.queue once waits_n in
    let few : length n.queue ≤ r.queued = place_counts (map name_in items) front back n _ _ _ _ c.self.invariant.0 split.0 in
    let all : length y.places ≡ r.queued - length c.as_slice.result.now + length c.as_slice-2.result.now = omega (arith, c.take.ensures.all, c.self.invariant.1.all, ap length queue_is, ap length fewer_is, less, few) in (
      rw (map_set name_in items c.args.place _ front back n split.0 split.1, left_is, queue_is, fewer_is)
          (requeued (map name_in items) front back n (without c.args.connection n.queue) _ _ _ _ c.self.invariant.0 split.0 (c.requires.owned front back n (sym c.self.view_is ∙ split.0) split.1) (fewer_places (map name_in items) front back n c.args.connection _ _ _ _ c.self.invariant.0 split.0)),
      indexed_set items r.spare.items c.args.place b e r.index y r.queued (r.queued - length c.as_slice.result.now + length c.as_slice-2.result.now) c.self.invariant.1 there c.index_mut-entry.ensures.value
          (ap (λ (k : NameEntry). k.id) c.deref_mut.ensures.value) (ap (λ (k : NameEntry). k.name) c.deref_mut.ensures.value) c.take.ensures.names its
          (λ k i other. c.take.ensures.others k i (ap (λ id. id == i) id_is ∙ other)) all,
    )

pub returns : goal.returns
returns c front back n is place_is =
    let items = c.self.inside.entries.items in
    let b : Box NameEntry Global = c.index_mut-entry.result.now in
    let names_are : map name_in items ≡ front ++ n ∷ back = c.self.view_is ∙ is in
    let at : name_in b ≡ n = ap name_in c.index_mut-entry.ensures.value ∙ map_at name_in items c.args.place b front back n names_are place_is in
    let left_is : name_in (record b { value = record { name = c.deref_mut.result.now.name; queue = c.leave.new.self; id = c.deref_mut.result.now.id } }) ≡ record n { queue = without c.args.connection n.queue } =
    ap (λ (q : Queue). record { name = c.deref_mut.result.now.name; queue = q }) c.leave.ensures
    ∙ ap (λ (e : NameEntry). record (owned_name e) { queue = without c.args.connection e.queue }) c.deref_mut.ensures.value ∙ ap (λ (m : OwnedName). record m { queue = without c.args.connection m.queue }) at in
    map_set name_in items c.args.place (record b { value = record { name = c.deref_mut.result.now.name; queue = c.leave.new.self; id = c.deref_mut.result.now.id } }) front back n names_are place_is ∙ ap (λ m. front ++ m ∷ back) left_is
