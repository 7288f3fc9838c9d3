use Rattle.std.proofs.Common.{◌≡◌, ◌<◌, List, [], map, length, get_or, sym, ap, ◌∙◌, subst, arith}
use Rattle.owner_queues.specs.Queues.{is_in}
use Rattle.seq_bus_core.specs.BusState.{OwnedName, names_of}
use Rattle.seq_bus_core.proofs.Lists.{each_filter}
use Rattle.match_index.specs.PlaceIndexes.{places_of}
use Rattle.match_index.proofs.Lists.{each_at}
use Rattle.registry_core.specs.NameIndexes.{name_at}
use Rattle.registry_core.specs.NameTables.{owned_name, NamesRise, Entry}
use Rattle.registry_core.proofs.TableIndex.{ids_in, its_names, ids_are, ids_length, nth_named, stands_at}
use Rattle.registry_core.proofs.name_table.NameTable.place_of_nth.Goals as goal

abbrev name_in : Entry → OwnedName
name_in b = owned_name b.value

nobody : OwnedName
nobody = record { name = []; queue = [] }

-- the name stands at the place
at : (c : goal.After-place_among) → (d : OwnedName) → (c.place_among.result < length (map name_in c.self.inside.entries.items)) × ((e : OwnedName) → get_or (map name_in c.self.inside.entries.items) c.place_among.result e ≡ get_or (its_names c.args.connection (map name_in c.self.inside.entries.items)) c.args.n d)
at c d =
    let r = c.self.inside in
    let items = r.entries.items in
    let names : List OwnedName = map name_in items in
    let number = c.args.connection in
    let n = c.args.n in
    let rise : NamesRise names = c.self.invariant.0.rise in
    let ids : places_of number r.index.places ≡ ids_in number items = ids_are number items r.spare.items r.index r.queued c.self.invariant.1 rise c.nth_name.ensures.sorted in
    let few : n < names_of number names = subst (λ ns. n < names_of number ns) (sym c.self.view_is) c.requires in
    let lt : n < length (ids_in number items) = omega (arith, few, ids_length number items) in
    let named = nth_named r.index.names number n d items c.self.invariant.1.named lt in
    let name_is : c.nth_name.result.now ≡ (get_or (its_names number names) n d).name =
    c.nth_name.ensures.value (subst (λ is. n < length is) (sym ids) lt) ∙ ap (λ is. name_at r.index.names (get_or is n 0)) ids ∙ named.1 in
    let stands = stands_at c.nth_name.result.now c.place_among.result names rise (rw (← c.as_slice.ensures.value) c.place_among.ensures.before) (rw (← c.as_slice.ensures.value) c.place_among.ensures.behind) in
    let its = each_at (λ m. m.name ≡ c.nth_name.result.now → (c.place_among.result < length names) × ((e : OwnedName) → get_or names c.place_among.result e ≡ m)) (its_names number names) n d
    (each_filter (λ m. m.name ≡ c.nth_name.result.now → (c.place_among.result < length names) × ((e : OwnedName) → get_or names c.place_among.result e ≡ m)) (λ m. is_in number m.queue) names stands) named.0 in
    its (sym name_is)

pub returns-clause-there : goal.returns-clause-there
returns-clause-there c = subst (λ (ns : List OwnedName). c.place_among.result < length ns) c.self.view_is (at c nobody).0

pub returns-clause-value : goal.returns-clause-value
returns-clause-value c d = subst (λ (ns : List OwnedName). get_or ns c.place_among.result d ≡ get_or (its_names c.args.connection ns) c.args.n d) c.self.view_is ((at c d).1 d)
