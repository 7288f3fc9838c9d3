use Rattle.std.proofs.Common.{◌≡◌, ◌+◌, ◌<◌, ◌≤◌, ℕ, List, [], ◌∷◌, ◌++◌, filter, take, length, flat_map, get_or, sym, ap, ◌∙◌, arith, add-one, Box, Global}
use Rattle.std.proofs.Math.Seq.{take-suc}
use Rattle.std.proofs.lemmas.List.Sums.{length-filter}
use Rattle.owner_queues.specs.Queues.{is_in}
use Rattle.seq_bus_core.specs.BusState.{BusState, OwnedName, names_of}
use Rattle.seq_bus_core.specs.declared.signal.AddressedSignal.{AddressedSignal}
use Rattle.registry_core.specs.NameTables.{owned_name}
use Rattle.registry_core.specs.declared.name_table.NameEntry.{NameEntry}
use Rattle.registry.specs.Departures.{told_of_name}
use Rattle.registry.proofs.Lists.{flat_push, map_get, take_whole}
use Rattle.registry.proofs.LeaveLemmas.{told_of_names}
use Rattle.registry.proofs.registry.Registry.tell_of_names.Goals as goal

abbrev name_in : Box NameEntry Global → OwnedName
name_in b = owned_name b.value

pub loop-n-preserved : goal.loop-n-preserved
loop-n-preserved c =
    let n : ℕ = c.args.connection in
    let told : OwnedName → List AddressedSignal = told_of_name c.args.after.now c.args.departure n in
    let k = c.loop-n.n in
    let place = c.place_of_nth-place.result in
    let names : List OwnedName = c.self.inside.names in
    let its : List OwnedName = filter (λ m. is_in n m.queue) names in
    let d : Box NameEntry Global = c.index-as_slice-place.result in
    let names_are : names ≡ c.args.self.now.names = ap (λ (t : BusState). t.names) c.self.view_is in
    let lt : k < length its = omega (arith, length-filter (λ (m : OwnedName). is_in n m.queue) names, c.count_of-n-end.ensures, c.loop-n-test.true) in
    let entry_is : owned_name c.deref.result.now ≡ get_or its k (name_in d) =
    ap owned_name c.deref.ensures ∙ ap name_in c.index-as_slice-place.is ∙ sym (map_get name_in c.as_slice.result.now place d) ∙ ap (λ (ns : List OwnedName). get_or ns place (name_in d)) c.as_slice.ensures.value
    ∙ c.place_of_nth-place.ensures.value (name_in d) in
    let more : take (k + 1) its ≡ take k its ++ get_or its k (name_in d) ∷ [] = ap (λ i. take i its) (add-one k) ∙ take-suc its k (name_in d) lt in
    c.in_ok-tell_of_name.ensures ∙ ap (λ (before : List AddressedSignal). before ++ told (owned_name c.deref.result.now)) c.loop-n.invariant
    ∙ ap (λ (ns : List OwnedName). flat_map told (take k (filter (λ m. is_in n m.queue) ns)) ++ told (owned_name c.deref.result.now)) (sym names_are)
    ∙ ap (λ o. flat_map told (take k its) ++ told o) entry_is ∙ sym (flat_push told (take k its) (get_or its k (name_in d))) ∙ ap (flat_map told) (sym more)
    ∙ ap (λ (ns : List OwnedName). flat_map told (take (k + 1) (filter (λ m. is_in n m.queue) ns))) names_are

pub returns : goal.returns
returns c =
    let s : BusState = c.args.self.now in
    let n : ℕ = c.args.connection in
    let its : List OwnedName = filter (λ m. is_in n m.queue) s.names in
    let k = c.loop-n.n in
    let names_are : c.self.inside.names ≡ s.names = ap (λ (t : BusState). t.names) c.self.view_is in
    let ended : length its ≤ k = omega (arith, length-filter (λ (m : OwnedName). is_in n m.queue) s.names, c.count_of-n-end.ensures, ap (names_of n) names_are, c.loop-n-test.false) in
    c.loop-n.invariant ∙ ap (flat_map (told_of_name c.args.after.now c.args.departure n)) (take_whole its k ended) ∙ told_of_names c.args.after.now c.args.departure n s.names
