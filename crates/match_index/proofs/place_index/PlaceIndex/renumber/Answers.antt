use Rattle.std.proofs.Common.{◌≡◌, ◌≤◌, ◌++◌, ℕ, List, length, map, take, drop, get_or, set, add-one, sym, ap, ◌∙◌, subst}
use Rattle.std.proofs.lemmas.List.{length-map, take_at}
use Rattle.match_index.specs.PlaceIndexes.{PlacesInRoom, ByKey, places_of}
use Rattle.match_index.specs.declared.place_index.KeyedPlace.{KeyedPlace}
use Rattle.match_index.proofs.PlaceIndexLemmas.{moved, moved_all, moved_more, places_moved, sorted_moved}
use Rattle.match_index.proofs.place_index.PlaceIndex.renumber.Goals as goal

nowhere : KeyedPlace
nowhere = record { key = 0; place = 0 }

pub loop-place-preserved : goal.loop-place-preserved
unfolding nowhere
loop-place-preserved c =
    let f : ℕ → ℕ = λ place. get_or c.args.moves.now place 0 in
    let xs : List KeyedPlace = c.deref_mut-place-items.result.now in
    let i = c.loop-place.place-index in
    let at : KeyedPlace = get_or c.loop-place.place-items i nowhere in
    ap (λ p. set c.loop-place.place-items i (record { key = at.key; place = p })) c.next_place-place.ensures ∙ ap (λ (ps : List KeyedPlace). set ps i (moved f (get_or ps i nowhere))) c.loop-place.invariant
    ∙ moved_more f i xs nowhere c.loop-place-test.true ∙ ap (λ k. map (moved f) (take k xs) ++ drop k xs) (sym (add-one i))

-- the places are what the loop leaves
left : (n : ℕ) (xs ys old : List KeyedPlace) (f : ℕ → ℕ) (i : ℕ) → ys ≡ map (moved f) (take i old) ++ drop i old → old ≡ xs → length old ≤ i → n ≡ length old → take n (ys ++ drop (length ys) xs) ≡ map (moved f) xs
left n xs ys old f i is old_is done size =
    let all : ys ≡ map (moved f) old = is ∙ moved_all f i old done in
    take_at ys (drop (length ys) xs) n (ap length all ∙ length-map old (moved f) ∙ sym size) ∙ all ∙ ap (map (moved f)) old_is

pub invariant_of-self : goal.invariant_of-self
invariant_of-self c =
    let r = c.self.inside in
    let f : ℕ → ℕ = λ place. get_or c.args.moves.now place 0 in
    let is =
    left r.places.len r.places.items c.loop-place.place-items c.deref_mut-place-items.result.now f c.loop-place.place-index c.loop-place.invariant c.deref_mut-place-items.ensures.value c.loop-place-test.false
    (sym c.deref_mut-place-items.ensures.len) in
    record { sorted = subst ByKey (sym is) (sorted_moved f r.places.items c.self.invariant.sorted); has_room = c.self.invariant.has_room }

pub returns-clause-places : goal.returns-clause-places
returns-clause-places c k =
    let r = c.self.inside in
    let f : ℕ → ℕ = λ place. get_or c.args.moves.now place 0 in
    let is =
    left r.places.len r.places.items c.loop-place.place-items c.deref_mut-place-items.result.now f c.loop-place.place-index c.loop-place.invariant c.deref_mut-place-items.ensures.value c.loop-place-test.false
    (sym c.deref_mut-place-items.ensures.len) in
    ap (places_of k) is ∙ places_moved f k r.places.items ∙ ap (λ (x : PlacesInRoom). map f (places_of k x.places)) c.self.view_is
