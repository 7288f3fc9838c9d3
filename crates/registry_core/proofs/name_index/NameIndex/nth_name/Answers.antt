use Rattle.std.proofs.Common.{◌≡◌, ◌<◌, ◌≤◌, ℕ, zero, suc, List, [], ◌∷◌, length, get_or, refl, sym, ap, ◌∙◌, arith}
use Rattle.std.proofs.lemmas.List.{length-map}
use Rattle.match_index.specs.PlaceIndexes.{places_in, places_of}
use Rattle.match_index.specs.declared.place_index.KeyedPlace.{KeyedPlace}
use Rattle.registry_core.specs.NameIndexes.{IndexedNames, name_at}
use Rattle.registry_core.proofs.name_index.NameIndex.nth_name.Goals as goal

-- the place at a number
nth_place : (n : ℕ) (ps : List KeyedPlace) (d : KeyedPlace) → n < length ps → get_or (places_in ps) n 0 ≡ (get_or ps n d).place
nth_place n [] d lt = absurd (omega (arith, lt))
nth_place zero (p ∷ ps) d lt = refl
nth_place (suc n) (p ∷ ps) d lt = nth_place n ps d (omega (arith, lt))

pub returns-in-Some-clause-value : goal.returns-in-Some-clause-value
returns-in-Some-clause-value c lt =
    let places : List KeyedPlace = c.of.result.now in
    let place : KeyedPlace = c.in-Some.place.now in
    let of_is : places_in places ≡ places_of c.args.connection c.args.self.now.places = c.of.ensures ∙ ap (λ (x : IndexedNames). places_of c.args.connection x.places) c.self.view_is in
    let there : c.args.n < length places = omega (arith, lt, ap length of_is, length-map places (λ (p : KeyedPlace). p.place)) in
    let place_is : place ≡ get_or places c.args.n place = c.in-Some.ensures.lookup.1 in
    let id_is = ap (λ (p : KeyedPlace). p.place) place_is ∙ sym (nth_place c.args.n places place there) ∙ ap (λ ids. get_or ids c.args.n 0) of_is in
    c.name_of.ensures ∙ ap (λ names. name_at names place.place) c.as_slice.ensures.value ∙ ap (name_at c.self.inside.names.items) id_is
    ∙ ap (λ (x : IndexedNames). name_at x.names (get_or (places_of c.args.connection c.args.self.now.places) c.args.n 0)) c.self.view_is

pub returns-in-None-clause-value : goal.returns-in-None-clause-value
returns-in-None-clause-value c lt =
    let places : List KeyedPlace = c.of.result.now in
    let of_is : places_in places ≡ places_of c.args.connection c.args.self.now.places = c.of.ensures ∙ ap (λ (x : IndexedNames). places_of c.args.connection x.places) c.self.view_is in
    let short : length places ≤ c.args.n = c.in-None.ensures.lookup.3 in
    absurd (omega (arith, short, lt, ap length of_is, length-map places (λ (p : KeyedPlace). p.place)))
