use Rattle.std.proofs.Common.{◌<◌, ◌≤◌, ◌++◌, ◌∷◌, [], take, drop, refl, sym, ap, ◌∙◌, subst, arith, vec_capacity}
use Rattle.std.specs.List.{AllByRecursion as Each}
use Rattle.std.proofs.lemmas.Bool.{true≢false, eq-eqb}
use Rattle.std.proofs.lemmas.List.{map-append}
use Rattle.match_index.specs.PlaceIndexes.{places_in}
use Rattle.match_index.specs.PlaceIndexes.{PlacesInRoom, ByKey, places_of}
use Rattle.match_index.specs.declared.place_index.KeyedPlace.{KeyedPlace}
use Rattle.match_index.proofs.PlaceIndexLemmas.{own, added_own, added_other, sorted_added}
use Rattle.match_index.proofs.place_index.PlaceIndex.add.Goals as goal

pub invariant_of-self : goal.invariant_of-self
invariant_of-self c =
    let r = c.self.inside in
    let items = r.places.items in
    let end = c.end_of-end.result in
    let new : KeyedPlace = record { key = c.args.key; place = c.args.place } in
    let enough : r.room ≤ vec_capacity r.places = c.self.invariant.has_room in
    let before : Each (λ p. p.key ≤ c.args.key) (take end items) = subst (λ ps. Each (λ p. p.key ≤ c.args.key) (take end ps)) c.as_slice.ensures.value c.end_of-end.ensures.before in
    let behind : Each (λ p. c.args.key < p.key) (drop end items) = subst (λ ps. Each (λ p. c.args.key < p.key) (drop end ps)) c.as_slice.ensures.value c.end_of-end.ensures.behind in
    record {
      sorted = subst ByKey (sym c.insert_reserved.ensures.items) (sorted_added items end new c.self.invariant.sorted before behind);
      has_room = omega (arith, enough, c.insert_reserved.ensures.room);
    }

pub returns-clause-own : goal.returns-clause-own
returns-clause-own c =
    let items = c.self.inside.places.items in
    let end = c.end_of-end.result in
    let n = c.args.key in
    let new : KeyedPlace = record { key = n; place = c.args.place } in
    let behind : Each (λ p. n < p.key) (drop end items) = subst (λ ps. Each (λ p. n < p.key) (drop end ps)) c.as_slice.ensures.value c.end_of-end.ensures.behind in
    ap (places_of n) c.insert_reserved.ensures.items ∙ ap places_in (added_own n end items new refl behind) ∙ map-append (λ (p : KeyedPlace). p.place) (own n items) (new ∷ [])
    ∙ ap (λ (x : PlacesInRoom). places_of n x.places ++ c.args.place ∷ []) c.self.view_is

pub returns-clause-others : goal.returns-clause-others
returns-clause-others c k other =
    let items = c.self.inside.places.items in
    let n = c.args.key in
    ap (places_of k) c.insert_reserved.ensures.items
    ∙ ap places_in (added_other k c.end_of-end.result items (record { key = n; place = c.args.place }) (λ same. true≢false (sym (eq-eqb n k same) ∙ other)))
    ∙ ap (λ (x : PlacesInRoom). places_of k x.places) c.self.view_is
