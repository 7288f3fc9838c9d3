use Rattle.std.proofs.Common.{◌≡◌, ◌+◌, ◌<◌, ◌≤◌, ℕ, List, length, take, drop, insert, refl, sym, ap, ◌∙◌, subst, arith, vec_capacity}
use Rattle.std.specs.List.{AllByRecursion as Each}
use Rattle.std.proofs.lemmas.Bool.{true≢false, eq-eqb}
use Rattle.std.proofs.lemmas.List.{length-map}
use Rattle.match_index.specs.PlaceIndexes.{PlacesInRoom, ByKey, places_in, places_of}
use Rattle.match_index.specs.declared.place_index.KeyedPlace.{KeyedPlace}
use Rattle.match_index.proofs.PlaceIndexLemmas.{IsOwnPart, own, own_from, own_length, places_inserted, inserted_own, added_other, sorted_inserted}
use Rattle.match_index.proofs.place_index.PlaceIndex.insert.Goals.{After-start_of-start}
use Rattle.match_index.proofs.place_index.PlaceIndex.insert.Goals as goal

-- the new place comes so far behind the start
record IsAmong (n c start : ℕ) (places : List KeyedPlace) : Type 0 where
  high : ℕ
  part : IsOwnPart c places start high
  few : n ≤ length (own c places)
  there : start + n ≤ length places

among : (n c start : ℕ) (places now low : List KeyedPlace) → low ≡ places → places ≡ now → ByKey places → start ≤ length low → Each (λ p. p.key < c) (take start low) → Each (λ p. c ≤ p.key) (drop start low) → n ≤ length (places_of c now) →
    IsAmong n c start places
among n c start places now low low_is now_is sorted bound below not_below le =
    let from =
    own_from c places start sorted (subst (λ ps. start ≤ length ps) low_is bound) (subst (λ ps. Each (λ p. p.key < c) (take start ps)) low_is below)
    (subst (λ ps. Each (λ p. c ≤ p.key) (drop start ps)) low_is not_below) in
    let part : IsOwnPart c places start from.0 = from.1 in
    let few : n ≤ length (own c places) = subst (λ k. n ≤ k) (length-map (own c places) (λ p. p.place)) (subst (λ ps. n ≤ length (places_of c ps)) (sym now_is) le) in
    record { high = from.0; part = part; few = few; there = omega (arith, few, part.high_bound, own_length c places start from.0 part) }

at : (c : After-start_of-start) → IsAmong c.args.n c.args.key c.start_of-start.result c.self.inside.places.items
at c =
    among c.args.n c.args.key c.start_of-start.result c.self.inside.places.items c.args.self.now.places c.as_slice.result.now c.as_slice.ensures.value (ap (λ (x : PlacesInRoom). x.places) c.self.view_is) c.self.invariant.sorted
    c.start_of-start.ensures.bound c.start_of-start.ensures.before c.start_of-start.ensures.behind c.requires.there

pub overflow_add-start : goal.overflow_add-start
overflow_add-start c =
    let there = (at (goal.at.overflow_add-start c).After-start_of-start).there in
    let size = ap length c.as_slice.ensures.value in
    omega (arith, there, size, c.as_slice.ensures.len)

pub insert_reserved-requires-clause-there : goal.insert_reserved-requires-clause-there
insert_reserved-requires-clause-there c = (at (goal.at.insert_reserved-requires-clause-there c).After-start_of-start).there

pub invariant_of-self : goal.invariant_of-self
invariant_of-self c =
    let r = c.self.inside in
    let items = r.places.items in
    let start = c.start_of-start.result in
    let new : KeyedPlace = record { key = c.args.key; place = c.args.place } in
    let it = at (goal.at.invariant_of-self c).After-start_of-start in
    let enough : r.room ≤ vec_capacity r.places = c.self.invariant.has_room in
    record {
      sorted = subst ByKey (sym c.insert_reserved.ensures.items) (sorted_inserted c.args.key c.args.n items new start it.high it.part refl it.few c.self.invariant.sorted);
      has_room = omega (arith, enough, c.insert_reserved.ensures.room);
    }

pub returns-clause-own : goal.returns-clause-own
returns-clause-own c =
    let items = c.self.inside.places.items in
    let start = c.start_of-start.result in
    let new : KeyedPlace = record { key = c.args.key; place = c.args.place } in
    let it = at (goal.at.returns-clause-own c).After-start_of-start in
    ap (places_of c.args.key) c.insert_reserved.ensures.items ∙ ap places_in (inserted_own c.args.key c.args.n (start + c.args.n) items new start it.high it.part refl it.few refl)
    ∙ places_inserted c.args.n (own c.args.key items) new ∙ ap (λ (x : PlacesInRoom). insert (places_of c.args.key x.places) c.args.n c.args.place) c.self.view_is

pub returns-clause-others : goal.returns-clause-others
returns-clause-others c k other =
    let items = c.self.inside.places.items in
    let n = c.args.key in
    ap (places_of k) c.insert_reserved.ensures.items
    ∙ ap places_in (added_other k (c.start_of-start.result + c.args.n) items (record { key = n; place = c.args.place }) (λ same. true≢false (sym (eq-eqb n k same) ∙ other)))
    ∙ ap (λ (x : PlacesInRoom). places_of k x.places) c.self.view_is
