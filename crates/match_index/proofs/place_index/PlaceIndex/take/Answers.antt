use Rattle.std.proofs.Common.{◌≡◌, ◌+◌, ◌<◌, ◌≤◌, ℕ, List, length, take, drop, remove, refl, sym, ap, ◌∙◌, subst, arith, vec_capacity}
use Rattle.std.specs.List.{AllByRecursion as Each}
use Rattle.std.proofs.lemmas.List.{length-map}
use Rattle.match_index.specs.PlaceIndexes.{places_in}
use Rattle.match_index.specs.PlaceIndexes.{PlacesInRoom, ByKey, places_of}
use Rattle.match_index.specs.declared.place_index.KeyedPlace.{KeyedPlace}
use Rattle.match_index.proofs.PlaceIndexLemmas.{IsOwnPart, own, own_from, own_length, places_removed, taken_own, taken_other, sorted_taken}
use Rattle.match_index.proofs.place_index.PlaceIndex.take.Goals.{After-start_of-start}
use Rattle.match_index.proofs.place_index.PlaceIndex.take.Goals as goal

-- the place that is taken out stands so far behind the start
record IsFound (n c start : ℕ) (places : List KeyedPlace) : Type 0 where
  high : ℕ
  part : IsOwnPart c places start high
  its : n < length (own c places)
  there : start + n < length places

found : (n c start : ℕ) (places now low : List KeyedPlace) → low ≡ places → places ≡ now → ByKey places → start ≤ length low → Each (λ p. p.key < c) (take start low) → Each (λ p. c ≤ p.key) (drop start low) → n < length (places_of c now) →
    IsFound n c start places
found n c start places now low low_is now_is sorted bound below not_below less =
    let from =
    own_from c places start sorted (subst (λ ps. start ≤ length ps) low_is bound) (subst (λ ps. Each (λ p. p.key < c) (take start ps)) low_is below)
    (subst (λ ps. Each (λ p. c ≤ p.key) (drop start ps)) low_is not_below) in
    let part : IsOwnPart c places start from.0 = from.1 in
    let its : n < length (own c places) = subst (λ k. n < k) (length-map (own c places) (λ p. p.place)) (subst (λ ps. n < length (places_of c ps)) (sym now_is) less) in
    record { high = from.0; part = part; its = its; there = omega (arith, its, part.high_bound, own_length c places start from.0 part) }

at : (c : After-start_of-start) → IsFound c.args.n c.args.key c.start_of-start.result c.self.inside.places.items
at c =
    found c.args.n c.args.key c.start_of-start.result c.self.inside.places.items c.args.self.now.places c.as_slice-places.result.now c.as_slice-places.ensures.value (ap (λ (x : PlacesInRoom). x.places) c.self.view_is) c.self.invariant.sorted
    c.start_of-start.ensures.bound c.start_of-start.ensures.before c.start_of-start.ensures.behind c.requires

pub overflow_add-start : goal.overflow_add-start
overflow_add-start c =
    let there = (at (goal.at.overflow_add-start c).After-start_of-start).there in
    let size = ap length c.as_slice-places.ensures.value in
    omega (arith, there, size, c.as_slice-places.ensures.len)

pub remove-requires : goal.remove-requires
remove-requires c =
    let there = (at (goal.at.remove-requires c).After-start_of-start).there in
    let size = ap length c.as_slice-places.ensures.value in
    omega (arith, there, size, c.as_slice-places.ensures.len)

pub invariant_of-self : goal.invariant_of-self
invariant_of-self c =
    let r = c.self.inside in
    let enough : r.room ≤ vec_capacity r.places = c.self.invariant.has_room in
    record {
      sorted = subst ByKey (sym c.remove.ensures.items) (sorted_taken r.places.items (c.start_of-start.result + c.args.n) c.self.invariant.sorted);
      has_room = omega (arith, enough, c.remove.ensures.capacity);
    }

pub returns-clause-own : goal.returns-clause-own
returns-clause-own c =
    let items = c.self.inside.places.items in
    let start = c.start_of-start.result in
    let it = at (goal.at.returns-clause-own c).After-start_of-start in
    ap (places_of c.args.key) c.remove.ensures.items ∙ ap places_in (taken_own c.args.key c.args.n (start + c.args.n) items start it.high it.part it.its refl) ∙ places_removed c.args.n (own c.args.key items)
    ∙ ap (λ (x : PlacesInRoom). remove (places_of c.args.key x.places) c.args.n) c.self.view_is

pub returns-clause-others : goal.returns-clause-others
returns-clause-others c k other =
    let items = c.self.inside.places.items in
    let start = c.start_of-start.result in
    let it = at (goal.at.returns-clause-others c).After-start_of-start in
    ap (places_of k) c.remove.ensures.items ∙ ap places_in (taken_other k c.args.key c.args.n (start + c.args.n) items start it.high it.part it.its refl other) ∙ ap (λ (x : PlacesInRoom). places_of k x.places) c.self.view_is
