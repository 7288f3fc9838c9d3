use Rattle.std.proofs.Common.{◌≡◌, ℕ, List, false, true, take, drop, sym, ap, ◌∙◌, subst}
use Rattle.std.specs.List.{AllByRecursion as Each}
use Rattle.names.specs.Texts.{text_lt}
use Rattle.match_index.specs.PlaceIndexes.{places_of}
use Rattle.registry_core.specs.NameIndexes.{AreByName, name_at}
use Rattle.registry_core.proofs.IndexLemmas.{by_name_inserted, sorted_own}
use Rattle.registry_core.proofs.name_index.NameIndex.add.Goals as goal

pub invariant_of-self : goal.invariant_of-self
invariant_of-self c =
    let r = c.self.inside in
    let names = r.names.items in
    let ids : List ℕ = places_of c.args.connection r.places.places in
    let n = c.place_among-n.result in
    let name_is : c.name_of.result.now ≡ name_at names c.args.id = c.name_of.ensures ∙ ap (λ ns. name_at ns c.args.id) c.as_slice-names.ensures.value in
    let before : Each (λ i. text_lt (name_at names i) (name_at names c.args.id) ≡ true) (take n ids) = rw (← name_is, ← c.as_slice-names.ensures.value, ← c.of.ensures) c.place_among-n.ensures.before in
    let behind : Each (λ i. text_lt (name_at names i) (name_at names c.args.id) ≡ false) (drop n ids) = rw (← name_is, ← c.as_slice-names.ensures.value, ← c.of.ensures) c.place_among-n.ensures.behind in
    record {
      sorted = sorted_own names c.args.connection r.places.places c.insert.new.self.places c.self.invariant.sorted
          (subst (AreByName names) (sym c.insert.ensures.own) (by_name_inserted names ids n c.args.id (c.self.invariant.sorted c.args.connection) before behind)) c.insert.ensures.others;
      numbered = c.self.invariant.numbered;
      has_room = c.insert.ensures.room ∙ c.self.invariant.has_room;
    }
