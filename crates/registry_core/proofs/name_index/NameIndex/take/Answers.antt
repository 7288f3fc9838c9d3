use Rattle.std.proofs.Common.{◌<◌, sym, ap, ◌∙◌, subst}
use Rattle.match_index.specs.PlaceIndexes.{places_of}
use Rattle.registry_core.specs.NameIndexes.{IndexedNames, held, AreByName}
use Rattle.registry_core.proofs.IndexLemmas.{found_number, held_less, held_still, sorted_own, by_name_removed}
use Rattle.registry_core.proofs.name_index.NameIndex.take.Goals as goal

pub take-requires : goal.take-requires
take-requires c =
    let some : 0 < held c.args.connection c.args.id c.self.inside.places.places = subst (λ (x : IndexedNames). 0 < held c.args.connection c.args.id x.places) (sym c.self.view_is) c.requires in
    (found_number c.args.id (places_of c.args.connection c.self.inside.places.places) c.number_of-n.result some c.number_of-n.ensures).0

pub invariant_of-self : goal.invariant_of-self
invariant_of-self c =
    let r = c.self.inside in
    let names = r.names.items in
    record {
      sorted = sorted_own names c.args.connection r.places.places c.take.new.self.places c.self.invariant.sorted
          (subst (AreByName names) (sym c.take.ensures.own) (by_name_removed names (places_of c.args.connection r.places.places) c.number_of-n.result (c.self.invariant.sorted c.args.connection))) c.take.ensures.others;
      numbered = c.self.invariant.numbered;
      has_room = c.take.ensures.room ∙ c.self.invariant.has_room;
    }

pub returns-clause-its : goal.returns-clause-its
returns-clause-its c k =
    let places = c.self.inside.places.places in
    let number = c.args.connection in
    let some : 0 < held number c.args.id places = subst (λ (x : IndexedNames). 0 < held number c.args.id x.places) (sym c.self.view_is) c.requires in
    let at = found_number c.args.id (places_of number places) c.number_of-n.result some c.number_of-n.ensures in
    held_less places c.take.new.self.places number c.number_of-n.result c.args.id c.take.ensures.own c.take.ensures.others at.0 at.1 k ∙ ap (λ (x : IndexedNames). held k c.args.id x.places) c.self.view_is

pub returns-clause-others : goal.returns-clause-others
returns-clause-others c k i other =
    let places = c.self.inside.places.places in
    let number = c.args.connection in
    let some : 0 < held number c.args.id places = subst (λ (x : IndexedNames). 0 < held number c.args.id x.places) (sym c.self.view_is) c.requires in
    let at = found_number c.args.id (places_of number places) c.number_of-n.result some c.number_of-n.ensures in
    held_still places c.take.new.self.places number c.number_of-n.result c.args.id c.take.ensures.own c.take.ensures.others at.0 at.1 k i other ∙ ap (λ (x : IndexedNames). held k i x.places) c.self.view_is
