use Rattle.std.proofs.Common.{length, sym, ap, ◌∙◌, subst}
use Rattle.std.proofs.lemmas.List.{length-map}
use Rattle.match_index.specs.PlaceIndexes.{places_of}
use Rattle.match_index.specs.declared.place_index.KeyedPlace.{KeyedPlace}
use Rattle.registry_core.specs.NameIndexes.{IndexedNames, AreSorted}
use Rattle.registry_core.proofs.name_index.NameIndex.count_of.Goals as goal

pub returns-clause-value : goal.returns-clause-value
returns-clause-value c = sym (length-map c.of.result.now (λ (p : KeyedPlace). p.place)) ∙ ap length c.of.ensures ∙ ap (λ (x : IndexedNames). length (places_of c.args.connection x.places)) c.self.view_is

pub returns-clause-sorted : goal.returns-clause-sorted
returns-clause-sorted c = subst (λ (x : IndexedNames). AreSorted x.names x.places) c.self.view_is c.self.invariant.sorted
