use Rattle.std.proofs.Common.{Bool, is_some, List, sym, ap, ◌∙◌}
use Rattle.std.specs.List.{list_any, position}
use Rattle.match_rules.specs.OwnedRules.{is_rule_of}
use Rattle.match_index.specs.Entries.{has_rule}
use Rattle.match_index.specs.declared.entries.Entry.{Entry}
use Rattle.match_index.specs.declared.place_index.KeyedPlace.{KeyedPlace}
use Rattle.match_index.proofs.Lists.{position_is, any_place, list_any-map}
use Rattle.match_index.proofs.EntryLemmas.{any_position}
use Rattle.match_index.proofs.index.Index.contains.Goals as goal

pub returns : goal.returns
returns c =
    let entries = c.self.inside.entries.items in
    let n = c.args.connection in
    let rule = c.args.rule.now in
    let places : List KeyedPlace = c.of.result.now in
    let test : KeyedPlace → Bool = λ p. has_rule rule entries p.place in
    c.is_some.ensures ∙ ap is_some (c.place_of.ensures ∙ ap (λ (es : List Entry). position (λ p. has_rule rule es p.place) places) c.deref.ensures.value ∙ position_is test places) ∙ any_place test places
    ∙ sym (list_any-map (has_rule rule entries) (λ (p : KeyedPlace). p.place) places) ∙ ap (list_any (has_rule rule entries)) (c.of.ensures ∙ c.self.invariant.indexed.owned.places_are n) ∙ any_position n rule entries
    ∙ ap (list_any (is_rule_of n rule)) c.self.view_is
