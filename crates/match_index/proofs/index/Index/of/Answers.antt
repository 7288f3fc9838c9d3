use Rattle.std.proofs.Common.{ap, ◌∙◌}
use Rattle.std.specs.List.{flat_map}
use Rattle.match_rules.specs.OwnedRules.{rules_by}
use Rattle.match_index.specs.Entries.{rule_at}
use Rattle.match_index.specs.PlaceIndexes.{places_in}
use Rattle.match_index.proofs.EntryLemmas.{rules_at_positions}
use Rattle.match_index.proofs.index.Index.of.Goals as goal

pub returns : goal.returns
returns c =
    let entries = c.self.inside.entries.items in
    let n = c.args.connection in
    ap (λ es. flat_map (rule_at es) (places_in c.of.result.now)) c.as_slice.ensures.value ∙ ap (flat_map (rule_at entries)) (c.of.ensures ∙ c.self.invariant.indexed.owned.places_are n)
    ∙ rules_at_positions n entries ∙ ap (rules_by n) c.self.view_is
