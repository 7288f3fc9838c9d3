use Rattle.std.proofs.Common.{length, sym, ap, ◌∙◌}
use Rattle.std.proofs.lemmas.List.{length-map}
use Rattle.match_rules.specs.OwnedRules.{count_of}
use Rattle.match_index.proofs.EntryLemmas.{count_positions}
use Rattle.match_index.proofs.index.Index.count_of.Goals as goal

pub returns : goal.returns
returns c =
    let n = c.args.connection in
    sym (length-map c.of.result.now (λ p. p.place)) ∙ ap length (c.of.ensures ∙ c.self.invariant.indexed.owned.places_are n) ∙ count_positions n c.self.inside.entries.items ∙ ap (count_of n) c.self.view_is
