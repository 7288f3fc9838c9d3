use Rattle.std.proofs.Common.{rules, arith, ◌≡◌, List, ◌++◌, ◌∷◌, [], length, sym, ap, ◌∙◌}
use Rattle.std.specs.List.{flat_map}
use Rattle.std.proofs.lemmas.Bool.{ltb-true}
use Rattle.match_rules.specs.Rules.{Rule}
use Rattle.match_index.specs.Entries.{rule_at}
use Rattle.match_index.specs.PlaceIndexes.{places_in}
use Rattle.match_index.specs.RulesOf.{rules_left}
use Rattle.match_index.specs.declared.entries.Entry.{Entry}
use Rattle.match_index.specs.declared.place_index.KeyedPlace.{KeyedPlace}
use Rattle.match_index.proofs.EntryLemmas.{rule_at_is, rule_at_none}
use Rattle.match_index.proofs.index.RulesOfIterator.next.Goals.{In-Some-get}
use Rattle.match_index.proofs.index.RulesOfIterator.next.Goals as goal

-- the first of those that are left
first : (c : In-Some-get) → rules_left c.args.self.now ≡ c.in-Some-get.entry.now.rule ∷ flat_map (rule_at c.loop-place.self.entries.now) (places_in c.in-Some.rest.now)
first c =
    let entries : List Entry = c.loop-place.self.entries.now in
    let k = c.in-Some.place.now.place in
    let look = c.in-Some-get.ensures.lookup in
    let rest : List Rule = flat_map (rule_at entries) (places_in c.in-Some.rest.now) in
    sym c.loop-place.invariant.1 ∙ ap (λ (ps : List KeyedPlace). flat_map (rule_at entries) (places_in ps)) c.in-Some.ensures.cases.0
    ∙ ap (λ rules. rules ++ rest) (rule_at_is entries k c.in-Some-get.entry.now (ltb-true k (length entries) (sym look.0)) ∙ ap (λ (e : Entry). e.rule ∷ []) (sym look.1))

pub returns-in-Some-get-clause-steps : goal.returns-in-Some-get-clause-steps
returns-in-Some-get-clause-steps c = first (goal.at.returns-in-Some-get-clause-steps c).In-Some-get

pub returns-in-Some-get-clause-goes : goal.returns-in-Some-get-clause-goes
returns-in-Some-get-clause-goes c = let shorter = ap length (first (goal.at.returns-in-Some-get-clause-goes c).In-Some-get) in search (rules, arith, shorter)

pub loop-place-preserved : goal.loop-place-preserved
loop-place-preserved c =
    let entries : List Entry = c.loop-place.self.entries.now in
    let k = c.in-Some.place.now.place in
    let look = c.in_default-get.ensures.lookup in
    let rest : List Rule = flat_map (rule_at entries) (places_in c.in-Some.rest.now) in (
      c.loop-place.invariant.0,
      sym (ap (λ (ps : List KeyedPlace). flat_map (rule_at entries) (places_in ps)) c.in-Some.ensures.cases.0 ∙ ap (λ rules. rules ++ rest) (rule_at_none entries k look.3)) ∙ c.loop-place.invariant.1,
    )
