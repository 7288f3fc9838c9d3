use Rattle.std.proofs.Common.{◌≡◌, ℕ, sym, ap, ◌∙◌, arith}
use Rattle.std.proofs.lemmas.Bool.{true≢false, eq-eqb}
use Rattle.std.proofs.lemmas.List.{length-set}
use Rattle.registry_core.specs.NameIndexes.{IndexedNames, held, name_at}
use Rattle.registry_core.proofs.IndexLemmas.{sorted_renamed, name_own, name_other}
use Rattle.registry_core.proofs.name_index.NameIndex.rename.Goals as goal

pub invariant_of-self : goal.invariant_of-self
invariant_of-self c =
    let r = c.self.inside in
    let none : (k : ℕ) → held k c.args.id r.places.places ≡ 0 = λ k. ap (λ (x : IndexedNames). held k c.args.id x.places) c.self.view_is ∙ c.requires.unused k in
    record {
      sorted = sorted_renamed r.names.items c.args.id c.args.name.now r.places.places none c.self.invariant.sorted;
      numbered = length-set r.names.items c.args.id c.args.name.now ∙ c.self.invariant.numbered;
      has_room = c.self.invariant.has_room;
    }

pub returns-clause-own : goal.returns-clause-own
returns-clause-own c = name_own c.self.inside.names.items c.args.id c.args.name.now (omega (arith, c.self.invariant.numbered, c.requires.there))

pub returns-clause-others : goal.returns-clause-others
returns-clause-others c i other =
    name_other c.self.inside.names.items c.args.id i c.args.name.now (λ same. true≢false (sym (eq-eqb c.args.id i (sym same)) ∙ other)) ∙ ap (λ (x : IndexedNames). name_at x.names i) c.self.view_is
