use Rattle.std.proofs.Common.{None, ◌∙◌, arith}
use Rattle.registry_core.proofs.RuleOwners.{few_owners, found_entries}
use Rattle.registry_core.proofs.listening.add_all_that_want.Goals as goal

pub collect-requires-clause-few : goal.collect-requires-clause-few
collect-requires-clause-few g c =
    omega (arith, few_owners c.args.entries.now c.args.rules.now c.requires.rising c.requires.owned, c.requires.few)

pub returns-clause-value : goal.returns-clause-value
returns-clause-value g c =
    c.add_found.ensures
    ∙ found_entries (g.O.Owners.heads c.args.owners.now) c.args.facts.now None c.args.rules.now c.collect.new.found c.collect.ensures.found c.args.entries.now
