use Rattle.std.proofs.Common.{◌∙◌, arith}
use Rattle.registry_core.proofs.RuleOwners.{few_owners, found_entries}
use Rattle.registry_core.proofs.listening.add_those_that_want.Goals as goal

pub gather-requires-clause-few : goal.gather-requires-clause-few
gather-requires-clause-few g c =
    omega (arith, few_owners c.args.entries.now c.args.rules.now c.requires.rising c.requires.owned, c.requires.few)

pub returns : goal.returns
returns g c =
    c.add_found.ensures
    ∙ found_entries (g.O.Owners.heads c.args.owners.now) c.args.facts.now c.args.leaver c.args.rules.now c.gather.new.found c.gather.ensures.found c.args.entries.now
