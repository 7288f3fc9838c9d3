use Rattle.std.proofs.Common.{◌<◌, subst, sym}
use Rattle.outbox.specs.Lanes.{End}
use Rattle.outbox.proofs.Rules.{forks}
use Rattle.outbox.proofs.ends.Tap.give_lane.Goals as goal

pub another-pass-requires-clause-rule : goal.another-pass-requires-clause-rule
another-pass-requires-clause-rule g c = forks _ _ (subst (λ (v : End _). v.hand.from < v.hand.to) (sym c.self.view_is) c.requires)
