use Rattle.std.proofs.Common.{◌<◌, subst, sym}
use Rattle.outbox.specs.Lanes.{End}
use Rattle.outbox.proofs.Rules.{sends, shows}
use Rattle.outbox.proofs.ends.End.put.Goals as goal

pub push_as-requires-clause-rule : goal.push_as-requires-clause-rule
push_as-requires-clause-rule g c = (sends _ _ _ _ (subst (λ (v : End _). v.hand.from < v.hand.to) (sym c.self.view_is) c.requires), shows _ _)
