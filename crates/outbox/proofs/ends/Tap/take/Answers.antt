use Rattle.std.proofs.Common.{◌≡◌, subst, MatchOption}
use Rattle.crossbeam_queue.specs.Passes.{view}
use Rattle.crossbeam_queue.specs.Fifo.{Held}
use Rattle.outbox.specs.Lanes.{End, Shows, Took}
use Rattle.outbox.proofs.Rules.{gets, shows}
use Rattle.outbox.proofs.ends.Tap.take.Goals as goal

pub pop_as-requires-clause-rule : goal.pop_as-requires-clause-rule
pop_as-requires-clause-rule g c = (gets _ _ c.self.invariant.2, shows _ _)

pub returns-clause-rule : goal.returns-clause-rule
returns-clause-rule g c = subst (λ (v : End _). MatchOption c.pop_as.result ((view c.pop_as.new.pass ≡ v.hand) × Held 0 (Shows v.hand)) (λ e. Took v.hand e (view c.pop_as.new.pass))) c.self.view_is c.pop_as.ensures.rule
