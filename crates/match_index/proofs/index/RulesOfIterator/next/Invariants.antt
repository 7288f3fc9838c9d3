use Rattle.std.proofs.Common.{◌≡◌, length}
use Rattle.match_index.specs.RulesOf.{rules_left}
use Rattle.match_index.proofs.index.RulesOfIterator.next.Given as goal

abbrev pub invariant-loop-place : goal.invariant-loop-place
invariant-loop-place l = (l.self.entries ≡ l.initial.self.entries) × (rules_left l.self ≡ rules_left l.initial.self)

abbrev pub decreases-loop-place : goal.decreases-loop-place
decreases-loop-place l = length l.self.places.now
