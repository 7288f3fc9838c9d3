-- What is asked of a registry as it will be.
use Rattle.std.proofs.Common.{◌≡◌, ◌&&◌, [], refl, sym, ap}
use Rattle.match_rules.specs.Facts.{Facts}
use Rattle.match_rules.specs.OwnedRules.{rules_without}
use Rattle.seq_bus_core.specs.BusState.{BusState, head_of}
use Rattle.seq_bus_core.specs.Consistency.{IsConsistent}
use Rattle.seq_bus_core.specs.Recipients.{all_that_want, conns_that, wants_by}
use Rattle.registry_core.specs.Listening.{stays}
use Rattle.registry_core.specs.ConnectionTables.{newcomer}
use Rattle.registry.specs.Pendings.{IsDue, leaver_of, state_after}
use Rattle.registry.specs.declared.after.Pending.{Pending}
use Rattle.registry.specs.declared.after.Pending.TheVariants.{Joined, Requeued, Left, Becoming}
use Rattle.registry.proofs.HelloLemmas.{joined_want}
use Rattle.registry.proofs.LeaveLemmas.{left_want}
use Rattle.registry.proofs.MonitorLemmas.{becoming_want}

-- those of before the change that want a message after it
pub wanting_after : (s : BusState) (p : Pending) (facts : Facts) → IsConsistent s → IsDue p s →
    conns_that (λ c. stays (leaver_of p) c.number && wants_by (head_of (state_after p s)) s.rules facts c) s.connections ≡ all_that_want (state_after p s) facts
wanting_after s (Joined conn privileged) facts h next = sym (joined_want s (newcomer conn privileged) facts h next)
wanting_after s (Requeued name queue) facts h next = refl
wanting_after s (Left connection) facts h next = sym (left_want s connection facts)
wanting_after s (Becoming connection rules) facts h next = sym (becoming_want s connection rules.now facts)

-- none of these changes adds a rule
pub no_rules_after : (p : Pending) (s : BusState) → s.rules ≡ [] → (state_after p s).rules ≡ []
no_rules_after (Joined conn privileged) s none = none
no_rules_after (Requeued name queue) s none = none
no_rules_after (Left connection) s none = ap (rules_without connection) none
no_rules_after (Becoming connection rules) s none = ap (rules_without connection) none
