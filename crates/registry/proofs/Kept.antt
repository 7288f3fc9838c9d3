-- What every step keeps of the registry's tables.
use Rattle.std.proofs.Common.{◌≡◌, ℕ, ◌<◌, ◌≤◌, ◌^◌, List, [], ◌∷◌, length, map, sym, subst, arith}
use Rattle.std.specs.List.{AllByRecursion as Each}
use Rattle.names.specs.Texts.{Text}
use Rattle.seq_bus_core.specs.Histories.{max_services}
use Rattle.seq_bus_core.specs.BusState.{BusState, Connection}
use Rattle.seq_bus_core.specs.Consistency.{IsGiven, IsConsistent, IsWithinLimits, Pairwise}
use Rattle.seq_bus_core.specs.Steps.{step}
use Rattle.seq_bus_core.specs.declared.change.Change.{Change}
use Rattle.seq_bus_core.proofs.ConsistencyLaws.{steps_keep_consistency}
use Rattle.seq_bus_core.proofs.LimitLaws.{steps_keep_limits}
use Rattle.seq_bus_core.proofs.Lists.{each_map, each_weaker}
use Rattle.registry_core.specs.Listening.{Rising}
use Rattle.registry_core.specs.ConnectionTables.{entry_of}
use Rattle.registry.specs.declared.registry.Registry.TheInside.{Inside}
use Rattle.registry.proofs.Openings.{services_stay}
use Rattle.registry.specs.Tables.{state_of, IsKept}

-- tables that stand for the state after a step
pub kept : (r next : Inside) → IsKept r → (seat : ℕ) (change : Change) → (step (state_of r) seat change).0 ≡ state_of next →
    next.routers ≡ r.routers → IsKept next
kept r next h seat change is routers = record {
  routed = omega (arith, h.routed, routers);
  few_routers = rw routers h.few_routers;
  consistent = subst IsConsistent is (steps_keep_consistency (state_of r) seat change h.consistent);
  within_limits = subst IsWithinLimits is (steps_keep_limits (state_of r) seat change h.consistent h.within_limits);
  few_services = subst (λ (t : BusState). length t.services ≤ max_services) is (subst (λ (services : List Text). length services ≤ max_services) (sym (services_stay (state_of r) seat change)) h.few_services);
}

pub given_below : (r : Inside) → IsKept r → Each (λ c. c.number < 2 ^ 64) (state_of r).connections
given_below r h =
    each_weaker (IsGiven r.next_number) (λ c. c.number < 2 ^ 64) (λ c g. omega (arith, g.given, h.within_limits.next_number)) (state_of r).connections h.consistent.connections_given

-- connections stand in their table by rising number
pub entries_rise : (cs : List Connection) → Pairwise (λ a b. a.number < b.number) cs → Rising (map entry_of cs)
entries_rise [] h = tt
entries_rise (c ∷ cs) h = (each_map (λ d. c.number < d.number) (λ m. c.number < m.conn.number) entry_of (λ d less. less) cs h.0, entries_rise cs h.1)
