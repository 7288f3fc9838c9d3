-- What a Hello does.
use Rattle.std.proofs.Common.{◌≡◌, ℕ, ◌+◌, ◌<◌, ◌≤◌, ◌==◌, nat_lt, Bool, true, false, not, ◌&&◌, Option, Some, None, option_map, List, [], ◌∷◌, ◌++◌, map, filter, length, refl, ap, ◌∙◌, subst, arith, if◌then◌else◌}
use Rattle.std.specs.List.{AllByRecursion as Each}
use Rattle.std.proofs.lemmas.List.{length_push}
use Rattle.std.proofs.lemmas.Bool.Decides.{nat_tests}
use Rattle.match_rules.specs.Facts.{Facts}
use Rattle.match_rules.specs.OwnedRules.{has_fitting}
use Rattle.seq_bus_core.specs.BusState.{BusState, Connection, conn_of, head_of, is_monitor, max_connections, max_number}
use Rattle.seq_bus_core.specs.Recipients.{conn_at, all_that_want, monitors_shown, conns_that, wants_by, watches_by}
use Rattle.seq_bus_core.specs.Steps.{free_slot, with_connection, welcomed, hello, unchanged, step}
use Rattle.seq_bus_core.specs.Consistency.{IsGiven, IsConsistent, IsWithinLimits}
use Rattle.seq_bus_core.specs.declared.change.Change.TheVariants.{Hello}
use Rattle.seq_bus_core.specs.declared.connection.Conn.{Conn}
use Rattle.seq_bus_core.specs.declared.outcome.Reply.TheVariants.{LimitsExceeded}
use Rattle.seq_bus_core.proofs.LimitLaws.{steps_keep_limits}
use Rattle.seq_bus_core.proofs.Lists.{each_weaker}
use Rattle.match_index.proofs.Lists.{one_done}
use Rattle.registry_core.specs.ConnectionTables.{newcomer}
use Rattle.registry.specs.Hellos.{next_conn, welcomed_as}
use Rattle.registry.proofs.ListeningLemmas.{none_fits, push_none, rules_below}

-- a Hello is known by the connection that it makes
pub hello_by : (s : BusState) (seat : ℕ) (privileged : Bool) → step s seat (Hello privileged) ≡ welcomed_as s privileged (next_conn s seat)
hello_by s seat privileged = by_slot (free_slot s seat)
  where
    none : (last : Bool) → unchanged s LimitsExceeded ≡ welcomed_as s privileged (if last then None else None)
    none true = refl
    none false = refl

    some : (slot : ℕ) (last : Bool) →
        (if last then unchanged s LimitsExceeded else welcomed s (record { number = s.next_number; router = seat; slot = slot; privileged = privileged; monitor = None }))
        ≡ welcomed_as s privileged (if last then None else Some (record { number = s.next_number; slot = slot; router = seat }))
    some slot true = refl
    some slot false = refl

    by_slot : (o : Option ℕ) →
        hello s seat privileged o
        ≡ welcomed_as s privileged (if nat_lt max_number s.next_number then None else option_map (λ slot. record { number = s.next_number; slot = slot; router = seat }) o)
    by_slot None = none (nat_lt max_number s.next_number)
    by_slot (Some slot) = some slot (nat_lt max_number s.next_number)

-- the state after a Hello, by the connection that it makes
pub hello_state : (s : BusState) (seat : ℕ) (privileged : Bool) (conn : Conn) → next_conn s seat ≡ Some conn →
    (step s seat (Hello privileged)).0 ≡ with_connection s (newcomer conn privileged)
hello_state s seat privileged conn e = ap (λ r. r.0) (hello_by s seat privileged) ∙ ap (λ o. (welcomed_as s privileged o).0) e

-- the number of the connection that a Hello makes
pub next_number_is : (s : BusState) (seat : ℕ) (conn : Conn) → next_conn s seat ≡ Some conn → (conn.number ≡ s.next_number) × (conn.router ≡ seat) × (s.next_number ≤ max_number)
next_number_is s seat conn e = by_last (nat_lt max_number s.next_number) refl (free_slot s seat) e
  where
    by_last : (last : Bool) → nat_lt max_number s.next_number ≡ last → (o : Option ℕ) →
        (if last then None else option_map (λ slot. record { number = s.next_number; slot = slot; router = seat }) o) ≡ Some conn →
        (conn.number ≡ s.next_number) × (conn.router ≡ seat) × (s.next_number ≤ max_number)
    by_last true t o k = cc
    by_last false t None k = cc
    by_last false t (Some slot) k =
        let is : conn ≡ record { number = s.next_number; slot = slot; router = seat } = cc in
        (ap (λ (c : Conn). c.number) is, ap (λ (c : Conn). c.router) is, grind (arith, nat_tests))

-- ## The tables

-- where a Hello makes a connection, there is room for it
pub has_room : (s : BusState) (seat : ℕ) (conn : Conn) → IsConsistent s → IsWithinLimits s → next_conn s seat ≡ Some conn → length s.connections < max_connections
has_room s seat conn h limits e =
    let after : IsWithinLimits (with_connection s (newcomer conn false)) = subst IsWithinLimits (hello_state s seat false conn e) (steps_keep_limits s seat (Hello false) h limits) in
    let count : length s.connections + 1 ≤ max_connections = subst (λ k. k ≤ max_connections) (length_push s.connections (newcomer conn false)) after.connections in
    omega arith

-- it has a higher number than all others
pub above_all : (s : BusState) (n : ℕ) → IsConsistent s → n ≡ s.next_number → Each (λ d. d.number < n) s.connections
above_all s n h numbered = each_weaker (IsGiven s.next_number) (λ d. d.number < n) (λ d g. omega (arith, g.given, numbered)) s.connections h.connections_given

-- ## The signals

-- those that want a message once a connection has come: it wants none itself
pub joined_want : (s : BusState) (c : Connection) (facts : Facts) → IsConsistent s → c.number ≡ s.next_number →
    all_that_want (with_connection s c) facts ≡ conns_that (wants_by (head_of (with_connection s c)) s.rules facts) s.connections
joined_want s c facts h numbered =
    let heads = head_of (with_connection s c) in
    push_none (wants_by heads s.rules facts) s.connections c
    (ap (λ b. not (is_monitor c) && b) (ap (has_fitting heads s.rules facts) numbered ∙ none_fits heads facts s.next_number s.rules (rules_below s h)) ∙ and_false (not (is_monitor c)))
  where
    and_false : (b : Bool) → (b && false) ≡ false
    and_false true = refl
    and_false false = refl

pub joined_shown : (s : BusState) (conn : Conn) (privileged : Bool) (facts : Facts) →
    monitors_shown (with_connection s (newcomer conn privileged)) facts ≡ conns_that (watches_by (head_of (with_connection s (newcomer conn privileged))) facts) s.connections
joined_shown s conn privileged facts =
    let c = newcomer conn privileged in
    push_none (watches_by (head_of (with_connection s c)) facts) s.connections c refl

-- no connection has the number that is given next
none_given : (cs : List Connection) (n : ℕ) → Each (λ d. d.number < n) cs → filter (λ d. d.number == n) cs ≡ []
none_given [] n h = refl
none_given (d ∷ cs) n h = let other : (d.number == n) ≡ false = grind (arith, nat_tests) in rw other (none_given cs n h.1)

pub nobody_has_next : (s : BusState) (n : ℕ) → IsConsistent s → n ≡ s.next_number → conn_at s (Some n) ≡ []
nobody_has_next s n h numbered =
    ap (map conn_of) (none_given s.connections n (above_all s n h numbered))

-- the connection of a number once a connection is there
pub conn_joined : (s : BusState) (conn : Conn) (privileged : Bool) (n : ℕ) →
    conn_at (with_connection s (newcomer conn privileged)) (Some n) ≡ conn_at s (Some n) ++ (if conn.number == n then conn ∷ [] else [])
conn_joined s conn privileged n = one_done conn_of (λ c. c.number == n) s.connections (newcomer conn privileged)

-- what a Hello is told that makes a connection
pub hello_told : (s : BusState) (seat : ℕ) (conn : Conn) (privileged : Bool) → next_conn s seat ≡ Some conn →
    (step s seat (Hello privileged)).1 ≡ (welcomed s (newcomer conn privileged)).1
hello_told s seat conn privileged e = ap (λ r. r.1) (hello_by s seat privileged) ∙ ap (λ o. (welcomed_as s privileged o).1) e
