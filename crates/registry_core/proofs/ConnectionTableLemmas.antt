-- Tables of connections, of which some are monitors.
use Rattle.std.proofs.Common.{◌≡◌, ◌==◌, ℕ, suc, ◌<◌, ◌≤◌, Bool, true, false, cond, ◌&&◌, ◌||◌, not, Option, Some, None, is_some, option_map, List, [], ◌∷◌, ◌++◌, map, filter, length, get_or, refl, sym, ap, ◌∙◌, subst, arith, append-nil, if◌then◌else◌}
use Rattle.std.specs.List.{AllByRecursion as Each, list_any, find}
use Rattle.std.specs.Option.{option_map_or}
use Rattle.std.proofs.lemmas.Bool.Decides.{nat_tests}
use Rattle.std.proofs.lemmas.Grind.{flat_map-append}
use Rattle.std.proofs.lemmas.List.{map-append, length_push}
use Rattle.match_rules.specs.Rules.{Rule}
use Rattle.monitor.specs.Laws.{as_monitor, monitors_of}
use Rattle.monitor.specs.Monitors.{Monitor, without}
use Rattle.seq_bus_core.specs.BusState.{Connection, conn_of, is_client, is_monitor, max_connections}
use Rattle.seq_bus_core.specs.declared.connection.Conn.{Conn}
use Rattle.seq_bus_core.proofs.Lists.{each_weaker, none_any, pairs_filter, pairs_push}
use Rattle.registry_core.specs.Listening.{Rising}
use Rattle.registry_core.specs.ConnectionTables.{rules_among, connection_in, connections_in, entry_of, newcomer, those_without, Ascending, AreEntries}
use Rattle.registry_core.specs.declared.connection_entry.ConnectionEntry.{ConnectionEntry}
use Rattle.registry_core.proofs.ConnectionEntries.{found_at, found_nowhere, find-map}
use Rattle.match_index.proofs.Lists.{first_place, pairs_mapped}

-- ## ConnectionEntries and connections

flag : (b : Bool) (rules : List Rule) → is_some (if b then Some rules else None) ≡ b
flag true rules = refl
flag false rules = refl

entry_again : (monitors : List Monitor) (m : ConnectionEntry) → entry_of (connection_in monitors m) ≡ m
entry_again monitors m = ap (λ b. record { conn = m.conn; privileged = m.privileged; is_monitor = b }) (flag m.is_monitor (rules_among m.conn.number monitors))

pub entries_again : (monitors : List Monitor) (ms : List ConnectionEntry) → map entry_of (connections_in monitors ms) ≡ ms
entries_again monitors [] = refl
entries_again monitors (m ∷ ms) = ap (λ n. n ∷ map entry_of (connections_in monitors ms)) (entry_again monitors m) ∙ ap (λ ns. m ∷ ns) (entries_again monitors ms)

pub rising_entries : (monitors : List Monitor) (ms : List ConnectionEntry) → Ascending (connections_in monitors ms) → Rising ms
rising_entries monitors ms h = pairs_mapped (λ a b. a.number < b.number) (connection_in monitors) ms h

-- ## The connection of a number

pub entry_found : (monitors : List Monitor) (number : ℕ) (ms : List ConnectionEntry) (d : ConnectionEntry) (i : ℕ) → first_place (λ m. m.conn.number == number) ms ≡ Some i →
    option_map entry_of (find (λ c. c.number == number) (connections_in monitors ms)) ≡ Some (get_or ms i d)
entry_found monitors number ms d i e =
    ap (option_map entry_of) (find-map (λ c. c.number == number) (connection_in monitors) ms ∙ ap (option_map (connection_in monitors)) (found_at number ms d i e))
    ∙ ap (λ m. Some m) (entry_again monitors (get_or ms i d))

pub entry_nowhere : (monitors : List Monitor) (number : ℕ) (ms : List ConnectionEntry) → ◌≡◌ {A = Option ℕ} (first_place (λ m. m.conn.number == number) ms) None →
    ◌≡◌ {A = Option ConnectionEntry} (option_map entry_of (find (λ c. c.number == number) (connections_in monitors ms))) None
entry_nowhere monitors number ms e = ap (option_map entry_of) (find-map (λ c. c.number == number) (connection_in monitors) ms ∙ ap (option_map (connection_in monitors)) (found_nowhere number ms e))

-- what the entry of a connection says of it
pub read_entry : {X : Type 0} (of_entry : ConnectionEntry → X) (of_connection : Connection → X) → ((c : Connection) → of_entry (entry_of c) ≡ of_connection c) →
    (o : Option Connection) (m : Option ConnectionEntry) → m ≡ option_map entry_of o → option_map of_entry m ≡ option_map of_connection o
read_entry of_entry of_connection same None m e = ap (option_map of_entry) e
read_entry of_entry of_connection same (Some c) m e = ap (option_map of_entry) e ∙ ap (λ x. Some x) (same c)

pub test_entry : (of_entry : ConnectionEntry → Bool) (of_connection : Connection → Bool) → ((c : Connection) → of_entry (entry_of c) ≡ of_connection c) →
    (o : Option Connection) (m : Option ConnectionEntry) → m ≡ option_map entry_of o → option_map_or of_entry m false ≡ option_map_or of_connection o false
test_entry of_entry of_connection same None m e = ap (λ n. option_map_or of_entry n false) e
test_entry of_entry of_connection same (Some c) m e = ap (λ n. option_map_or of_entry n false) e ∙ same c

above_all : (number : ℕ) (cs : List Connection) → Each (λ c. number < c.number) cs → is_client cs number ≡ false
above_all number cs h = none_any (λ c. (c.number == number) && not (is_monitor c)) cs (each_weaker (λ c. number < c.number) (λ c. ((c.number == number) && not (is_monitor c)) ≡ false) other cs h)
  where
    other : (c : Connection) → number < c.number → ((c.number == number) && not (is_monitor c)) ≡ false
    other c above = let differs : (c.number == number) ≡ false = grind (arith, nat_tests) in rw differs refl

pub client_is_found : (number : ℕ) (cs : List Connection) → Ascending cs → option_map_or (λ c. not (is_monitor c)) (find (λ c. c.number == number) cs) false ≡ is_client cs number
client_is_found number [] h = refl
client_is_found number (c ∷ cs) h = by_test (c.number == number) refl (client_is_found number cs h.1)
  where
    or_false : (b : Bool) → b ≡ (b || false)
    or_false true = refl
    or_false false = refl

    by_test : (b : Bool) → (c.number == number) ≡ b → option_map_or (λ d. not (is_monitor d)) (find (λ d. d.number == number) cs) false ≡ is_client cs number →
        option_map_or (λ d. not (is_monitor d)) (find (λ d. d.number == number) (c ∷ cs)) false ≡ is_client (c ∷ cs) number
    by_test true is others =
        let same : c.number ≡ number = grind (arith, nat_tests) in
        let none : is_client cs number ≡ false = above_all number cs (subst (λ n. Each (λ d. n < d.number) cs) same h.0) in
        rw (is, none) (or_false (not (is_monitor c)))
    by_test false is others = rw is others

-- ## Monitors among connections

some_monitors : (n : ℕ) → (suc n == 0) ≡ false
some_monitors n = grind (arith, nat_tests)

pub any_monitor : (cs : List Connection) → not (length (monitors_of cs) == 0) ≡ list_any is_monitor cs
any_monitor [] = refl
any_monitor (c ∷ cs) = by_monitor c.monitor (any_monitor cs)
  where
    by_monitor : (o : Option (List Rule)) → not (length (monitors_of cs) == 0) ≡ list_any is_monitor cs →
        not (length (monitors_of (record c { monitor = o } ∷ cs)) == 0) ≡ list_any is_monitor (record c { monitor = o } ∷ cs)
    by_monitor None others = others
    by_monitor (Some rules) others = ap not (some_monitors (length (monitors_of cs)))

pub few_monitors : (cs : List Connection) → length (monitors_of cs) ≤ length cs
few_monitors [] = omega arith
few_monitors (c ∷ cs) = by_monitor c.monitor (few_monitors cs)
  where
    by_monitor : (o : Option (List Rule)) → length (monitors_of cs) ≤ length cs → length (monitors_of (record c { monitor = o } ∷ cs)) ≤ suc (length cs)
    by_monitor None others = omega (arith, others)
    by_monitor (Some rules) others = omega (arith, others)

-- ## One that comes

pub joined : (monitors : List Monitor) (ms : List ConnectionEntry) (conn : Conn) (privileged : Bool) →
    connections_in monitors (ms ++ record { conn = conn; privileged = privileged; is_monitor = false } ∷ []) ≡ connections_in monitors ms ++ newcomer conn privileged ∷ []
joined monitors ms conn privileged = map-append (connection_in monitors) ms (record { conn = conn; privileged = privileged; is_monitor = false } ∷ [])

pub table_joined : (monitors : List Monitor) (ms : List ConnectionEntry) (conn : Conn) (privileged : Bool) (room next_room : ℕ) → AreEntries ms monitors room →
    Each (λ c. c.number < conn.number) (connections_in monitors ms) → length ms < max_connections → room ≤ next_room →
    AreEntries (ms ++ record { conn = conn; privileged = privileged; is_monitor = false } ∷ []) monitors next_room
table_joined monitors ms conn privileged room next_room h above few more =
    let cs = connections_in monitors ms in
    let m : ConnectionEntry = record { conn = conn; privileged = privileged; is_monitor = false } in
    let is = joined monitors ms conn privileged in
    record {
      rise = subst Ascending (sym is) (pairs_push (λ a b. a.number < b.number) cs (newcomer conn privileged) h.rise above);
      watching = ap monitors_of is ∙ flat_map-append as_monitor cs (newcomer conn privileged ∷ []) ∙ append-nil (monitors_of cs) ∙ h.watching;
      few = omega (arith, few, length_push ms m);
      has_room = omega (arith, more, h.has_room);
    }

-- ## One that leaves

pub other_rules : (number k : ℕ) (monitors : List Monitor) → (k == number) ≡ false → rules_among k (without number monitors) ≡ rules_among k monitors
other_rules number k [] other = refl
other_rules number k (m ∷ monitors) other = by_test (m.conn.number == number) refl (other_rules number k monitors other)
  where
    by_same : (b : Bool) → (m.conn.number == k) ≡ b → rules_among k (without number monitors) ≡ rules_among k monitors → rules_among k (m ∷ without number monitors) ≡ rules_among k (m ∷ monitors)
    by_same true is others = rw is refl
    by_same false is others = rw is others

    by_test : (b : Bool) → (m.conn.number == number) ≡ b → rules_among k (without number monitors) ≡ rules_among k monitors → rules_among k (without number (m ∷ monitors)) ≡ rules_among k (m ∷ monitors)
    by_test true is others = let it_differs : (m.conn.number == k) ≡ false = grind (arith, nat_tests) in rw (is, it_differs) others
    by_test false is others = rw is (by_same (m.conn.number == k) refl others)

abbrev pub others_of : ℕ → List ConnectionEntry → List ConnectionEntry
others_of number ms = filter (λ m. not (m.conn.number == number)) ms

pub same_connection : (monitors next : List Monitor) (m : ConnectionEntry) → rules_among m.conn.number next ≡ rules_among m.conn.number monitors → connection_in next m ≡ connection_in monitors m
same_connection monitors next m is = ap (λ rules. record {
  number = m.conn.number;
  router = m.conn.router;
  slot = m.conn.slot;
  privileged = m.privileged;
  monitor = if m.is_monitor then Some rules else None;
}) is

pub left_view : (number : ℕ) (monitors : List Monitor) (ms : List ConnectionEntry) → connections_in (without number monitors) (others_of number ms) ≡ those_without number (connections_in monitors ms)
left_view number monitors [] = refl
left_view number monitors (m ∷ ms) = by_test (m.conn.number == number) refl (left_view number monitors ms)
  where
    by_test : (b : Bool) → (m.conn.number == number) ≡ b → connections_in (without number monitors) (others_of number ms) ≡ those_without number (connections_in monitors ms) →
        connections_in (without number monitors) (others_of number (m ∷ ms)) ≡ those_without number (connections_in monitors (m ∷ ms))
    by_test true is others = rw is others
    by_test false is others =
        rw is (ap (λ c. c ∷ connections_in (without number monitors) (others_of number ms)) (same_connection monitors (without number monitors) m (other_rules number m.conn.number monitors is)) ∙ ap (λ cs. connection_in monitors m ∷ cs) others)

pub left_monitors : (number : ℕ) (cs : List Connection) → monitors_of (those_without number cs) ≡ without number (monitors_of cs)
left_monitors number [] = refl
left_monitors number (c ∷ cs) = by_monitor c.monitor (c.number == number) refl (left_monitors number cs)
  where
    by_monitor : (o : Option (List Rule)) (b : Bool) → (c.number == number) ≡ b → monitors_of (those_without number cs) ≡ without number (monitors_of cs) →
        monitors_of (those_without number (record c { monitor = o } ∷ cs)) ≡ without number (monitors_of (record c { monitor = o } ∷ cs))
    by_monitor None true is others = rw is others
    by_monitor None false is others = rw is others
    by_monitor (Some rules) true is others = rw is others
    by_monitor (Some rules) false is others = rw is (ap (λ monitors. record { conn = conn_of c; rules = rules } ∷ monitors) others)

pub few_others : {X : Type 0} (test : X → Bool) (xs : List X) → length (filter test xs) ≤ length xs
few_others test [] = omega arith
few_others {X} test (x ∷ xs) = by_test (test x) (few_others test xs)
  where
    by_test : (b : Bool) → length (filter test xs) ≤ length xs → length (cond b (x ∷ filter test xs) (filter test xs)) ≤ suc (length xs)
    by_test true h = omega (arith, h)
    by_test false h = omega (arith, h)

pub table_left : (number : ℕ) (monitors : List Monitor) (ms : List ConnectionEntry) (room next_room : ℕ) → AreEntries ms monitors room → room ≤ next_room →
    AreEntries (others_of number ms) (without number monitors) next_room
table_left number monitors ms room next_room h more =
    let cs = connections_in monitors ms in
    let is = left_view number monitors ms in
    record {
      rise = subst Ascending (sym is) (pairs_filter (λ a b. a.number < b.number) (λ c. not (c.number == number)) cs h.rise);
      watching = ap monitors_of is ∙ left_monitors number cs ∙ ap (without number) h.watching;
      few = omega (arith, few_others (λ m. not (m.conn.number == number)) ms, h.few);
      has_room = omega (arith, more, h.has_room);
    }
