-- A connection of a table that becomes a monitor.
use Rattle.std.proofs.Common.{◌≡◌, ◌==◌, ℕ, suc, ◌<◌, ◌≤◌, nat_lt, Bool, true, false, ◌||◌, not, Option, Some, None, option_map, List, [], ◌∷◌, map, length, get_or, refl, sym, ap, ◌∙◌, subst, arith, if◌then◌else◌}
use Rattle.std.specs.List.{AllByRecursion as Each, find, position}
use Rattle.std.proofs.Math.ListN.{set}
use Rattle.std.proofs.lemmas.Bool.{eqb-true}
use Rattle.std.proofs.lemmas.Bool.Decides.{nat_tests}
use Rattle.std.proofs.lemmas.List.{length-map}
use Rattle.match_rules.specs.Rules.{Rule}
use Rattle.monitor.specs.Laws.{monitors_of}
use Rattle.monitor.specs.Monitors.{Monitor, inserted, without}
use Rattle.seq_bus_core.specs.BusState.{Connection, conn_of}
use Rattle.seq_bus_core.specs.Steps.{monitor_if}
use Rattle.seq_bus_core.specs.declared.connection.Conn.{Conn}
use Rattle.seq_bus_core.proofs.Lists.{each_weaker, find_none, find_passes, found_having, pairs_map}
use Rattle.registry_core.specs.Listening.{Rising}
use Rattle.registry_core.specs.ConnectionTables.{rules_among, connection_in, connections_in, those_without, Ascending, AreEntries}
use Rattle.registry_core.specs.declared.connection_entry.ConnectionEntry.{ConnectionEntry}
use Rattle.registry_core.proofs.ConnectionTableLemmas.{other_rules, same_connection, left_monitors, few_monitors, few_others, rising_entries}
use Rattle.registry_core.proofs.ConnectionEntries.{found_at, found_nowhere, find-map}
use Rattle.match_index.proofs.Lists.{first_place, position_is}

abbrev pub marked : ℕ → ConnectionEntry → ConnectionEntry
marked number m = record m { is_monitor = (m.conn.number == number) || m.is_monitor }

none_marked : (number : ℕ) (ms : List ConnectionEntry) → Each (λ m. number < m.conn.number) ms → map (marked number) ms ≡ ms
none_marked number [] h = refl
none_marked number (m ∷ ms) h =
    let other : (m.conn.number == number) ≡ false = let above : number < m.conn.number = h.0 in grind (arith, nat_tests) in
    rw other (ap (λ ns. m ∷ ns) (none_marked number ms h.1))

abbrev with_mark : ConnectionEntry → ℕ → List ConnectionEntry → List ConnectionEntry
with_mark d i ms = set ms i (record (get_or ms i d) { is_monitor = true })

-- the place of the connection is where it is marked
pub marked_at : (number : ℕ) (ms : List ConnectionEntry) (d : ConnectionEntry) (i : ℕ) → Rising ms → first_place (λ m. m.conn.number == number) ms ≡ Some i →
    with_mark d i ms ≡ map (marked number) ms
marked_at number [] d i rising e = cc
marked_at number (m ∷ ms) d i rising e = by_test (m.conn.number == number) refl e (λ j found. marked_at number ms d j rising.1 found)
  where
    rest : (o : Option ℕ) → first_place (λ n. n.conn.number == number) ms ≡ o → option_map suc o ≡ Some i → (m.conn.number == number) ≡ false →
        ((j : ℕ) → first_place (λ n. n.conn.number == number) ms ≡ Some j → with_mark d j ms ≡ map (marked number) ms) → with_mark d i (m ∷ ms) ≡ map (marked number) (m ∷ ms)
    rest None is found other others = cc
    rest (Some j) is found other others = let there : suc j ≡ i = cc in rw (← there, other) (ap (λ ns. m ∷ ns) (others j is))

    by_test : (b : Bool) → (m.conn.number == number) ≡ b → (if b then Some 0 else option_map suc (first_place (λ n. n.conn.number == number) ms)) ≡ Some i →
        ((j : ℕ) → first_place (λ n. n.conn.number == number) ms ≡ Some j → with_mark d j ms ≡ map (marked number) ms) → with_mark d i (m ∷ ms) ≡ map (marked number) (m ∷ ms)
    by_test true is found others =
        let there : 0 ≡ i = cc in
        let same : m.conn.number ≡ number = grind (arith, nat_tests) in
        let stay : map (marked number) ms ≡ ms = none_marked number ms (subst (λ n. Each (λ x. n < x.conn.number) ms) same rising.0) in
        rw (← there, is) (ap (λ ns. record m { is_monitor = true } ∷ ns) (sym stay))
    by_test false is found others = rest (first_place (λ n. n.conn.number == number) ms) refl found is others

-- ## Rules

inserted_rules : (monitor : Monitor) (k : ℕ) (monitors : List Monitor) → (monitor.conn.number == k) ≡ false → rules_among k (inserted monitor monitors) ≡ rules_among k monitors
inserted_rules monitor k [] other = rw other refl
inserted_rules monitor k (m ∷ monitors) other = by_test (nat_lt monitor.conn.number m.conn.number) refl (inserted_rules monitor k monitors other)
  where
    by_test : (b : Bool) → nat_lt monitor.conn.number m.conn.number ≡ b → rules_among k (inserted monitor monitors) ≡ rules_among k monitors → rules_among k (inserted monitor (m ∷ monitors)) ≡ rules_among k (m ∷ monitors)
    by_test true is others = rw (is, other) refl
    by_test false is others = rw is (ap (λ rules. if m.conn.number == k then m.rules else rules) others)

abbrev IsOwn : Monitor → List Monitor → Type 0
IsOwn monitor ms = rules_among monitor.conn.number (inserted monitor ms) ≡ monitor.rules

own_rules : (monitor : Monitor) (monitors : List Monitor) → rules_among monitor.conn.number (inserted monitor (without monitor.conn.number monitors)) ≡ monitor.rules
own_rules monitor [] = let own : (monitor.conn.number == monitor.conn.number) ≡ true = grind (arith, nat_tests) in rw own refl
own_rules monitor (m ∷ monitors) = by_test (m.conn.number == monitor.conn.number) refl (own_rules monitor monitors)
  where
    by_place : (b : Bool) → nat_lt monitor.conn.number m.conn.number ≡ b → (m.conn.number == monitor.conn.number) ≡ false → IsOwn monitor (without monitor.conn.number monitors) → IsOwn monitor (m ∷ without monitor.conn.number monitors)
    by_place true is other others = let own : (monitor.conn.number == monitor.conn.number) ≡ true = grind (arith, nat_tests) in rw (is, own) refl
    by_place false is other others = rw (is, other) others

    by_test : (b : Bool) → (m.conn.number == monitor.conn.number) ≡ b → IsOwn monitor (without monitor.conn.number monitors) → IsOwn monitor (without monitor.conn.number (m ∷ monitors))
    by_test true is others = rw is others
    by_test false is others = rw is (by_place (nat_lt monitor.conn.number m.conn.number) refl is others)

-- ## Connections

become_one : (monitor : Monitor) (monitors : List Monitor) (m : ConnectionEntry) →
    connection_in (inserted monitor (without monitor.conn.number monitors)) (marked monitor.conn.number m) ≡ monitor_if monitor.conn.number monitor.rules (connection_in monitors m)
become_one monitor monitors m = by_test (m.conn.number == number) refl
  where
    number : ℕ
    number = monitor.conn.number

    next : List Monitor
    next = inserted monitor (without monitor.conn.number monitors)

    by_test : (b : Bool) → (m.conn.number == monitor.conn.number) ≡ b → connection_in next (marked monitor.conn.number m) ≡ monitor_if monitor.conn.number monitor.rules (connection_in monitors m)
    by_test true is =
        let same : m.conn.number ≡ monitor.conn.number = grind (arith, nat_tests) in
        let rules : rules_among m.conn.number next ≡ monitor.rules = ap (λ k. rules_among k next) same ∙ own_rules monitor monitors in
        rw is (ap (λ rs. record { number = m.conn.number; router = m.conn.router; slot = m.conn.slot; privileged = m.privileged; monitor = Some rs }) rules)
    by_test false is =
        let other : (monitor.conn.number == m.conn.number) ≡ false = grind (arith, nat_tests) in
        rw is (same_connection monitors next m (inserted_rules monitor m.conn.number (without monitor.conn.number monitors) other ∙ other_rules monitor.conn.number m.conn.number monitors is))

pub become_view : (monitor : Monitor) (monitors : List Monitor) (ms : List ConnectionEntry) →
    connections_in (inserted monitor (without monitor.conn.number monitors)) (map (marked monitor.conn.number) ms) ≡ map (monitor_if monitor.conn.number monitor.rules) (connections_in monitors ms)
become_view monitor monitors [] = refl
become_view monitor monitors (m ∷ ms) =
    ap (λ c. c ∷ connections_in (inserted monitor (without monitor.conn.number monitors)) (map (marked monitor.conn.number) ms)) (become_one monitor monitors m)
    ∙ ap (λ cs. monitor_if monitor.conn.number monitor.rules (connection_in monitors m) ∷ cs) (become_view monitor monitors ms)

stays : (number : ℕ) (rules : List Rule) (c : Connection) → (c.number == number) ≡ false → monitor_if number rules c ≡ c
stays number rules c other = rw other refl

pub all_stay : (number : ℕ) (rules : List Rule) (cs : List Connection) → Each (λ c. (c.number == number) ≡ false) cs → map (monitor_if number rules) cs ≡ cs
all_stay number rules [] h = refl
all_stay number rules (c ∷ cs) h = ap (λ d. d ∷ map (monitor_if number rules) cs) (stays number rules c h.0) ∙ ap (λ ds. c ∷ ds) (all_stay number rules cs h.1)

none_left : (number : ℕ) (cs : List Connection) → Each (λ c. (c.number == number) ≡ false) cs → those_without number cs ≡ cs
none_left number [] h = refl
none_left number (c ∷ cs) h = rw h.0 (ap (λ ds. c ∷ ds) (none_left number cs h.1))

-- ## Monitors

monitors_above : (number : ℕ) (cs : List Connection) → Each (λ c. number < c.number) cs → Each (λ m. number < m.conn.number) (monitors_of cs)
monitors_above number [] h = tt
monitors_above number (c ∷ cs) h = by_monitor c.monitor (monitors_above number cs h.1)
  where
    by_monitor : (o : Option (List Rule)) → Each (λ m. number < m.conn.number) (monitors_of cs) → Each (λ m. number < m.conn.number) (monitors_of (record c { monitor = o } ∷ cs))
    by_monitor None others = others
    by_monitor (Some rules) others = (h.0, others)

inserted_first : (monitor : Monitor) (monitors : List Monitor) → Each (λ m. monitor.conn.number < m.conn.number) monitors → inserted monitor monitors ≡ monitor ∷ monitors
inserted_first monitor [] h = refl
inserted_first monitor (m ∷ monitors) h = let lower : nat_lt monitor.conn.number m.conn.number ≡ true = let above : monitor.conn.number < m.conn.number = h.0 in grind (arith, nat_tests) in rw lower refl

abbrev Became : Conn → List Rule → List Connection → Type 0
Became conn rules cs = monitors_of (map (monitor_if conn.number rules) cs) ≡ inserted (record { conn = conn; rules = rules }) (without conn.number (monitors_of cs))

pub become_monitors : (conn : Conn) (rules : List Rule) (cs : List Connection) (c : Connection) → Ascending cs → find (λ d. d.number == conn.number) cs ≡ Some c → conn ≡ conn_of c →
    monitors_of (map (monitor_if conn.number rules) cs) ≡ inserted (record { conn = conn; rules = rules }) (without conn.number (monitors_of cs))
become_monitors conn rules [] c h found is = cc
become_monitors conn rules (x ∷ cs) c h found is = by_test (x.number == conn.number) refl found (λ e. become_monitors conn rules cs c h.1 e is)
  where
    differs : (d : Connection) → conn.number < d.number → (d.number == conn.number) ≡ false
    differs d above = grind (arith, nat_tests)

    later : (o : Option (List Rule)) → (x.number == conn.number) ≡ false → nat_lt conn.number x.number ≡ false → Became conn rules cs → Became conn rules (record x { monitor = o } ∷ cs)
    later None other behind others = rw other others
    later (Some rs) other behind others = rw (other, behind) (ap (λ ms. record { conn = conn_of x; rules = rs } ∷ ms) others)

    by_test : (b : Bool) → (x.number == conn.number) ≡ b → (if b then Some x else find (λ d. d.number == conn.number) cs) ≡ Some c → (find (λ d. d.number == conn.number) cs ≡ Some c → Became conn rules cs) → Became conn rules (x ∷ cs)
    by_test true same it others =
        let it_is : x ≡ c = cc in
        let conn_is : conn ≡ conn_of x = is ∙ ap conn_of (sym it_is) in
        let number_is : x.number ≡ conn.number = ap (λ (k : Conn). k.number) (sym conn_is) in
        let above : Each (λ d. conn.number < d.number) cs = subst (λ n. Each (λ d. n < d.number) cs) number_is h.0 in
        let other : Each (λ d. (d.number == conn.number) ≡ false) cs = each_weaker (λ d. conn.number < d.number) (λ d. (d.number == conn.number) ≡ false) differs cs above in
        let dropped : those_without conn.number (x ∷ cs) ≡ cs = rw same (none_left conn.number cs other) in
        let rest : without conn.number (monitors_of (x ∷ cs)) ≡ monitors_of cs = sym (left_monitors conn.number (x ∷ cs)) ∙ ap monitors_of dropped in
        let first : monitors_of (map (monitor_if conn.number rules) (x ∷ cs)) ≡ record { conn = conn_of x; rules = rules } ∷ monitors_of (map (monitor_if conn.number rules) cs) = rw same refl in
        first ∙ ap (λ k. record { conn = k; rules = rules } ∷ monitors_of (map (monitor_if conn.number rules) cs)) (sym conn_is)
        ∙ ap (λ ds. record { conn = conn; rules = rules } ∷ monitors_of ds) (all_stay conn.number rules cs other)
        ∙ sym (inserted_first (record { conn = conn; rules = rules }) (monitors_of cs) (monitors_above conn.number cs above)) ∙ ap (inserted (record { conn = conn; rules = rules })) (sym rest)
    by_test false other it others =
        let low : x.number < c.number = found_having (λ d. x.number < d.number) (λ d. d.number == conn.number) cs c it h.0 in
        let number_is : c.number ≡ conn.number = ap (λ (k : Conn). k.number) (sym is) in
        let behind : nat_lt conn.number x.number ≡ false = grind (arith, nat_tests) in
        later x.monitor other behind (others it)

-- ## Room

fewer_others : (number : ℕ) (cs : List Connection) (c : Connection) → find (λ d. d.number == number) cs ≡ Some c → length (those_without number cs) < length cs
fewer_others number [] c found = cc
fewer_others number (x ∷ cs) c found = by_test (x.number == number) refl found (λ e. fewer_others number cs c e)
  where
    by_test : (b : Bool) → (x.number == number) ≡ b → (if b then Some x else find (λ d. d.number == number) cs) ≡ Some c → (find (λ d. d.number == number) cs ≡ Some c → length (those_without number cs) < length cs) →
        length (those_without number (x ∷ cs)) < suc (length cs)
    by_test true is it others = rw is (let few : length (those_without number cs) ≤ length cs = few_others (λ d. not (d.number == number)) cs in omega (arith, few))
    by_test false is it others = rw is (let few : length (those_without number cs) < length cs = others it in omega (arith, few))

pub room_for_one : (number : ℕ) (cs : List Connection) (c : Connection) (monitors : List Monitor) → find (λ d. d.number == number) cs ≡ Some c → monitors_of cs ≡ monitors →
    length (without number monitors) < length cs
room_for_one number cs c monitors found watching =
    let is : without number monitors ≡ monitors_of (those_without number cs) = ap (without number) (sym watching) ∙ sym (left_monitors number cs) in
    let few : length (monitors_of (those_without number cs)) ≤ length (those_without number cs) = few_monitors (those_without number cs) in
    let fewer : length (those_without number cs) < length cs = fewer_others number cs c found in
    omega (arith, ap length is, few, fewer)

pub table_became : (conn : Conn) (rules : List Rule) (monitors : List Monitor) (ms : List ConnectionEntry) (c : Connection) (room next_room : ℕ) → AreEntries ms monitors room →
    find (λ d. d.number == conn.number) (connections_in monitors ms) ≡ Some c → conn ≡ conn_of c → room ≤ next_room →
    AreEntries (map (marked conn.number) ms) (inserted (record { conn = conn; rules = rules }) (without conn.number monitors)) next_room
table_became conn rules monitors ms c room next_room h found is more =
    let cs = connections_in monitors ms in
    let monitor : Monitor = record { conn = conn; rules = rules } in
    let view_is = become_view monitor monitors ms in
    record {
      rise = subst Ascending (sym view_is) (pairs_map (λ a b. a.number < b.number) (λ a b. a.number < b.number) (monitor_if conn.number rules) kept cs h.rise);
      watching = ap monitors_of view_is ∙ become_monitors conn rules cs c h.rise found is ∙ ap (λ ns. inserted monitor (without conn.number ns)) h.watching;
      few = omega (arith, length-map ms (marked conn.number), h.few);
      has_room = omega (arith, more, h.has_room);
    }
  where
    number_stays : (a : Connection) → (monitor_if conn.number rules a).number ≡ a.number
    number_stays a = by_test (a.number == conn.number) refl
      where
        by_test : (b : Bool) → (a.number == conn.number) ≡ b → (monitor_if conn.number rules a).number ≡ a.number
        by_test true same = rw same refl
        by_test false same = rw same refl

    kept : (a b : Connection) → a.number < b.number → (monitor_if conn.number rules a).number < (monitor_if conn.number rules b).number
    kept a b lower = omega (arith, number_stays a, number_stays b, lower)

-- ## At a place

-- what becomes of a table whose entry at a place is one of a number
pub record Becomes (number : ℕ) (rules : List Rule) (monitors : List Monitor) (ms : List ConnectionEntry) (i : ℕ) (m : ConnectionEntry) (room : ℕ) : Type 0 where
  pub fewer : length (without number monitors) < length ms
  pub table : AreEntries (set ms i (record m { is_monitor = true })) (inserted (record { conn = m.conn; rules = rules }) (without number monitors)) room
  pub view : connections_in (inserted (record { conn = m.conn; rules = rules }) (without number monitors)) (set ms i (record m { is_monitor = true })) ≡ map (monitor_if number rules) (connections_in monitors ms)

of_own_number : (rules : List Rule) (monitors : List Monitor) (ms : List ConnectionEntry) (i : ℕ) (m : ConnectionEntry) (room next_room : ℕ) → AreEntries ms monitors room →
    first_place (λ x. x.conn.number == m.conn.number) ms ≡ Some i → m ≡ get_or ms i m → room ≤ next_room → Becomes m.conn.number rules monitors ms i m next_room
of_own_number rules monitors ms i m room next_room h found is more =
    let cs = connections_in monitors ms in
    let monitor : Monitor = record { conn = m.conn; rules = rules } in
    let c : Connection = connection_in monitors (get_or ms i m) in
    let there : find (λ d. d.number == m.conn.number) cs ≡ Some c = find-map (λ d. d.number == m.conn.number) (connection_in monitors) ms ∙ ap (option_map (connection_in monitors)) (found_at m.conn.number ms m i found) in
    let conn_is : m.conn ≡ conn_of c = ap (λ (x : ConnectionEntry). x.conn) is in
    let set_is : set ms i (record m { is_monitor = true }) ≡ map (marked m.conn.number) ms =
    ap (λ (x : ConnectionEntry). set ms i (record x { is_monitor = true })) is ∙ marked_at m.conn.number ms m i (rising_entries monitors ms h.rise) found in
    let next : List Monitor = inserted monitor (without m.conn.number monitors) in
    record {
      fewer = (let fewer : length (without m.conn.number monitors) < length cs = room_for_one m.conn.number cs c monitors there h.watching in omega (arith, fewer, length-map ms (connection_in monitors)));
      table = subst (λ (ns : List ConnectionEntry). AreEntries ns next next_room) (sym set_is) (table_became m.conn rules monitors ms c room next_room h there conn_is more);
      view = ap (connections_in next) set_is ∙ become_view monitor monitors ms;
    }

pub becomes : (number : ℕ) (rules : List Rule) (monitors : List Monitor) (ms : List ConnectionEntry) (i : ℕ) (m : ConnectionEntry) (room : ℕ) → AreEntries ms monitors room →
    ◌≡◌ {A = Option ℕ} (position (λ x. x.conn.number == number) ms) (Some i) → m ≡ get_or ms i m → Becomes number rules monitors ms i m room
becomes number rules monitors ms i m room h at is =
    let found : first_place (λ x. x.conn.number == number) ms ≡ Some i = sym (position_is (λ x. x.conn.number == number) ms) ∙ at in
    let passes : ((get_or ms i m).conn.number == number) ≡ true = find_passes (λ x. x.conn.number == number) ms (get_or ms i m) (found_at number ms m i found) in
    let same : m.conn.number ≡ number = ap (λ (x : ConnectionEntry). x.conn.number) is ∙ eqb-true (get_or ms i m).conn.number number passes in
    subst (λ n. first_place (λ x. x.conn.number == n) ms ≡ Some i → Becomes n rules monitors ms i m room) same
    (λ own. of_own_number rules monitors ms i m room room h own is (omega arith)) found

-- no connection has the number
pub nobody_becomes : (number : ℕ) (rules : List Rule) (monitors : List Monitor) (ms : List ConnectionEntry) → ◌≡◌ {A = Option ℕ} (first_place (λ m. m.conn.number == number) ms) None →
    map (monitor_if number rules) (connections_in monitors ms) ≡ connections_in monitors ms
nobody_becomes number rules monitors ms found =
    all_stay number rules (connections_in monitors ms) (find_none (λ c. c.number == number) (connections_in monitors ms)
    (find-map (λ c. c.number == number) (connection_in monitors) ms ∙ ap (option_map (connection_in monitors)) (found_nowhere number ms found)))
