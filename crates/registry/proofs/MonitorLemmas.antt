-- A bus once a connection is a monitor.
use Rattle.std.proofs.Common.{◌≡◌, ℕ, suc, ◌<◌, ◌≤◌, ◌==◌, ◌&&◌, ◌||◌, nat_lt, not, Bool, true, false, cond, Option, Some, None, is_some, option_map, List, [], ◌∷◌, map, filter, length, refl, sym, ap, ◌∙◌, arith, if◌then◌else◌}
use Rattle.std.specs.List.{AllByRecursion as Each, find}
use Rattle.std.specs.Option.{option_map_or}
use Rattle.std.proofs.lemmas.Bool.Decides.{nat_tests}
use Rattle.names.specs.Texts.{Text, text_eq}
use Rattle.names.specs.UniqueName.{unique_text}
use Rattle.match_rules.specs.Facts.{Facts}
use Rattle.match_rules.specs.Fitting.{Heads}
use Rattle.match_rules.specs.Rules.{Rule}
use Rattle.seq_bus_core.specs.BusState.{BusState, Connection, client_named, client_of, conn_of, head_of, is_client, is_monitor}
use Rattle.seq_bus_core.specs.Consistency.{IsConsistent, Pairwise}
use Rattle.seq_bus_core.specs.Recipients.{all_that_want, conn_at, inserted_conn, conns_that, wants_by, watched, watches_by}
use Rattle.seq_bus_core.specs.Steps.{Stepped, announced, become_monitor, for_client, monitor_if, signals_of_monitor, step, unchanged, with_monitor, without_connection}
use Rattle.seq_bus_core.specs.declared.change.Change.TheVariants.{BecomeMonitor}
use Rattle.seq_bus_core.specs.declared.outcome.Reply.TheVariants.{Gone, Done, AccessDenied}
use Rattle.seq_bus_core.specs.declared.connection.Conn.{Conn}
use Rattle.names.specs.BusName.{is_bus, is_unique}
use Rattle.match_rules.specs.OwnedRules.{rules_without}
use Rattle.owner_queues.specs.Queues.{queue_head}
use Rattle.seq_bus_core.specs.BusState.{queue_of}
use Rattle.registry_core.specs.Listening.{stays}
use Rattle.registry_core.proofs.ConnectionEntries.{filter_alike}
use Rattle.registry.specs.Monitors.{is_privileged, reply_to_monitor}
use Rattle.registry.proofs.LeaveLemmas.{fits_other, none_above}
use Rattle.registry.proofs.MatchLemmas.{some_found}

-- a connection is reached where it was
conn_same : (n : ℕ) (rules : List Rule) (c : Connection) → conn_of (monitor_if n rules c) ≡ conn_of c
conn_same n rules c = by_test (c.number == n)
  where
    by_test : (b : Bool) → conn_of (if b then record c { monitor = Some rules } else c) ≡ conn_of c
    by_test true = refl
    by_test false = refl

conns_with : (test : Connection → Bool) (n : ℕ) (rules : List Rule) (cs : List Connection) →
    conns_that test (map (monitor_if n rules) cs) ≡ conns_that (λ c. test (monitor_if n rules c)) cs
conns_with test n rules [] = refl
conns_with test n rules (c ∷ cs) = by_test (test (monitor_if n rules c)) (conns_with test n rules cs)
  where
    by_test : (b : Bool) → conns_that test (map (monitor_if n rules) cs) ≡ conns_that (λ d. test (monitor_if n rules d)) cs →
        map conn_of (cond b (monitor_if n rules c ∷ filter test (map (monitor_if n rules) cs)) (filter test (map (monitor_if n rules) cs)))
        ≡ map conn_of (cond b (c ∷ filter (λ d. test (monitor_if n rules d)) cs) (filter (λ d. test (monitor_if n rules d)) cs))
    by_test true others = λ i. conn_same n rules c i ∷ others i
    by_test false others = others

-- ## Who is asked

pub becoming_want : (s : BusState) (n : ℕ) (rules : List Rule) (facts : Facts) →
    all_that_want (with_monitor s n rules) facts ≡ conns_that (λ c. stays (Some n) c.number && wants_by (head_of (with_monitor s n rules)) s.rules facts c) s.connections
becoming_want s n rules facts =
    let heads = head_of (with_monitor s n rules) in
    let test : Connection → Bool = wants_by heads (rules_without n s.rules) facts in
    conns_with test n rules s.connections
    ∙ ap (map conn_of) (filter_alike (λ c. test (monitor_if n rules c)) (λ c. stays (Some n) c.number && wants_by heads s.rules facts c) s.connections (λ c. by_test heads c (c.number == n) refl))
  where
    by_test : (heads : Heads) (c : Connection) (b : Bool) → (c.number == n) ≡ b →
        wants_by heads (rules_without n s.rules) facts (if c.number == n then record c { monitor = Some rules } else c) ≡ (not (c.number == n) && wants_by heads s.rules facts c)
    by_test heads c true is = rw is refl
    by_test heads c false is = rw is (ap (λ f. not (is_monitor c) && f) (fits_other heads facts c.number n s.rules is))

pub becoming_conn : (s : BusState) (n : ℕ) (rules : List Rule) (k : ℕ) → conn_at (with_monitor s n rules) (Some k) ≡ conn_at s (Some k)
becoming_conn s n rules k =
    conns_with (λ c. c.number == k) n rules s.connections
    ∙ ap (map conn_of) (filter_alike (λ c. (monitor_if n rules c).number == k) (λ c. c.number == k) s.connections (λ c. ap (λ (d : Conn). d.number == k) (conn_same n rules c)))

pub becoming_client : (cs : List Connection) (n : ℕ) (rules : List Rule) (m : ℕ) → is_client (map (monitor_if n rules) cs) m ≡ (not (m == n) && is_client cs m)
becoming_client [] n rules m = and_false (not (m == n))
  where
    and_false : (b : Bool) → false ≡ (b && false)
    and_false true = refl
    and_false false = refl
becoming_client (c ∷ cs) n rules m = by_tests (c.number == n) (c.number == m) (m == n) refl refl refl (becoming_client cs n rules m)
  where
    never : (c.number == n) ≡ true → (c.number == m) ≡ true → (m == n) ≡ false → ⊥
    never a b d = grind (arith, nat_tests)

    never_other : (c.number == n) ≡ false → (c.number == m) ≡ true → (m == n) ≡ true → ⊥
    never_other a b d = grind (arith, nat_tests)

    by_tests : (a b d : Bool) → (c.number == n) ≡ a → (c.number == m) ≡ b → (m == n) ≡ d → is_client (map (monitor_if n rules) cs) m ≡ (not (m == n) && is_client cs m) →
        is_client (map (monitor_if n rules) (c ∷ cs)) m ≡ (not (m == n) && is_client (c ∷ cs) m)
    by_tests true true true x y z others = rw (x, y) (others ∙ rw z refl)
    by_tests true true false x y z others = absurd (never x y z)
    by_tests true false d x y z others = rw (x, y) others
    by_tests false true true x y z others = absurd (never_other x y z)
    by_tests false true false x y z others = rw (x, y, z) (ap (λ t. not (is_monitor c) || t) (others ∙ rw z refl))
    by_tests false false d x y z others = rw (x, y) others

-- ## Heads

clients_named : (cs : List Connection) (n : ℕ) (rules : List Rule) (name : Text) → client_named (map (monitor_if n rules) cs) name ≡ client_named (filter (λ c. not (c.number == n)) cs) name
clients_named [] n rules name = refl
clients_named (c ∷ cs) n rules name = by_test (c.number == n) refl (not (is_monitor c) && text_eq name (unique_text c.number)) refl (clients_named cs n rules name)
  where
    by_test : (a : Bool) → (c.number == n) ≡ a → (b : Bool) → (not (is_monitor c) && text_eq name (unique_text c.number)) ≡ b →
        client_named (map (monitor_if n rules) cs) name ≡ client_named (filter (λ d. not (d.number == n)) cs) name →
        client_named (map (monitor_if n rules) (c ∷ cs)) name ≡ client_named (filter (λ d. not (d.number == n)) (c ∷ cs)) name
    by_test true is b e others = rw is others
    by_test false is true e others = rw (is, e) refl
    by_test false is false e others = rw (is, e) others

-- a monitor has no name, as a connection that has left
pub head_becoming : (s : BusState) (n : ℕ) (rules : List Rule) (name : Text) → head_of (without_connection s n) name ≡ head_of (with_monitor s n rules) name
head_becoming s n rules name =
    ap (λ o. if is_bus name then None else if is_unique name then o else queue_head (queue_of (without_connection s n).names name)) (sym (clients_named s.connections n rules name))

-- ## Who is shown

few_that : (test : Connection → Bool) (cs : List Connection) → length (conns_that test cs) ≤ length cs
few_that test [] = omega arith
few_that test (c ∷ cs) = by_test (test c) (few_that test cs)
  where
    by_test : (b : Bool) → length (conns_that test cs) ≤ length cs → length (map conn_of (cond b (c ∷ filter test cs) (filter test cs))) ≤ suc (length cs)
    by_test true h = omega (arith, h)
    by_test false h = omega (arith, h)

pub no_more_than : (test : Connection → Bool) (cs : List Connection) (limit : ℕ) → length cs ≤ limit → length (conns_that test cs) ≤ limit
no_more_than test cs limit few = omega (arith, few, few_that test cs)

pub few_with : (test : Connection → Bool) (n : ℕ) (rules : List Rule) (cs : List Connection) (limit : ℕ) → length cs ≤ limit → length (conns_that test (map (monitor_if n rules) cs)) ≤ limit
few_with test n rules cs limit few = rw (conns_with test n rules cs) (no_more_than (λ c. test (monitor_if n rules c)) cs limit few)

-- one at least is left out
pub fewer_that : (n : ℕ) (test : Connection → Bool) (cs : List Connection) (c : Connection) → find (λ d. d.number == n) cs ≡ Some c →
    length (conns_that (λ d. stays (Some n) d.number && test d) cs) < length cs
fewer_that n test [] c e = cc
fewer_that n test (d ∷ cs) c e = by_test (d.number == n) refl e (test d) (λ found. fewer_that n test cs c found)
  where
    those : List Connection
    those = filter (λ x. stays (Some n) x.number && test x) cs

    by_test : (a : Bool) → (d.number == n) ≡ a → cond a (Some d) (find (λ x. x.number == n) cs) ≡ Some c → (b : Bool) →
        (find (λ x. x.number == n) cs ≡ Some c → length (map conn_of those) < length cs) → length (map conn_of (cond (not a && b) (d ∷ those) those)) < suc (length cs)
    by_test true is found b others = omega (arith, few_that (λ x. stays (Some n) x.number && test x) cs)
    by_test false is found true others = omega (arith, others found)
    by_test false is found false others = omega (arith, others found)

-- whether a connection watches once this one is a monitor
watching : (heads : Heads) (facts : Facts) (n : ℕ) (rules : List Rule) (c : Connection) →
    watches_by heads facts (monitor_if n rules c) ≡ (if c.number == n then watched heads facts rules else watches_by heads facts c)
watching heads facts n rules c = by_test (c.number == n)
  where
    by_test : (b : Bool) → watches_by heads facts (if b then record c { monitor = Some rules } else c) ≡ (if b then watched heads facts rules else watches_by heads facts c)
    by_test true = refl
    by_test false = refl

abbrev pub shown_with : Heads → Facts → ℕ → List Rule → List Connection → List Conn
shown_with heads facts n rules cs = conns_that (watches_by heads facts) (map (monitor_if n rules) cs)

abbrev pub shown_but : Heads → Facts → ℕ → List Connection → List Conn
shown_but heads facts n cs = conns_that (λ c. stays (Some n) c.number && watches_by heads facts c) cs

as_before : (heads : Heads) (facts : Facts) (n : ℕ) (rules : List Rule) (cs : List Connection) →
    ((c : Connection) → (if c.number == n then watched heads facts rules else watches_by heads facts c) ≡ (stays (Some n) c.number && watches_by heads facts c)) →
    shown_but heads facts n cs ≡ shown_with heads facts n rules cs
as_before heads facts n rules cs same =
    sym (conns_with (watches_by heads facts) n rules cs
    ∙ ap (map conn_of) (filter_alike (λ c. watches_by heads facts (monitor_if n rules c)) (λ c. stays (Some n) c.number && watches_by heads facts c) cs (λ c. watching heads facts n rules c ∙ same c)))

-- a monitor whose rules don't fit
pub unwatched : (heads : Heads) (facts : Facts) (n : ℕ) (rules : List Rule) (cs : List Connection) → watched heads facts rules ≡ false →
    shown_but heads facts n cs ≡ shown_with heads facts n rules cs
unwatched heads facts n rules cs fails = as_before heads facts n rules cs (λ c. by_test c (c.number == n))
  where
    by_test : (c : Connection) (b : Bool) → (if b then watched heads facts rules else watches_by heads facts c) ≡ (not b && watches_by heads facts c)
    by_test c true = fails
    by_test c false = refl

-- a monitor that is not there
pub absent_with : (heads : Heads) (facts : Facts) (n : ℕ) (rules : List Rule) (cs : List Connection) → ◌≡◌ {A = Option Connection} (find (λ c. c.number == n) cs) None →
    shown_but heads facts n cs ≡ shown_with heads facts n rules cs
absent_with heads facts n rules [] e = refl
absent_with heads facts n rules (c ∷ cs) e = by_test (c.number == n) refl e (λ absent. absent_with heads facts n rules cs absent)
  where
    by_watch : (b : Bool) → shown_but heads facts n cs ≡ shown_with heads facts n rules cs →
        map conn_of (cond b (c ∷ filter (λ d. stays (Some n) d.number && watches_by heads facts d) cs) (filter (λ d. stays (Some n) d.number && watches_by heads facts d) cs))
        ≡ map conn_of (cond b (c ∷ filter (watches_by heads facts) (map (monitor_if n rules) cs)) (filter (watches_by heads facts) (map (monitor_if n rules) cs)))
    by_watch true others = ap (λ rest. conn_of c ∷ rest) others
    by_watch false others = others

    by_test : (a : Bool) → (c.number == n) ≡ a → ◌≡◌ {A = Option Connection} (cond a (Some c) (find (λ d. d.number == n) cs)) None →
        (◌≡◌ {A = Option Connection} (find (λ d. d.number == n) cs) None → shown_but heads facts n cs ≡ shown_with heads facts n rules cs) → shown_but heads facts n (c ∷ cs) ≡ shown_with heads facts n rules (c ∷ cs)
    by_test true is found others = cc
    by_test false is found others = rw is (by_watch (watches_by heads facts c) (others found))

-- the connections behind one are not it
same_behind : (heads : Heads) (facts : Facts) (n : ℕ) (rules : List Rule) (cs : List Connection) → Each (λ c. n < c.number) cs → shown_but heads facts n cs ≡ shown_with heads facts n rules cs
same_behind heads facts n rules cs h = absent_with heads facts n rules cs (none_found cs h)
  where
    none_found : (ds : List Connection) → Each (λ d. n < d.number) ds → ◌≡◌ {A = Option Connection} (find (λ d. d.number == n) ds) None
    none_found [] h = refl
    none_found (d ∷ ds) h = let other : (d.number == n) ≡ false = let more : n < d.number = h.0 in grind (arith, nat_tests) in rw other (none_found ds h.1)

-- it goes before all that are behind it
before_all : (conn : Conn) (test : Connection → Bool) (cs : List Connection) → Each (λ c. conn.number < c.number) cs → inserted_conn conn (conns_that test cs) ≡ conn ∷ conns_that test cs
before_all conn test [] h = refl
before_all conn test (c ∷ cs) h = by_test (test c) (before_all conn test cs h.1)
  where
    lower : nat_lt conn.number c.number ≡ true
    lower = let less : conn.number < c.number = h.0 in grind (arith, nat_tests)

    by_test : (b : Bool) → inserted_conn conn (conns_that test cs) ≡ conn ∷ conns_that test cs →
        inserted_conn conn (map conn_of (cond b (c ∷ filter test cs) (filter test cs))) ≡ conn ∷ map conn_of (cond b (c ∷ filter test cs) (filter test cs))
    by_test true others = rw lower refl
    by_test false others = others

-- what is found behind a connection has a higher number
behind : (n k : ℕ) (c : Connection) (xs : List Connection) → Each (λ x. k < x.number) xs → find (λ x. x.number == n) xs ≡ Some c → k < c.number
behind n k c [] h found = cc
behind n k c (x ∷ xs) h found = by_found (x.number == n) found (λ f. behind n k c xs h.1 f)
  where
    by_found : (b : Bool) → cond b (Some x) (find (λ y. y.number == n) xs) ≡ Some c → (find (λ y. y.number == n) xs ≡ Some c → k < c.number) → k < c.number
    by_found true f others = let same : x ≡ c = cc in rw (← same) h.0
    by_found false f others = others f

-- a monitor that is shown a message stands among the others by its number
pub watched_with : (heads : Heads) (facts : Facts) (n : ℕ) (rules : List Rule) (cs : List Connection) (c : Connection) → Pairwise (λ a b. a.number < b.number) cs →
    find (λ d. d.number == n) cs ≡ Some c → watched heads facts rules ≡ true → inserted_conn (conn_of c) (shown_but heads facts n cs) ≡ shown_with heads facts n rules cs
watched_with heads facts n rules [] c rise e fits = cc
watched_with heads facts n rules (d ∷ cs) c rise e fits = by_test (d.number == n) refl e (λ found. watched_with heads facts n rules cs c rise.1 found fits)
  where
    its : Connection
    its = record d { monitor = Some rules }

    at_its : d.number ≡ n → d ≡ c → inserted_conn (conn_of c) (shown_but heads facts n cs) ≡ conn_of its ∷ shown_with heads facts n rules cs
    at_its at same =
        let above : Each (λ x. n < x.number) cs = rw (← at) rise.0 in
        ap (λ x. inserted_conn (conn_of x) (shown_but heads facts n cs)) (sym same)
        ∙ before_all (conn_of d) (λ x. stays (Some n) x.number && watches_by heads facts x) cs rise.0
        ∙ ap (λ rest. conn_of d ∷ rest) (same_behind heads facts n rules cs above)

    by_watch : (b : Bool) → d.number < c.number → inserted_conn (conn_of c) (shown_but heads facts n cs) ≡ shown_with heads facts n rules cs →
        inserted_conn (conn_of c) (map conn_of (cond b (d ∷ filter (λ x. stays (Some n) x.number && watches_by heads facts x) cs) (filter (λ x. stays (Some n) x.number && watches_by heads facts x) cs)))
        ≡ map conn_of (cond b (d ∷ filter (watches_by heads facts) (map (monitor_if n rules) cs)) (filter (watches_by heads facts) (map (monitor_if n rules) cs)))
    by_watch true lower others = let higher : nat_lt c.number d.number ≡ false = grind (arith, nat_tests) in rw higher (ap (λ rest. conn_of d ∷ rest) others)
    by_watch false lower others = others

    by_test : (a : Bool) → (d.number == n) ≡ a → cond a (Some d) (find (λ x. x.number == n) cs) ≡ Some c →
        (find (λ x. x.number == n) cs ≡ Some c → inserted_conn (conn_of c) (shown_but heads facts n cs) ≡ shown_with heads facts n rules cs) →
        inserted_conn (conn_of c) (shown_but heads facts n (d ∷ cs)) ≡ shown_with heads facts n rules (d ∷ cs)
    by_test true is found others =
        let at : d.number ≡ n = grind (arith, nat_tests) in
        let same : d ≡ c = cc in
        rw (is, fits) (at_its at same)
    by_test false is found others = rw is (by_watch (watches_by heads facts d) (behind n d.number c cs rise.0 found) (others found))

-- ## The connection

pub found_at : (o : Option Connection) (conn : Conn) → ◌≡◌ {A = Option Conn} (Some conn) (option_map conn_of o) → (c : Connection) × (o ≡ Some c) × (conn_of c ≡ conn)
found_at None conn e = absurd (never e)
  where
    never : ◌≡◌ {A = Option Conn} (Some conn) None → ⊥
    never is = cc
found_at (Some c) conn e = (c, refl, cc)

pub found_nowhere : (o : Option Connection) → ◌≡◌ {A = Option Conn} None (option_map conn_of o) → ◌≡◌ {A = Option Connection} o None
found_nowhere None e = refl
found_nowhere (Some c) e = absurd (never e)
  where
    never : ◌≡◌ {A = Option Conn} None (Some (conn_of c)) → ⊥
    never is = cc

-- ## A client

-- a client is shown nothing that it does not want, so it may be left out of those that watch
pub client_out : (heads : Heads) (facts : Facts) (n : ℕ) (cs : List Connection) → Pairwise (λ a b. a.number < b.number) cs → is_client cs n ≡ true →
    conns_that (watches_by heads facts) cs ≡ shown_but heads facts n cs
client_out heads facts n [] rise client = refl
client_out heads facts n (c ∷ cs) rise client = by_test (c.number == n) refl client (λ is. client_out heads facts n cs rise.1 is)
  where
    plain : (xs : List Connection) → Each (λ x. n < x.number) xs → conns_that (watches_by heads facts) xs ≡ shown_but heads facts n xs
    plain xs h = ap (map conn_of) (alike xs h)
      where
        alike : (ys : List Connection) → Each (λ y. n < y.number) ys → filter (watches_by heads facts) ys ≡ filter (λ y. stays (Some n) y.number && watches_by heads facts y) ys
        alike [] k = refl
        alike (y ∷ ys) k = let other : (y.number == n) ≡ false = let more : n < y.number = k.0 in grind (arith, nat_tests) in rw other (ap (λ rest. cond (watches_by heads facts y) (y ∷ rest) rest) (alike ys k.1))

    unwatching : (o : Option (List Rule)) → (not (is_some o) || false) ≡ true → option_map_or (watched heads facts) o false ≡ false
    unwatching None e = refl
    unwatching (Some rules) e = cc

    at_it : c.number ≡ n → (not (is_monitor c) || is_client cs n) ≡ true → conns_that (watches_by heads facts) (c ∷ cs) ≡ shown_but heads facts n cs
    at_it at is =
        let above : Each (λ x. n < x.number) cs = rw (← at) rise.0 in
        let fails : watches_by heads facts c ≡ false = unwatching c.monitor (ap (λ b. not (is_monitor c) || b) (sym (none_above n cs above)) ∙ is) in
        ap (λ b. map conn_of (cond b (c ∷ filter (watches_by heads facts) cs) (filter (watches_by heads facts) cs))) fails ∙ plain cs above

    by_watch : (b : Bool) → conns_that (watches_by heads facts) cs ≡ shown_but heads facts n cs →
        map conn_of (cond b (c ∷ filter (watches_by heads facts) cs) (filter (watches_by heads facts) cs))
        ≡ map conn_of (cond b (c ∷ filter (λ x. stays (Some n) x.number && watches_by heads facts x) cs) (filter (λ x. stays (Some n) x.number && watches_by heads facts x) cs))
    by_watch true others = ap (λ rest. conn_of c ∷ rest) others
    by_watch false others = others

    by_test : (a : Bool) → (c.number == n) ≡ a → ((a && not (is_monitor c)) || is_client cs n) ≡ true →
        (is_client cs n ≡ true → conns_that (watches_by heads facts) cs ≡ shown_but heads facts n cs) → conns_that (watches_by heads facts) (c ∷ cs) ≡ shown_but heads facts n (c ∷ cs)
    by_test true is client others = let at : c.number ≡ n = grind (arith, nat_tests) in rw is (at_it at client)
    by_test false is client others = rw is (by_watch (watches_by heads facts c) (others client))

-- a client is the connection of its number
pub client_found : (n : ℕ) (cs : List Connection) (c : Connection) → Pairwise (λ a b. a.number < b.number) cs → find (λ d. (d.number == n) && not (is_monitor d)) cs ≡ Some c →
    (find (λ d. d.number == n) cs ≡ Some c) × (c.number ≡ n)
client_found n [] c rise e = cc
client_found n (d ∷ cs) c rise e = by_tests (d.number == n) refl (is_monitor d) e (λ f. client_found n cs c rise.1 f)
  where
    nobody : (xs : List Connection) → Each (λ x. n < x.number) xs → find (λ x. (x.number == n) && not (is_monitor x)) xs ≡ Some c → ⊥
    nobody [] h f = cc
    nobody (x ∷ xs) h f = nobody xs h.1 (sym (ap (λ b. cond (b && not (is_monitor x)) (Some x) (find (λ y. (y.number == n) && not (is_monitor y)) xs)) other) ∙ f)
      where
        other : (x.number == n) ≡ false
        other = let more : n < x.number = h.0 in grind (arith, nat_tests)

    by_tests : (a : Bool) → (d.number == n) ≡ a → (m : Bool) → cond (a && not m) (Some d) (find (λ x. (x.number == n) && not (is_monitor x)) cs) ≡ Some c →
        (find (λ x. (x.number == n) && not (is_monitor x)) cs ≡ Some c → (find (λ x. x.number == n) cs ≡ Some c) × (c.number ≡ n)) →
        (cond (d.number == n) (Some d) (find (λ x. x.number == n) cs) ≡ Some c) × (c.number ≡ n)
    by_tests true is false f others =
        let at : d.number ≡ n = grind (arith, nat_tests) in
        let same : d ≡ c = cc in
        (rw is f, rw (← same) at)
    by_tests true is true f others =
        let at : d.number ≡ n = grind (arith, nat_tests) in
        absurd (nobody cs (rw (← at) rise.0) f)
    by_tests false is m f others = rw is (others f)

-- ## The step

pub monitor_step : (s : BusState) (seat n : ℕ) (rules : List Rule) → IsConsistent s →
    step s seat (BecomeMonitor n rules)
    ≡ (if not (is_client s.connections n) then unchanged s Gone
    else if is_privileged s n then announced (with_monitor s n rules) Done (signals_of_monitor s n)
    else unchanged s AccessDenied)
monitor_step s seat n rules h =
    by_found (client_of s n) refl
    ∙ ap (λ b. if not b then unchanged s Gone else if is_privileged s n then announced (with_monitor s n rules) Done (signals_of_monitor s n) else unchanged s AccessDenied)
    (some_found (λ c. (c.number == n) && not (is_monitor c)) s.connections)
  where
    made : Bool → ℕ → Stepped
    made privileged number = if privileged then announced (with_monitor s number rules) Done (signals_of_monitor s number) else unchanged s AccessDenied

    by_found : (o : Option Connection) → client_of s n ≡ o →
        for_client s o (λ c. become_monitor s c rules) ≡ (if not (is_some o) then unchanged s Gone else made (is_privileged s n) n)
    by_found None e = refl
    by_found (Some c) e =
        let is = client_found n s.connections c h.connections_rise e in
        ap (made c.privileged) is.1 ∙ ap (λ (o : Option Connection). made (option_map_or (λ d. d.privileged) o false) n) (sym is.0)

pub monitor_made : (s : BusState) (seat n : ℕ) (rules : List Rule) → IsConsistent s → reply_to_monitor s n ≡ Done → step s seat (BecomeMonitor n rules) ≡ announced (with_monitor s n rules) Done (signals_of_monitor s n)
monitor_made s seat n rules h e = monitor_step s seat n rules h ∙ by_tests (is_client s.connections n) (is_privileged s n) e
  where
    by_tests : (client privileged : Bool) → (if not client then Gone else if privileged then Done else AccessDenied) ≡ Done →
        (if not client then unchanged s Gone else if privileged then announced (with_monitor s n rules) Done (signals_of_monitor s n) else unchanged s AccessDenied) ≡ announced (with_monitor s n rules) Done (signals_of_monitor s n)
    by_tests true true k = refl
    by_tests true false k = cc
    by_tests false privileged k = cc

pub monitor_not_made : (s : BusState) (seat n : ℕ) (rules : List Rule) → IsConsistent s → (reply_to_monitor s n ≡ Done → ⊥) → step s seat (BecomeMonitor n rules) ≡ unchanged s (reply_to_monitor s n)
monitor_not_made s seat n rules h other = monitor_step s seat n rules h ∙ by_tests (is_client s.connections n) (is_privileged s n) other
  where
    by_tests : (client privileged : Bool) → ((if not client then Gone else if privileged then Done else AccessDenied) ≡ Done → ⊥) →
        (if not client then unchanged s Gone else if privileged then announced (with_monitor s n rules) Done (signals_of_monitor s n) else unchanged s AccessDenied)
        ≡ unchanged s (if not client then Gone else if privileged then Done else AccessDenied)
    by_tests true true k = absurd (k refl)
    by_tests true false k = refl
    by_tests false privileged k = refl

-- who may become a monitor is a client
pub was_client : (s : BusState) (n : ℕ) → reply_to_monitor s n ≡ Done → is_client s.connections n ≡ true
was_client s n e = by_test (is_client s.connections n) e
  where
    by_test : (client : Bool) → (if not client then Gone else if is_privileged s n then Done else AccessDenied) ≡ Done → client ≡ true
    by_test true k = refl
    by_test false k = cc
