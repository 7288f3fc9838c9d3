-- Who listens to messages and signals, by the heads of names.
use Rattle.std.proofs.Common.{◌≡◌, ℕ, ◌<◌, ◌==◌, ◌&&◌, ◌||◌, not, Bool, true, false, cond, option_map, Option, Some, None, List, [], ◌∷◌, ◌++◌, is_some, map, filter, refl, sym, ap, ◌∙◌, append-nil, arith, if◌then◌else◌}
use Rattle.std.specs.List.{AllByRecursion as Each, list_any, find}
use Rattle.std.specs.Option.{option_map_or, option_to_list}
use Rattle.std.proofs.lemmas.Bool.{true≢false}
use Rattle.std.proofs.lemmas.Bool.Decides.{nat_tests}
use Rattle.match_rules.specs.Facts.{Facts}
use Rattle.match_rules.specs.Fitting.{Heads}
use Rattle.match_rules.specs.Rules.{Rule}
use Rattle.match_rules.specs.OwnedRules.{OwnedRule, has_fitting}
use Rattle.seq_bus_core.specs.BusState.{BusState, Connection, conn_of, connection_of, head_of, is_client, is_monitor}
use Rattle.seq_bus_core.specs.Consistency.{IsGiven, IsConsistent, Pairwise}
use Rattle.seq_bus_core.specs.Recipients.{all_that_want, conn_at, monitors_shown, watches, conns_that, wants_by, watched, watches_by}
use Rattle.seq_bus_core.specs.declared.connection.Conn.{Conn}
use Rattle.seq_bus_core.proofs.Lists.{any_having, any_map, each_weaker}
use Rattle.registry_core.specs.declared.connection_entry.ConnectionEntry.{ConnectionEntry}
use Rattle.registry_core.specs.Listening.{has_number, entry_wants, stays}
use Rattle.registry_core.specs.ConnectionTables.{entry_of}
use Rattle.match_index.proofs.Lists.{one_done}

-- ## Where there is no monitor

-- who watches is a monitor
plain_watches_nothing : (heads : Heads) (facts : Facts) (c : Connection) → is_monitor c ≡ false → watches_by heads facts c ≡ false
plain_watches_nothing heads facts c e = by_rules c.monitor e
  where
    by_rules : (o : Option (List Rule)) → is_some o ≡ false → option_map_or (watched heads facts) o false ≡ false
    by_rules None e = refl
    by_rules (Some rules) e = absurd (true≢false e)

pub nobody_watches : (heads : Heads) (facts : Facts) (cs : List Connection) → list_any is_monitor cs ≡ false → conns_that (watches_by heads facts) cs ≡ []
nobody_watches heads facts [] none = refl
nobody_watches heads facts (c ∷ cs) none = by_test (is_monitor c) refl none (λ others. nobody_watches heads facts cs others)
  where
    by_test : (m : Bool) → is_monitor c ≡ m → (m || list_any is_monitor cs) ≡ false → (list_any is_monitor cs ≡ false → conns_that (watches_by heads facts) cs ≡ []) → conns_that (watches_by heads facts) (c ∷ cs) ≡ []
    by_test true is e others = absurd (true≢false e)
    by_test false is e others = rw (plain_watches_nothing heads facts c is) (others e)

pub nobody_shown : (s : BusState) (facts : Facts) → list_any is_monitor s.connections ≡ false → monitors_shown s facts ≡ []
nobody_shown s facts none = nobody_watches (head_of s) facts s.connections none

-- ## Where there are no rules

pub nobody_wants : (s : BusState) (facts : Facts) → s.rules ≡ [] → all_that_want s facts ≡ []
nobody_wants s facts none = ap (λ rules. conns_that (wants_by (head_of s) rules facts) s.connections) none ∙ by_each s.connections
  where
    nothing : (c : Connection) → wants_by (head_of s) [] facts c ≡ false
    nothing c = by_test (is_monitor c)
      where
        by_test : (m : Bool) → (not m && false) ≡ false
        by_test true = refl
        by_test false = refl

    by_each : (cs : List Connection) → conns_that (wants_by (head_of s) [] facts) cs ≡ []
    by_each [] = refl
    by_each (c ∷ cs) = rw (nothing c) (by_each cs)

-- ## A connection that has just come

-- the rules are of connections that were given their numbers
pub rules_below : (s : BusState) → IsConsistent s → Each (λ r. r.connection < s.next_number) s.rules
rules_below s h =
    each_weaker (λ r. is_client s.connections r.connection ≡ true) (λ r. r.connection < s.next_number)
    (λ r is. any_having (IsGiven s.next_number) (λ c. (c.number == r.connection) && not (is_monitor c)) (r.connection < s.next_number) (λ c passes g. below c r passes g.given) s.connections is h.connections_given)
    s.rules h.rules_of_clients
  where
    both : (a b : Bool) → (a && b) ≡ true → a ≡ true
    both true b e = refl
    both false b e = e

    below : (c : Connection) (r : OwnedRule) → ((c.number == r.connection) && not (is_monitor c)) ≡ true → c.number < s.next_number → r.connection < s.next_number
    below c r passes given = let same : (c.number == r.connection) ≡ true = both (c.number == r.connection) (not (is_monitor c)) passes in grind (arith, nat_tests)

pub none_fits : (heads : Heads) (facts : Facts) (n : ℕ) (rules : List OwnedRule) → Each (λ r. r.connection < n) rules → has_fitting heads rules facts n ≡ false
none_fits heads facts n [] h = refl
none_fits heads facts n (r ∷ rules) h = let other : (r.connection == n) ≡ false = grind (arith, nat_tests) in rw other (none_fits heads facts n rules h.1)

pub push_none : (test : Connection → Bool) (cs : List Connection) (c : Connection) → test c ≡ false → conns_that test (cs ++ c ∷ []) ≡ conns_that test cs
push_none test cs c fails = one_done conn_of test cs c ∙ ap (λ b. conns_that test cs ++ (if b then conn_of c ∷ [] else [])) fails ∙ append-nil (conns_that test cs)

-- ## The connection of a number

none_of_number : (cs : List Connection) (n : ℕ) → Each (λ c. n < c.number) cs → filter (λ c. c.number == n) cs ≡ []
none_of_number [] n h = refl
none_of_number (c ∷ cs) n h = let other : (c.number == n) ≡ false = grind (arith, nat_tests) in rw other (none_of_number cs n h.1)

pub alone : (cs : List Connection) (n : ℕ) → Pairwise (λ a b. a.number < b.number) cs → filter (λ c. c.number == n) cs ≡ option_to_list (find (λ c. c.number == n) cs)
alone [] n h = refl
alone (c ∷ cs) n h = by_test (c.number == n) refl (alone cs n h.1)
  where
    equal : (c.number == n) ≡ true → c.number ≡ n
    equal e = grind (arith, nat_tests)

    by_test : (b : Bool) → (c.number == n) ≡ b → filter (λ d. d.number == n) cs ≡ option_to_list (find (λ d. d.number == n) cs) →
        cond b (c ∷ filter (λ d. d.number == n) cs) (filter (λ d. d.number == n) cs) ≡ option_to_list (cond b (Some c) (find (λ d. d.number == n) cs))
    by_test true e others = ap (λ rest. c ∷ rest) (ap (λ k. filter (λ d. d.number == k) cs) (sym (equal e)) ∙ none_of_number cs c.number h.0)
    by_test false e others = others

pub conn_at_is : (s : BusState) (n : ℕ) (o : Option Conn) → IsConsistent s → o ≡ option_map conn_of (connection_of s n) → option_to_list o ≡ conn_at s (Some n)
conn_at_is s n o h is = ap option_to_list is ∙ by_found (find (λ c. c.number == n) s.connections) ∙ ap (map conn_of) (sym (alone s.connections n h.connections_rise))
  where
    by_found : (found : Option Connection) → option_to_list (option_map conn_of found) ≡ map conn_of (option_to_list found)
    by_found None = refl
    by_found (Some c) = refl

-- ## In their table

pub entries_that_want : (heads : Heads) (rules : List OwnedRule) (facts : Facts) (leaver : Option ℕ) (cs : List Connection) →
    map (λ m. m.conn) (filter (λ m. stays leaver m.conn.number && entry_wants heads rules facts m) (map entry_of cs))
    ≡ conns_that (λ c. stays leaver c.number && wants_by heads rules facts c) cs
entries_that_want heads rules facts leaver [] = refl
entries_that_want heads rules facts leaver (c ∷ cs) = by_test (stays leaver c.number && wants_by heads rules facts c) (entries_that_want heads rules facts leaver cs)
  where
    others : List ConnectionEntry
    others = filter (λ m. stays leaver m.conn.number && entry_wants heads rules facts m) (map entry_of cs)

    by_test : (b : Bool) → map (λ (m : ConnectionEntry). m.conn) others ≡ conns_that (λ d. stays leaver d.number && wants_by heads rules facts d) cs →
        map (λ (m : ConnectionEntry). m.conn) (cond b (entry_of c ∷ others) others)
        ≡ map conn_of (cond b (c ∷ filter (λ d. stays leaver d.number && wants_by heads rules facts d) cs) (filter (λ d. stays leaver d.number && wants_by heads rules facts d) cs))
    by_test true rest = ap (λ conns. conn_of c ∷ conns) rest
    by_test false rest = rest

-- each rule is of a connection that stands there
pub rules_owned : (s : BusState) → IsConsistent s → Each (λ r. has_number (map entry_of s.connections) r.connection ≡ true) s.rules
rules_owned s h = each_weaker (λ (r : OwnedRule). is_client s.connections r.connection ≡ true) (λ (r : OwnedRule). has_number (map entry_of s.connections) r.connection ≡ true) (λ r is. there r.connection s.connections is) s.rules h.rules_of_clients
  where
    there : (n : ℕ) (cs : List Connection) → is_client cs n ≡ true → has_number (map entry_of cs) n ≡ true
    there n cs is = any_map (λ c. (c.number == n) && not (is_monitor c)) (λ m. m.conn.number == n) entry_of (λ c both. first (c.number == n) (not (is_monitor c)) both) cs is
      where
        first : (a b : Bool) → (a && b) ≡ true → a ≡ true
        first true b e = refl
        first false b e = e
