-- What a Leave does.
use Rattle.std.proofs.Common.{◌≡◌, ℕ, ◌<◌, ◌==◌, Bool, true, false, cond, not, ◌&&◌, ◌||◌, Option, Some, None, is_some, List, [], ◌∷◌, ◌++◌, map, filter, flat_map, refl, sym, ap, ◌∙◌, arith, if◌then◌else◌}
use Rattle.std.specs.List.{AllByRecursion as Each, find, list_any}
use Rattle.std.proofs.lemmas.Bool.{or_parts, true≢false}
use Rattle.std.proofs.lemmas.List.{map-append}
use Rattle.std.proofs.lemmas.Bool.Decides.{nat_tests}
use Rattle.owner_queues.specs.Queues.{Queue, is_in, queue_head}
use Rattle.match_rules.specs.Facts.{Facts}
use Rattle.match_rules.specs.Fitting.{Heads, fits}
use Rattle.match_rules.specs.OwnedRules.{OwnedRule, rules_without, has_fitting}
use Rattle.seq_bus_core.specs.BusState.{BusState, Connection, OwnedName, conn_of, connection_of, head_of, is_client, is_monitor}
use Rattle.seq_bus_core.specs.Consistency.{IsConsistent, Pairwise}
use Rattle.seq_bus_core.specs.Recipients.{all_that_want, monitors_shown, conns_that, wants_by, watches_by}
use Rattle.seq_bus_core.specs.Steps.{addressed, is_owner, leave, names_owned, signals_of_leave, step, without_connection}
use Rattle.seq_bus_core.specs.declared.change.Change.TheVariants.{Leave}
use Rattle.seq_bus_core.specs.declared.outcome.Reply.TheVariants.{Done, Gone}
use Rattle.seq_bus_core.specs.declared.signal.BusSignal.{BusSignal}
use Rattle.registry_core.specs.Listening.{stays}
use Rattle.registry_core.proofs.ConnectionEntries.{filter_alike}
use Rattle.registry.specs.Departures.{signals_of_name, told_of_name}
use Rattle.registry.specs.declared.leave.Departure.{Departure}

-- ## The connection that leaves

pub none_above : (n : ℕ) (cs : List Connection) → Each (λ c. n < c.number) cs → is_client cs n ≡ false
none_above n [] h = refl
none_above n (c ∷ cs) h = let other : (c.number == n) ≡ false = grind (arith, nat_tests) in rw other (none_above n cs h.1)

pub client_found : (n : ℕ) (cs : List Connection) (c : Connection) → Pairwise (λ a b. a.number < b.number) cs → find (λ d. d.number == n) cs ≡ Some c → is_client cs n ≡ not (is_monitor c)
client_found n [] c h e = cc
client_found n (d ∷ cs) c h e = by_test (d.number == n) refl (λ found. client_found n cs c h.1 found) e
  where
    or_false : (b t : Bool) → t ≡ false → (b || t) ≡ b
    or_false true t k = refl
    or_false false t k = k

    here : (d.number == n) ≡ true → is_client cs n ≡ false
    here same = let at : d.number ≡ n = grind (arith, nat_tests) in rw (← at) (none_above d.number cs h.0)

    by_test : (b : Bool) → (d.number == n) ≡ b → (find (λ m. m.number == n) cs ≡ Some c → is_client cs n ≡ not (is_monitor c)) → cond b (Some d) (find (λ m. m.number == n) cs) ≡ Some c →
        is_client (d ∷ cs) n ≡ not (is_monitor c)
    by_test true is others found = let same : d ≡ c = cc in rw is (or_false (not (is_monitor d)) (is_client cs n) (here is) ∙ ap (λ m. not (is_monitor m)) same)
    by_test false is others found = rw is (others found)

pub leave_gone : (s : BusState) (seat n : ℕ) → is_some (connection_of s n) ≡ false → ((step s seat (Leave n)).0 ≡ s) × ((step s seat (Leave n)).1 ≡ record { reply = Gone; signals = []; tickets = []; start = None })
leave_gone s seat n absent = by_found (connection_of s n) absent
  where
    by_found : (o : Option Connection) → is_some o ≡ false → ((leave s n o).0 ≡ s) × ((leave s n o).1 ≡ record { reply = Gone; signals = []; tickets = []; start = None })
    by_found None e = (refl, refl)
    by_found (Some c) e = cc

pub leave_state : (s : BusState) (seat n : ℕ) → is_some (connection_of s n) ≡ true → (step s seat (Leave n)).0 ≡ without_connection s n
leave_state s seat n present = by_found (connection_of s n) present
  where
    by_found : (o : Option Connection) → is_some o ≡ true → (leave s n o).0 ≡ without_connection s n
    by_found None e = cc
    by_found (Some c) e = refl

-- ## Heads

pub client_left : (cs : List Connection) (n m : ℕ) → is_client (filter (λ c. not (c.number == n)) cs) m ≡ (not (m == n) && is_client cs m)
client_left [] n m = and_false (not (m == n))
  where
    and_false : (b : Bool) → false ≡ (b && false)
    and_false true = refl
    and_false false = refl
client_left (c ∷ cs) n m = by_tests (c.number == n) (c.number == m) (m == n) refl refl refl (client_left cs n m)
  where
    never : (c.number == n) ≡ true → (c.number == m) ≡ true → (m == n) ≡ false → ⊥
    never a b d = grind (arith, nat_tests)

    never_other : (c.number == n) ≡ false → (c.number == m) ≡ true → (m == n) ≡ true → ⊥
    never_other a b d = grind (arith, nat_tests)

    by_tests : (a b d : Bool) → (c.number == n) ≡ a → (c.number == m) ≡ b → (m == n) ≡ d → is_client (filter (λ k. not (k.number == n)) cs) m ≡ (not (m == n) && is_client cs m) →
        is_client (filter (λ k. not (k.number == n)) (c ∷ cs)) m ≡ (not (m == n) && is_client (c ∷ cs) m)
    by_tests true true true x y z others = rw (x, z) (others ∙ rw z refl)
    by_tests true true false x y z others = absurd (never x y z)
    by_tests true false d x y z others = rw (x, y) others
    by_tests false true true x y z others = absurd (never_other x y z)
    by_tests false true false x y z others = rw (x, y, z) (ap (λ t. not (is_monitor c) || t) (others ∙ rw z refl))
    by_tests false false d x y z others = rw (x, y) others

-- ## The signal

filter_twice : {X : Type 0} (keep test : X → Bool) (xs : List X) → filter test (filter keep xs) ≡ filter (λ x. keep x && test x) xs
filter_twice keep test [] = refl
filter_twice keep test (x ∷ xs) = by_test (keep x) (filter_twice keep test xs)
  where
    by_test : (b : Bool) → filter test (filter keep xs) ≡ filter (λ y. keep y && test y) xs →
        filter test (cond b (x ∷ filter keep xs) (filter keep xs)) ≡ cond (b && test x) (x ∷ filter (λ y. keep y && test y) xs) (filter (λ y. keep y && test y) xs)
    by_test true others = ap (λ rest. cond (test x) (x ∷ rest) rest) others
    by_test false others = others

pub fits_other : (heads : Heads) (facts : Facts) (k n : ℕ) (rules : List OwnedRule) → (k == n) ≡ false → has_fitting heads (rules_without n rules) facts k ≡ has_fitting heads rules facts k
fits_other heads facts k n [] other = refl
fits_other heads facts k n (r ∷ rules) other = by_test (r.connection == n) refl (fits_other heads facts k n rules other)
  where
    not_its : (r.connection == n) ≡ true → (r.connection == k) ≡ false
    not_its same = grind (arith, nat_tests)

    by_test : (b : Bool) → (r.connection == n) ≡ b → has_fitting heads (rules_without n rules) facts k ≡ has_fitting heads rules facts k →
        has_fitting heads (rules_without n (r ∷ rules)) facts k ≡ has_fitting heads (r ∷ rules) facts k
    by_test true is others = rw (is, not_its is) others
    by_test false is others = rw is (ap (λ rest. ((r.connection == k) && fits heads r.rule facts) || rest) others)

pub left_want : (s : BusState) (n : ℕ) (facts : Facts) →
    all_that_want (without_connection s n) facts ≡ conns_that (λ c. stays (Some n) c.number && wants_by (head_of (without_connection s n)) s.rules facts c) s.connections
left_want s n facts =
    let heads = head_of (without_connection s n) in
    ap (map conn_of) (filter_twice (λ c. not (c.number == n)) (wants_by heads (rules_without n s.rules) facts) s.connections
    ∙ filter_alike (λ c. not (c.number == n) && wants_by heads (rules_without n s.rules) facts c) (λ c. not (c.number == n) && wants_by heads s.rules facts c) s.connections (λ c. by_test heads c (c.number == n) refl))
  where
    by_test : (heads : Heads) (c : Connection) (b : Bool) → (c.number == n) ≡ b →
        (not (c.number == n) && wants_by heads (rules_without n s.rules) facts c) ≡ (not (c.number == n) && wants_by heads s.rules facts c)
    by_test heads c true is = rw is refl
    by_test heads c false is = rw is (ap (λ f. not (is_monitor c) && f) (fits_other heads facts c.number n s.rules is))

pub left_shown : (s : BusState) (n : ℕ) (facts : Facts) →
    monitors_shown (without_connection s n) facts ≡ conns_that (λ c. stays (Some n) c.number && watches_by (head_of (without_connection s n)) facts c) s.connections
left_shown s n facts =
    ap (map conn_of) (filter_twice (λ c. not (c.number == n)) (watches_by (head_of (without_connection s n)) facts) s.connections)

-- no monitor comes by a Leave
pub left_unwatched : (n : ℕ) (cs : List Connection) → list_any is_monitor cs ≡ false → list_any is_monitor (filter (λ c. not (c.number == n)) cs) ≡ false
left_unwatched n [] none = refl
left_unwatched n (c ∷ cs) none = by_tests (c.number == n) (is_monitor c) refl none (λ others. left_unwatched n cs others)
  where
    those : List Connection
    those = filter (λ d. not (d.number == n)) cs

    by_tests : (a m : Bool) → is_monitor c ≡ m → (m || list_any is_monitor cs) ≡ false → (list_any is_monitor cs ≡ false → list_any is_monitor those ≡ false) → list_any is_monitor (cond (not a) (c ∷ those) those) ≡ false
    by_tests a true is e others = absurd (true≢false e)
    by_tests true false is e others = others e
    by_tests false false is e others = rw is (others e)

-- ## The connection of a number

pub conn_left : (cs : List Connection) (n k : ℕ) → (k == n) ≡ false → filter (λ c. c.number == k) (filter (λ c. not (c.number == n)) cs) ≡ filter (λ c. c.number == k) cs
conn_left cs n k other =
    filter_twice (λ c. not (c.number == n)) (λ c. c.number == k) cs
    ∙ filter_alike (λ c. not (c.number == n) && (c.number == k)) (λ c. c.number == k) cs (λ c. by_test c (c.number == k) refl)
  where
    by_test : (c : Connection) (b : Bool) → (c.number == k) ≡ b → (not (c.number == n) && (c.number == k)) ≡ (c.number == k)
    by_test c true e = let differs : (c.number == n) ≡ false = grind (arith, nat_tests) in rw differs refl
    by_test c false e = rw e (and_false (not (c.number == n)))
      where
        and_false : (b : Bool) → (b && false) ≡ false
        and_false true = refl
        and_false false = refl

pub none_left : (cs : List Connection) (n k : ℕ) → (n == k) ≡ true → filter (λ c. c.number == k) (filter (λ c. not (c.number == n)) cs) ≡ []
none_left cs n k same =
    filter_twice (λ c. not (c.number == n)) (λ c. c.number == k) cs
    ∙ filter_alike (λ c. not (c.number == n) && (c.number == k)) (λ c. false) cs (λ c. by_test c (c.number == n) refl) ∙ filter_none cs
  where
    by_test : (c : Connection) (b : Bool) → (c.number == n) ≡ b → (not (c.number == n) && (c.number == k)) ≡ false
    by_test c true e = rw e refl
    by_test c false e = let other : (c.number == k) ≡ false = grind (arith, nat_tests) in rw (e, other) refl

    filter_none : (ds : List Connection) → filter (λ d. false) ds ≡ []
    filter_none [] = refl
    filter_none (d ∷ ds) = filter_none ds

-- ## The signals

-- what a Leave of a client is told
pub leave_told : (s : BusState) (seat n : ℕ) → IsConsistent s → is_client s.connections n ≡ true → is_some (connection_of s n) ≡ true →
    (step s seat (Leave n)).1 ≡ record { reply = Done; signals = map (addressed (without_connection s n)) (signals_of_leave s n); tickets = []; start = None }
leave_told s seat n h client present = by_found (connection_of s n) refl present
  where
    signals_if : Bool → List BusSignal
    signals_if monitor = if monitor then [] else signals_of_leave s n

    by_found : (o : Option Connection) → connection_of s n ≡ o → is_some o ≡ true →
        (leave s n o).1 ≡ record { reply = Done; signals = map (addressed (without_connection s n)) (signals_of_leave s n); tickets = []; start = None }
    by_found None e present = cc
    by_found (Some c) e present =
        ap (λ b. record { reply = Done; signals = map (addressed (without_connection s n)) (signals_if b); tickets = []; start = None }) (not_monitor (is_monitor c) (sym client ∙ client_found n s.connections c h.connections_rise e))
      where
        not_monitor : (b : Bool) → true ≡ not b → b ≡ false
        not_monitor true k = cc
        not_monitor false k = refl

pub leave_of_monitor : (s : BusState) (seat n : ℕ) → IsConsistent s → is_client s.connections n ≡ false → is_some (connection_of s n) ≡ true →
    (step s seat (Leave n)).1 ≡ record { reply = Done; signals = []; tickets = []; start = None }
leave_of_monitor s seat n h other present = by_found (connection_of s n) refl present
  where
    monitor : (b : Bool) → false ≡ not b → b ≡ true
    monitor true k = refl
    monitor false k = cc

    signals_if : Bool → List BusSignal
    signals_if m = if m then [] else signals_of_leave s n

    by_found : (o : Option Connection) → connection_of s n ≡ o → is_some o ≡ true → (leave s n o).1 ≡ record { reply = Done; signals = []; tickets = []; start = None }
    by_found None e present = cc
    by_found (Some c) e present =
        ap (λ b. record { reply = Done; signals = map (addressed (without_connection s n)) (signals_if b); tickets = []; start = None }) (monitor (is_monitor c) (sym other ∙ client_found n s.connections c h.connections_rise e))

-- ## The names of the connection

-- no signal tells of a name that the connection does not own
not_owned : (s : BusState) (departure : Departure) (c : ℕ) (n : OwnedName) → is_in c n.queue ≡ false → told_of_name s departure c n ≡ []
not_owned s departure c n absent = by_queue n.queue absent
  where
    by_queue : (q : Queue) → is_in c q ≡ false → (if is_owner (queue_head q) (Some c) then map (addressed s) (signals_of_name departure c n) else []) ≡ []
    by_queue [] e = refl
    by_queue (o ∷ os) e = let other : (o.connection == c) ≡ false = (or_parts (o.connection == c) (is_in c os) e).0 in rw other refl

told_all : (s : BusState) (departure : Departure) (c : ℕ) (names : List OwnedName) → flat_map (told_of_name s departure c) (filter (λ m. is_in c m.queue) names) ≡ flat_map (told_of_name s departure c) names
told_all s departure c [] = refl
told_all s departure c (n ∷ names) = by_test (is_in c n.queue) refl (told_all s departure c names)
  where
    by_test : (b : Bool) → is_in c n.queue ≡ b → flat_map (told_of_name s departure c) (filter (λ m. is_in c m.queue) names) ≡ flat_map (told_of_name s departure c) names →
        flat_map (told_of_name s departure c) (cond b (n ∷ filter (λ m. is_in c m.queue) names) (filter (λ m. is_in c m.queue) names)) ≡ flat_map (told_of_name s departure c) (n ∷ names)
    by_test true is others = ap (λ signals. told_of_name s departure c n ++ signals) others
    by_test false is others = others ∙ sym (ap (λ signals. signals ++ flat_map (told_of_name s departure c) names) (not_owned s departure c n is))

told_owned : (s : BusState) (departure : Departure) (c : ℕ) (names : List OwnedName) →
    flat_map (told_of_name s departure c) names ≡ map (addressed s) (flat_map (signals_of_name departure c) (names_owned c names))
told_owned s departure c [] = refl
told_owned s departure c (n ∷ names) = by_owner (is_owner (queue_head n.queue) (Some c)) (told_owned s departure c names)
  where
    by_owner : (b : Bool) → flat_map (told_of_name s departure c) names ≡ map (addressed s) (flat_map (signals_of_name departure c) (names_owned c names)) →
        (if b then map (addressed s) (signals_of_name departure c n) else []) ++ flat_map (told_of_name s departure c) names
        ≡ map (addressed s) (flat_map (signals_of_name departure c) (cond b (n ∷ names_owned c names) (names_owned c names)))
    by_owner true others =
        ap (λ rest. map (addressed s) (signals_of_name departure c n) ++ rest) others
        ∙ sym (map-append (addressed s) (signals_of_name departure c n) (flat_map (signals_of_name departure c) (names_owned c names)))
    by_owner false others = others

-- the names that the connection stands in, each asked whether it is its owner, give the signals of those that it owns
pub told_of_names : (s : BusState) (departure : Departure) (c : ℕ) (names : List OwnedName) →
    flat_map (told_of_name s departure c) (filter (λ m. is_in c m.queue) names) ≡ map (addressed s) (flat_map (signals_of_name departure c) (names_owned c names))
told_of_names s departure c names = told_all s departure c names ∙ told_owned s departure c names
