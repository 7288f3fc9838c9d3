-- Lists of names, and how many they have.
use Rattle.std.proofs.Common.{◌≡◌, ◌+◌, ◌≤◌, Bool, true, false, not, cond, Some, None, List, [], ◌∷◌, ◌++◌, filter, map, flat_map, length, length-append, refl, ap, arith, if◌then◌else◌}
use Rattle.std.specs.List.{list_all}
use Rattle.std.proofs.lemmas.List.{length-map}
use Rattle.names.specs.Texts.{Text}
use Rattle.names.specs.BusName.{bus_text}
use Rattle.names.specs.UniqueName.{unique_text}
use Rattle.owner_queues.specs.Queues.{IsQueue}
use Rattle.owner_queues.specs.declared.owner.QueuedOwner.{QueuedOwner}
use Rattle.seq_bus_core.specs.Answers.{names_there}
use Rattle.seq_bus_core.specs.BusState.{BusState, Connection, OwnedName, is_client, is_monitor, max_connections, queue_of}
use Rattle.seq_bus_core.specs.Consistency.{IsConsistent, IsOwned, IsWithinLimits}
use Rattle.seq_bus_core.specs.Histories.{max_services}
use Rattle.seq_bus_core.proofs.Lists.{each_weaker}
use Rattle.seq_bus_core.proofs.OwnedLemmas.{queue_of_each}
use Rattle.registry_core.specs.ConnectionTables.{entry_of}
use Rattle.registry_core.specs.declared.connection_entry.ConnectionEntry.{ConnectionEntry}
use Rattle.registry_core.proofs.ConnectionTableLemmas.{few_others}
use Rattle.registry.specs.NamesListed.{only, names_in}
use Rattle.registry.specs.declared.listed.NamesOf.{NamesOf}
use Rattle.registry.specs.declared.listed.NamesOf.TheVariants.{All, Services, Bus, Client, Queued}
use Rattle.registry.proofs.QueueLemmas.{places}

-- ## How many

few_there : (s : BusState) → IsWithinLimits s → length (bus_text ∷ names_there s) ≤ 2048
few_there s within =
    let clients : List Connection = filter (λ c. not (is_monitor c)) s.connections in
    let unique : Connection → Text = λ c. unique_text c.number in
    let named : OwnedName → Text = λ n. n.name in
    let whole : length (map unique clients ++ map named s.names) ≡ length (map unique clients) + length (map named s.names) = length-append (map unique clients) (map named s.names) in
    let front : length (map unique clients) ≡ length clients = length-map clients unique in
    let back : length (map named s.names) ≡ length s.names = length-map s.names named in
    let few : length clients ≤ length s.connections = few_others (λ (c : Connection). not (is_monitor c)) s.connections in
    omega (arith, whole, front, back, few, within.connections, within.names)

-- a queue has no more places than there are connections
few_in_queue : (s : BusState) (name : Text) → IsConsistent s → IsWithinLimits s → length (queue_of s.names name) ≤ max_connections
few_in_queue s name consistent within =
    let held = queue_of_each (λ q. IsQueue q × (list_all (λ o. is_client s.connections o.connection) q ≡ true)) (tt, refl) s.names name
    (each_weaker (IsOwned s.connections) (λ n. IsQueue n.queue × (list_all (λ o. is_client s.connections o.connection) n.queue ≡ true)) (λ n owned. (owned.once, owned.clients)) s.names consistent.names_owned) in
    let taken = places s.connections (queue_of s.names name) held.0 held.1 in
    omega (arith, taken, within.connections)

pub few_in : (s : BusState) (list : NamesOf) → IsConsistent s → IsWithinLimits s → length s.services ≤ max_services → length (names_in s list) ≤ 2048
few_in s All consistent within few = few_there s within
few_in s Services consistent within few = omega (arith, few)
few_in s Bus consistent within few = omega arith
few_in s (Client number) consistent within few = omega arith
few_in s (Queued name) consistent within few =
    let count = length-map (queue_of s.names name) (λ (q : QueuedOwner). unique_text q.connection) in
    omega (arith, count, few_in_queue s name consistent within)

-- ## What they have

pub all_listed : {X : Type 0} (text : X → Text) (xs : List X) → flat_map (λ x. only (Some (text x))) xs ≡ map text xs
all_listed text [] = refl
all_listed text (x ∷ xs) = ap (λ rest. text x ∷ rest) (all_listed text xs)

pub same_listed : (texts : List Text) → flat_map (λ text. only (Some text)) texts ≡ texts
same_listed [] = refl
same_listed (text ∷ texts) = ap (λ rest. text ∷ rest) (same_listed texts)

-- the unique names of the connections that are no monitors
pub clients_listed : (cs : List Connection)
    → flat_map (λ m. only (if m.is_monitor then None else Some (unique_text m.conn.number))) (map entry_of cs)
    ≡ map (λ c. unique_text c.number) (filter (λ c. not (is_monitor c)) cs)
clients_listed [] = refl
clients_listed (c ∷ cs) = by_test (is_monitor c) (clients_listed cs)
  where
    by_test : (b : Bool)
        → flat_map (λ (m : ConnectionEntry). only (if m.is_monitor then None else Some (unique_text m.conn.number))) (map entry_of cs)
        ≡ map (λ (d : Connection). unique_text d.number) (filter (λ d. not (is_monitor d)) cs)
        → only (if b then None else Some (unique_text c.number)) ++ flat_map (λ (m : ConnectionEntry). only (if m.is_monitor then None else Some (unique_text m.conn.number))) (map entry_of cs)
        ≡ map (λ (d : Connection). unique_text d.number) (cond (not b) (c ∷ filter (λ d. not (is_monitor d)) cs) (filter (λ d. not (is_monitor d)) cs))
    by_test true rest = rest
    by_test false rest = ap (λ names. unique_text c.number ∷ names) rest

-- the names of entries of a table
pub owned_listed : {X : Type 0} (text : X → Text) (owned : X → OwnedName) (entries : List X) → ((x : X) → text x ≡ (owned x).name)
    → flat_map (λ x. only (Some (text x))) entries ≡ map (λ n. n.name) (map owned entries)
owned_listed text owned [] same = refl
owned_listed text owned (x ∷ entries) same = λ i. same x i ∷ owned_listed text owned entries same i
