-- What holds of the state of every bus.
use Rattle.std.specs.Prelude.{◌≡◌, ◌≢◌, ℕ, ◌+◌, ◌<◌, ◌≤◌, true, false, ◌==◌, IsSome, List, [], ◌∷◌, length}
use Rattle.std.specs.List.{AllByRecursion as Each, list_all, list_any}
pub use Rattle.match_rules.specs.Lists.{Pairwise}
use Rattle.names.specs.Texts.{text_eq, text_lt}
use Rattle.match_rules.specs.OwnedRules.{count_of}
use Rattle.owner_queues.specs.Queues.{IsQueue, queue_head}
use Rattle.seq_bus_core.specs.BusState.{BusState, Connection, OwnedName, RunningStart, is_client, max_connections, max_names, max_queued, max_names_of_one, max_rules, max_rules_of_one, max_tickets, max_number, queued_in, names_of, tickets_in}
use Rattle.seq_bus_core.specs.Steps.{is_reserved}

-- a connection's number is not the bus's, and has been given
pub record IsGiven (next_number : ℕ) (c : Connection) : Type 0 where
  pub not_bus : 0 < c.number
  pub given : c.number < next_number

-- a name has an owner; in its queue stand connections that are no monitors, each once
pub record IsOwned (connections : List Connection) (n : OwnedName) : Type 0 where
  pub ownable : is_reserved n.name ≡ false
  pub owned : IsSome (queue_head n.queue)
  pub once : IsQueue n.queue
  pub clients : list_all (λ q. is_client connections q.connection) n.queue ≡ true

-- a start was numbered, its name has no owner, and tickets wait for it, which rise
pub record IsRunning (names : List OwnedName) (next_start next_ticket : ℕ) (r : RunningStart) : Type 0 where
  pub given : r.number < next_start
  pub unowned : Each (λ n. text_eq n.name r.name ≡ false) names
  pub waited : r.tickets ≢ []
  pub tickets_given : Each (λ t. t < next_ticket) r.tickets
  pub tickets_rise : Pairwise (λ t u. t < u) r.tickets

-- No ticket waits for two starts.
abbrev pub ShareNoTicket : RunningStart → RunningStart → Type 0
ShareNoTicket a b = Each (λ t. list_any (λ u. u == t) b.tickets ≡ false) a.tickets

pub record IsConsistent (s : BusState) : Type 0 where
  pub next_not_bus : 0 < s.next_number
  pub connections_given : Each (IsGiven s.next_number) s.connections
  pub connections_rise : Pairwise (λ a b. a.number < b.number) s.connections
  pub slots_differ : Pairwise (λ a b. a.slot ≢ b.slot) s.connections
  pub names_owned : Each (IsOwned s.connections) s.names
  pub names_rise : Pairwise (λ a b. text_lt a.name b.name ≡ true) s.names
  pub rules_of_clients : Each (λ r. is_client s.connections r.connection ≡ true) s.rules
  pub starts_running : Each (IsRunning s.names s.next_start s.next_ticket) s.starts
  pub starts_rise : Pairwise (λ a b. a.number < b.number) s.starts
  pub start_names_differ : Pairwise (λ a b. text_eq a.name b.name ≡ false) s.starts
  pub tickets_differ : Pairwise ShareNoTicket s.starts

-- The limits of the bus hold, and no number above the last was given.
pub record IsWithinLimits (s : BusState) : Type 0 where
  pub slots : Each (λ c. c.slot < max_connections) s.connections
  pub connections : length s.connections ≤ max_connections
  pub names : length s.names ≤ max_names
  pub queued : queued_in s.names ≤ max_queued
  pub names_of_one : (connection : ℕ) → names_of connection s.names ≤ max_names_of_one
  pub rules : length s.rules ≤ max_rules
  pub rules_of_one : (connection : ℕ) → count_of connection s.rules ≤ max_rules_of_one
  pub tickets : tickets_in s.starts ≤ max_tickets
  pub next_number : s.next_number ≤ max_number + 1
  pub next_ticket : s.next_ticket ≤ max_number + 1
  pub next_start : s.next_start ≤ max_number + 1
