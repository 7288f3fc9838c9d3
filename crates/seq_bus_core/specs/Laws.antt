-- What holds of every bus, whatever is asked of it.
use Rattle.std.specs.Prelude.{◌≡◌, ℕ, ◌+◌, ◌≤◌, ◌<◌, true, false, List, ◌++◌, Bool, ◌==◌, map, length}
use Rattle.std.specs.List.{AllByRecursion as Each, IsDistinct, list_any}
use Rattle.names.specs.Texts.{Text, text_eq, text_lt}
use Rattle.match_rules.specs.Facts.{Facts}
use Rattle.owner_queues.specs.declared.request.Profile.{Profile}
use Rattle.seq_bus_core.specs.BusState.{BusState}
use Rattle.seq_bus_core.specs.Steps.{step, addressed, is_among}
use Rattle.seq_bus_core.specs.Recipients.{recipients}
use Rattle.seq_bus_core.specs.Histories.{History, sorted, opening, after, numbers_of, IsLegal, HasJust, Begins, ends_publication}
use Rattle.seq_bus_core.specs.Batches.{entries_of}
use Rattle.seq_bus_core.specs.Tickets.{WholeBus, opening_bus, bus_step, bus_after}
use Rattle.seq_bus_core.specs.Consistency.{Pairwise, IsConsistent, IsWithinLimits}
use Rattle.seq_bus_core.specs.declared.change.Change.{Change}
use Rattle.seq_bus_core.specs.declared.connection.Conn.{Conn}
use Rattle.seq_bus_core.specs.declared.signal.BusSignal.{BusSignal}
use Rattle.seq_bus_core.specs.declared.ticket.Ticket.{Ticket}

-- A change leaves a consistent state consistent.
abbrev pub StepsKeepConsistency : Type 0
StepsKeepConsistency = (s : BusState) (seat : ℕ) (change : Change) → IsConsistent s → IsConsistent (step s seat change).0

-- Whatever was changed since it was opened, the state of a bus is consistent.
abbrev pub BusesAreConsistent : Type 0
BusesAreConsistent = (profile : Profile) (routers : ℕ) (services : List Text) (history : History) → IsConsistent (after (opening profile routers services) history)

-- A change exceeds no limit of the bus.
abbrev pub StepsKeepLimits : Type 0
StepsKeepLimits = (s : BusState) (seat : ℕ) (change : Change) → IsConsistent s → IsWithinLimits s → IsWithinLimits (step s seat change).0

-- Whatever was changed since it was opened, the limits of a bus hold.
abbrev pub BusesAreWithinLimits : Type 0
BusesAreWithinLimits = (profile : Profile) (routers : ℕ) (services : List Text) (history : History) → IsWithinLimits (after (opening profile routers services) history)

-- The services of a bus are those that it was opened with, by rising bytes.
abbrev pub ServicesRise : Type 0
ServicesRise = (services : List Text) → IsDistinct text_eq services →
    Pairwise (λ a b. text_lt a b ≡ true) (sorted services) × ((name : Text) → list_any (text_eq name) (sorted services) ≡ list_any (text_eq name) services)

-- the numbers that were given stay given
pub record GivesOn (s next : BusState) : Type 0 where
  pub numbers : s.next_number ≤ next.next_number
  pub tickets : s.next_ticket ≤ next.next_ticket
  pub starts : s.next_start ≤ next.next_start

-- No number is given twice.
abbrev pub NumbersOnlyRise : Type 0
NumbersOnlyRise = (s : BusState) (seat : ℕ) (change : Change) → GivesOn s (step s seat change).0

-- What begins a legal history and does not end within a publication is legal.
abbrev pub BeginningsAreLegal : Type 0
BeginningsAreLegal = (front history : History) → Begins front history → ends_publication front ≡ true → IsLegal history → IsLegal front

-- A legal history stays legal where a batch is published after it: changes of one seat, which go on with its numbers.
abbrev pub BatchesAreLegal : Type 0
BatchesAreLegal = (history : History) (seat : ℕ) (changes : List Change) → IsLegal history → let made = length (numbers_of seat history) in
    IsLegal (history ++ entries_of seat (made + 1) changes) × HasJust seat (made + length changes) (history ++ entries_of seat (made + 1) changes)

-- each by a number above those before it, and so each once
abbrev pub Rise : List Conn → Type 0
Rise conns = Pairwise (λ a b. a.number < b.number) conns

-- The recipients of a message and the monitors that are shown it are each named once.
abbrev pub RecipientsAreNamedOnce : Type 0
RecipientsAreNamedOnce = (s : BusState) (from : ℕ) (facts : Facts) → IsConsistent s → Rise (recipients s from facts).to × Rise (recipients s from facts).monitors

-- So are those of a signal of the bus, and no monitor is shown a signal that goes to it.
abbrev pub SignalsGoToEachOnce : Type 0
SignalsGoToEachOnce = (s : BusState) (signal : BusSignal) → IsConsistent s →
    Rise (addressed s signal).to × Rise (addressed s signal).monitors × Each (λ m. is_among (addressed s signal).to m ≡ false) (addressed s signal).monitors

-- A monitor is shown no message that goes to it.
abbrev pub NobodyGetsAMessageTwice : Type 0
NobodyGetsAMessageTwice = (s : BusState) (from : ℕ) (facts : Facts) → IsConsistent s → Each (λ m. is_among (recipients s from facts).to m ≡ false) (recipients s from facts).monitors

abbrev pub is_waiting : List Ticket → ℕ → Bool
is_waiting waiting number = list_any (λ t. t.number == number) waiting

-- each ticket of a start is there with what it carries
pub record IsWhole (b : WholeBus) : Type 0 where
  pub consistent : IsConsistent b.state
  pub carried : Each (λ r. Each (λ t. is_waiting b.waiting t ≡ true) r.tickets) b.state.starts

-- Whatever was changed since it was opened, a bus has what its tickets carry.
abbrev pub BusesAreWhole : Type 0
BusesAreWhole = (profile : Profile) (routers : ℕ) (services : List Text) (history : History) → IsWhole (bus_after (opening_bus profile routers services) history)

-- A change is told each ticket that it settles, in order, and no other.
abbrev pub SettledTicketsAreTold : Type 0
SettledTicketsAreTold = (b : WholeBus) (seat : ℕ) (change : Change) → IsWhole b →
    map (λ t. record { fate = t.fate; number = t.ticket.number }) (bus_step b seat change).1.tickets ≡ (step b.state seat change).1.tickets
