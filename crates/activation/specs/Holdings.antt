-- The calls that a bus holds, each with the name that it waits for.
use Rattle.std.specs.Prelude.{◌≡◌, ◌<◌, ℕ, Bool, true, List, map}
use Rattle.std.specs.List.{AllByRecursion as Each, list_any}
use Rattle.activation.specs.Holding.{Waiting, waiting_for}
use Rattle.names.specs.Texts.{Text, text_eq}
use Rattle.seq_bus_core.specs.BusState.{RunningStart}
use Rattle.seq_bus_core.specs.Consistency.{Pairwise, IsConsistent}
use Rattle.seq_bus_core.specs.Tickets.{WholeBus}
use Rattle.seq_bus_core.specs.declared.ticket.Ticket.{Ticket}

-- the calls that wait, in order of arrival
abbrev pub Calls : Type 0
Calls = List (Waiting Ticket)

-- the numbers of the calls that wait for a name, in order of arrival
abbrev pub numbers_for : Text → Calls → List ℕ
numbers_for name calls = map (λ t. t.number) (waiting_for name calls)

-- whether a start of the name runs
abbrev pub has_start : List RunningStart → Text → Bool
has_start starts name = list_any (λ r. text_eq r.name name) starts

-- These are the calls that the bus holds: what they carry is what its tickets carry; for each start
-- that runs just the calls of its tickets wait, and no call waits for a name without a start; they
-- are numbered in order of arrival.
pub record IsHolding (b : WholeBus) (calls : Calls) : Type 0 where
  pub consistent : IsConsistent b.state
  pub carried : map (λ w. w.what) calls ≡ b.waiting
  pub tickets : Each (λ r. numbers_for r.name calls ≡ r.tickets) b.state.starts
  pub started : Each (λ w. has_start b.state.starts w.name ≡ true) calls
  pub rise : Pairwise (λ v w. v.what.number < w.what.number) calls
  pub given : Each (λ w. w.what.number < b.state.next_ticket) calls
