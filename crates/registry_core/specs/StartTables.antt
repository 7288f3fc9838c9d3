-- Tables of the starts that run.
use Rattle.std.specs.Prelude.{◌≤◌, ℕ, Option, Some, None, List, [], ◌∷◌, ◌++◌, filter, find, length, map}
use Rattle.names.specs.Texts.{Text, text_eq}
use Rattle.seq_bus_core.specs.BusState.{RunningStart, max_tickets}
use Rattle.seq_bus_core.specs.Steps.{waiting_if}
use Rattle.seq_bus_core.specs.declared.ticket.Fate.{Fate}
use Rattle.seq_bus_core.specs.declared.ticket.SettledNumber.{SettledNumber}
use Rattle.registry_core.specs.declared.start_table.WaitingTicket.{WaitingTicket}

-- the start of a name that runs
abbrev pub run_of : List RunningStart → Text → Option RunningStart
run_of starts name = find (λ r. text_eq r.name name) starts

-- a ticket joins the start that runs, or asks for a new one
abbrev pub joined_by : List RunningStart → WaitingTicket → Option RunningStart → List RunningStart
joined_by starts t None = starts ++ record { name = t.name; number = t.start; tickets = t.number ∷ [] } ∷ []
joined_by starts t (Some r) = map (waiting_if t.name t.number) starts

-- the starts once one more ticket waits
abbrev pub with_ticket : List RunningStart → WaitingTicket → List RunningStart
with_ticket starts t = joined_by starts t (run_of starts t.name)

-- the starts once these tickets wait too, one after the other
abbrev pub starts_of : List RunningStart → List WaitingTicket → List RunningStart
starts_of starts [] = starts
starts_of starts (t ∷ tickets) = starts_of (with_ticket starts t) tickets

-- the tickets of a name, as they are settled
abbrev pub numbers_of : Fate → Text → List WaitingTicket → List SettledNumber
numbers_of fate name tickets = map (λ t. record { fate = fate; number = t.number }) (filter (λ t. text_eq t.name name) tickets)

-- the tickets of a table that has so much room
pub record IsStartTable (tickets : List WaitingTicket) (room : ℕ) : Type 0 where
  pub few : length tickets ≤ max_tickets
  pub has_room : max_tickets ≤ room
