-- Batches: changes of one seat that are published together.
use Rattle.std.specs.Prelude.{ℕ, ◌+◌, ◌≤◌, List, [], ◌∷◌, length}
use Rattle.seq_bus_core.specs.Histories.{History}
use Rattle.seq_bus_core.specs.Tickets.{WholeBus, bus_step}
use Rattle.seq_bus_core.specs.declared.change.Change.{Change}
use Rattle.seq_bus_core.specs.declared.limits.TheConstants.{MAX_BATCH}
use Rattle.seq_bus_core.specs.declared.outcome.Outcome.{Outcome}

abbrev pub max_batch : ℕ
max_batch = MAX_BATCH

-- some changes, and not too many
abbrev pub IsBatch : List Change → Type 0
IsBatch changes = (1 ≤ length changes) × (length changes ≤ max_batch)

-- the entries of the changes of a seat, numbered from this number on; each tells how many follow it
abbrev pub entries_of : ℕ → ℕ → List Change → History
entries_of seat number [] = []
entries_of seat number (change ∷ changes) = record { seat = seat; number = number; change = change; left = length changes } ∷ entries_of seat (number + 1) changes

-- what the changes of a seat are told, each once those before it were made
abbrev pub outcomes_of : WholeBus → ℕ → List Change → List Outcome
outcomes_of b seat [] = []
outcomes_of b seat (change ∷ changes) = (bus_step b seat change).1 ∷ outcomes_of (bus_step b seat change).0 seat changes
