-- A bus that is stepped along the lines of a trace, in order of place.
use Rattle.std.specs.Prelude.{ℕ, zero, suc, ◌-◌, nat_le, is_none, option_map, Result, Ok, Err, Bool, Option, Some, None, List, [], ◌∷◌, ◌++◌, flat_map, if◌then◌else◌}
use Rattle.std.specs.List.{slice_get}
use Rattle.std.specs.Option.{option_to_list}
use Rattle.names.specs.Texts.{Text}
use Rattle.seq_bus_core.specs.BusState.{BusState}
use Rattle.seq_bus_core.specs.Histories.{History, after, opening}
use Rattle.trace_lines.specs.Comparing.{same_words}
use Rattle.trace_lines.specs.Lines.{Line}
use Rattle.trace_words.specs.Words.{space, parts}
use Rattle.trace_check_core.specs.Legality.{due, entries_of, number_made, places_before, state_at, told}
use Rattle.trace_check_core.specs.Placing.{LinesThere, NumberedLine, lines_by_place}
use Rattle.trace_check_core.specs.Traces.{Trace, trace_of}
use Rattle.trace_check_core.specs.Verdicts.{first_line, misplaced}

-- the bus where the walk has come, and the least number of a line that it found wrong
pub record Walk : Type 0 where
  pub bus : BusState
  pub least : Option ℕ

-- of a number that may be there and a number, the lesser
abbrev pub lesser : Option ℕ → ℕ → ℕ
lesser None number = number
lesser (Some least) number = if nat_le least number then least else number

-- a line records what the bus tells in this state
abbrev pub records_told : BusState → Line → Bool
records_told s line = same_words line.recorded (parts space (told s line.seat line.subject))

abbrev pub least_with : Option ℕ → BusState → NumberedLine → Option ℕ
least_with least s n = if records_told s n.line then least else Some (lesser least n.number)

abbrev pub walked : Walk → NumberedLine → Walk
walked w n = record { bus = after w.bus (entries_of n.line.seat n.line.subject); least = least_with w.least w.bus n }

abbrev pub walked_along : Walk → List NumberedLine → Walk
walked_along w [] = w
walked_along w (n ∷ lines) = walked_along (walked w n) lines

-- the lines of a place in turn: the change comes first
abbrev pub in_turn : LinesThere → List NumberedLine
in_turn there = option_to_list there.change ++ there.reads

abbrev pub first_step : Trace → Walk
first_step t = record { bus = opening t.profile t.routers t.services; least = None }

-- the change of a place, if there is one
abbrev pub change_entries : Option NumberedLine → History
change_entries None = []
change_entries (Some n) = entries_of n.line.seat n.line.subject

-- the bus after the changes of so many places, from 0 on
abbrev pub state_before : Trace → ℕ → BusState
state_before t zero = opening t.profile t.routers t.services
state_before t (suc place) = state_at t place

-- the bus that a line tells of
abbrev pub bus_told_of : Trace → Line → BusState
bus_told_of t line = state_at t (places_before line.place (number_made line.subject))

-- ## What the bus tells of a line by its number

abbrev pub line_at : Trace → ℕ → Option Line
line_at t number = if nat_le (first_line t) number then slice_get t.lines (number - first_line t) else None

-- if each change has a place of its own
abbrev pub due_in : Trace → ℕ → Option Text
due_in t number = if is_none (misplaced t) then option_map (due t) (line_at t number) else None

abbrev pub due_read : Result Trace ℕ → ℕ → Option Text
due_read (Ok t) number = due_in t number
due_read (Err line) number = None

-- what the bus tells where a line of a file stands
abbrev pub due_at : List ℕ → ℕ → Option Text
due_at file number = due_read (trace_of file) number

-- the walk along a whole trace
abbrev pub whole_walk : Trace → Walk
whole_walk t = walked_along (first_step t) (flat_map in_turn (lines_by_place t))
