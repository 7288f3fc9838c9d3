-- What is kept of the lines of a seat.
use Rattle.std.specs.Prelude.{◌≡◌, ℕ, ◌<◌, max, List, [], ◌∷◌, get_or}
use Rattle.trace_lines.specs.Lines.{Line}
use Rattle.trace_check_core.specs.Legality.{changes_in, of_seat}
use Rattle.trace_check_core.specs.declared.seats.SeatSoFar.{SeatSoFar}

-- the highest place of these lines, 0 where there are none
abbrev pub highest_place : List Line → ℕ
highest_place [] = 0
highest_place (line ∷ lines) = max line.place (highest_place lines)

abbrev pub seat_so_far : List Line → SeatSoFar
seat_so_far lines = record { highest = highest_place lines; changes = changes_in lines }

-- what is kept of each seat is that of its lines
abbrev pub AreSoFar : List Line → List SeatSoFar → Type 0
AreSoFar lines seats = (seat : ℕ) (d : SeatSoFar) → seat < 9 → get_or seats seat d ≡ seat_so_far (of_seat seat lines)
