-- The lines of a trace by their places.
use Rattle.std.specs.Prelude.{ℕ, ◌+◌, ◌==◌, ◌&&◌, not, Bool, Option, Some, None, List, [], ◌∷◌, ◌++◌, if◌then◌else◌, find, filter, map, option_map}
use Rattle.std.specs.List.{range_with_len}
use Rattle.trace_lines.specs.Lines.{Line}
use Rattle.trace_check_core.specs.Legality.{changes_in, is_change}
use Rattle.trace_check_core.specs.Traces.{Trace}
use Rattle.trace_check_core.specs.Verdicts.{first_line, is_change_at}
use Rattle.trace_check_core.specs.declared.places.NumberedLine.{NumberedLine as KeptWithNumber}
use Rattle.trace_check_core.specs.declared.places.PlaceLines.{PlaceLines}

-- a line with its number among all lines of its trace
pub record NumberedLine : Type 0 where
  pub number : ℕ
  pub line : Line

-- lines with their numbers, the first of which is this one
abbrev pub numbered : ℕ → List Line → List NumberedLine
numbered number [] = []
numbered number (line ∷ lines) = record { number = number; line = line } ∷ numbered (number + 1) lines

-- the change of a place, and the other lines that stand there
pub record LinesThere : Type 0 where
  pub change : Option NumberedLine
  pub reads : List NumberedLine

abbrev pub is_read_at : ℕ → Line → Bool
is_read_at place line = not (is_change line) && (line.place == place)

abbrev pub lines_there : List NumberedLine → ℕ → LinesThere
lines_there lines place = record {
  change = find (λ n. is_change_at place n.line) lines;
  reads = filter (λ n. is_read_at place n.line) lines;
}

abbrev pub line_seen : KeptWithNumber → NumberedLine
line_seen n = record { number = n.number; line = n.line.now }

abbrev pub place_seen : PlaceLines → LinesThere
place_seen place = record { change = option_map line_seen place.change; reads = map line_seen place.reads.items }

-- lines by the places from 0 to the count of changes
abbrev pub placed_lines : ℕ → List NumberedLine → List LinesThere
placed_lines changes lines = map (lines_there lines) (range_with_len 0 (changes + 1))

abbrev pub lines_by_place : Trace → List LinesThere
lines_by_place t = placed_lines (changes_in t.lines) (numbered (first_line t) t.lines)

abbrev pub no_line_there : LinesThere
no_line_there = record { change = None; reads = [] }

-- with one line more
abbrev pub with_line_there : LinesThere → NumberedLine → LinesThere
with_line_there there n = if is_change n.line then record there { change = Some n } else record there { reads = there.reads ++ n ∷ [] }
