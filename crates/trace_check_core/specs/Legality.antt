-- Which traces are those of a bus: one history explains all that they record.
use Rattle.std.specs.Prelude.{◌≡◌, ℕ, ◌+◌, ◌-◌, ◌<◌, ◌≤◌, ◌==◌, Bool, Option, Some, None, is_some, Ok, List, [], ◌∷◌, ◌++◌, length, map, filter, flat_map, count_by, if◌then◌else◌}
use Rattle.std.specs.List.{range_with_len, AllByRecursion as Each}
use Rattle.std.specs.List.Sorted.{IsPermutation}
use Rattle.names.specs.Texts.{Text}
use Rattle.seq_bus_core.specs.BusState.{BusState}
use Rattle.seq_bus_core.specs.Steps.{step}
use Rattle.seq_bus_core.specs.Answers.{answer}
use Rattle.seq_bus_core.specs.Recipients.{recipients}
use Rattle.seq_bus_core.specs.Histories.{History, opening, after, entry_alone}
use Rattle.trace_words.specs.Words.{space, parts}
use Rattle.trace_lines.specs.Texts.{outcome_text, answer_text, verdict_text}
use Rattle.trace_lines.specs.Lines.{Line, Subject, Made, Asked, Routed}
use Rattle.trace_check_core.specs.Traces.{Trace, trace_of}

-- ## Changes

-- the number of a change among those of its seat
abbrev pub number_made : Subject → Option ℕ
number_made (Made number change) = Some number
number_made (Asked query) = None
number_made (Routed facts) = None

abbrev pub is_change : Line → Bool
is_change line = is_some (number_made line.subject)

-- how many changes there are
abbrev pub changes_in : List Line → ℕ
changes_in lines = count_by is_change lines

-- ## Order

-- A change stands above the earlier place of its seat, another line not below it.
abbrev pub IsBehind : ℕ → ℕ → Option ℕ → Type 0
IsBehind earlier place (Some number) = earlier < place
IsBehind earlier place None = earlier ≤ place

-- A change's number is one more than the count of the changes of its seat before it.
abbrev pub IsNext : ℕ → Option ℕ → Type 0
IsNext changes (Some number) = number ≡ changes + 1
IsNext changes None = Unit {0}

abbrev pub of_seat : ℕ → List Line → List Line
of_seat seat lines = filter (λ line. line.seat == seat) lines

-- a line, behind these lines of its seat
pub record IsInOrder (earlier : List Line) (line : Line) : Type 0 where
  pub behind : Each (λ other. IsBehind other.place line.place (number_made line.subject)) earlier
  pub numbered : IsNext (changes_in earlier) (number_made line.subject)

-- ## The history

abbrev pub entries_of : ℕ → Subject → History
entries_of seat (Made number change) = entry_alone seat number change ∷ []
entries_of seat (Asked query) = []
entries_of seat (Routed facts) = []

abbrev pub entries_if_at : ℕ → Line → History
entries_if_at place line = if line.place == place then entries_of line.seat line.subject else []

-- the change of a place
abbrev pub entries_at : List Line → ℕ → History
entries_at lines place = flat_map (entries_if_at place) lines

-- the changes of the first places, in order of place
abbrev pub history_to : List Line → ℕ → History
history_to lines place = flat_map (entries_at lines) (range_with_len 1 place)

-- the bus after the changes of the first places
abbrev pub state_at : Trace → ℕ → BusState
state_at t place = after (opening t.profile t.routers t.services) (history_to t.lines place)

-- ## Content

-- what the bus tells of a subject in a state
abbrev pub told : BusState → ℕ → Subject → Text
told s seat (Made number change) = outcome_text (step s seat change).1
told s seat (Asked query) = answer_text (answer s query)
told s seat (Routed facts) = verdict_text (recipients s facts.sender facts)

-- how many places come before a subject: its own with them, unless it is the change that stands there
abbrev pub places_before : ℕ → Option ℕ → ℕ
places_before place (Some number) = place - 1
places_before place None = place

-- what the bus tells where a line stands
abbrev pub due : Trace → Line → Text
due t line = told (state_at t (places_before line.place (number_made line.subject))) line.seat line.subject

abbrev pub IsRight : Trace → Line → Type 0
IsRight t line = line.recorded ≡ parts space (due t line)

-- ## Legality

-- Each line stands in the order of its seat. The places of the changes are 1 to their count, each once, and no line
-- stands above them. What each line records is what the bus tells there.
pub record IsLegal (t : Trace) : Type 0 where
  pub ordered : (before later : List Line) (line : Line) → before ++ line ∷ later ≡ t.lines → IsInOrder (of_seat line.seat before) line
  pub placed : IsPermutation (map (λ line. line.place) (filter is_change t.lines)) (range_with_len 1 (changes_in t.lines))
  pub seen : Each (λ line. line.place ≤ changes_in t.lines) t.lines
  pub right : Each (IsRight t) t.lines

-- a file that is a legal trace
pub record IsLegalFile (file : List ℕ) (t : Trace) : Type 0 where
  pub read : trace_of file ≡ Ok t
  pub legal : IsLegal t

-- with so many lines behind its head
abbrev pub IsLegalWithLines : List ℕ → ℕ → Type 0
IsLegalWithLines file lines = (t : Trace) × IsLegalFile file t × (length t.lines ≡ lines)
