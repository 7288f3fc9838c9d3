-- The lines of a trace behind its head.
use Rattle.std.specs.Prelude.{ℕ, nat_le, Bool, false, ◌||◌, ◌==◌, Option, Some, None, option_map, option_and_then, List, [], ◌∷◌, codes, if◌then◌else◌}
use Rattle.names.specs.Texts.{Text, text_eq}
use Rattle.match_rules.specs.Facts.{Facts}
use Rattle.seq_bus_core.specs.declared.change.Change.{Change}
use Rattle.seq_bus_core.specs.declared.query.Query.{Query}
use Rattle.trace_words.specs.Words.{space, parts, number_of}
use Rattle.trace_words.specs.Changes.{change_from}
use Rattle.trace_words.specs.Queries.{query_from}
use Rattle.trace_words.specs.Routes.{route_from}
use Rattle.trace_words.specs.Recorded.{is_outcome, is_answer, is_verdict}

-- a change with its number among those of its seat, a query, or a message that is routed
pub data Subject : Type 0 where
  Made : ℕ → Change → Subject
  Asked : Query → Subject
  Routed : Facts → Subject

-- Where in the history a line stands, whose it is, what it tells of, and the words behind its arrow.
pub record Line : Type 0 where
  pub place : ℕ
  pub seat : ℕ
  pub subject : Subject
  pub recorded : List Text

abbrev pub line : ℕ → ℕ → Subject → List Text → Line
line place seat subject recorded = record { place = place; seat = seat; subject = subject; recorded = recorded }

-- the words behind an arrow
abbrev pub recorded_from : List Text → Option (List Text)
recorded_from (arrow ∷ word ∷ words) = if text_eq arrow (codes "=>") then Some (word ∷ words) else None
recorded_from other = None

abbrev pub recorded_where : (List Text → Bool) → List Text → Option (List Text)
recorded_where test words = option_and_then (λ recorded. if test recorded then Some recorded else None) (recorded_from words)

abbrev pub change_line : ℕ → ℕ → ℕ → Change × List Text → Option Line
change_line place seat number read =
    if (place == 0) || (number == 0) then None
    else option_map (line place seat (Made number read.0)) (recorded_where (is_outcome read.0) read.1)

abbrev pub change_line_from : ℕ → ℕ → List Text → Option Line
change_line_from place seat (number ∷ words) =
    option_and_then (λ n. option_and_then (change_line place seat n) (change_from words)) (number_of number)
change_line_from place seat other = None

abbrev pub is_answer_alone : Query → List Text → Bool
is_answer_alone query (word ∷ []) = is_answer query word
is_answer_alone query other = false

abbrev pub query_line_from : ℕ → ℕ → List Text → Option Line
query_line_from place seat words =
    option_and_then (λ read. option_map (line place seat (Asked read.0)) (recorded_where (is_answer_alone read.0) read.1)) (query_from words)

abbrev pub route_line_from : ℕ → ℕ → List Text → Option Line
route_line_from place seat words =
    option_and_then (λ read. option_map (line place seat (Routed read.0)) (recorded_where is_verdict read.1)) (route_from words)

abbrev pub line_of_kind : Text → ℕ → ℕ → List Text → Option Line
line_of_kind kind place seat words =
    if text_eq kind (codes "c") then change_line_from place seat words
    else if text_eq kind (codes "q") then query_line_from place seat words
    else if text_eq kind (codes "m") then route_line_from place seat words
    else None

-- the number of a seat: 0 to that of the last router
abbrev pub seat_of : ℕ → Text → Option ℕ
seat_of routers word = option_and_then (λ seat. if nat_le seat routers then Some seat else None) (number_of word)

abbrev pub line_from : ℕ → List Text → Option Line
line_from routers (kind ∷ place ∷ seat ∷ words) =
    option_and_then (λ p. option_and_then (λ s. line_of_kind kind p s words) (seat_of routers seat)) (number_of place)
line_from routers other = None

-- What a line of a bus with so many routers tells, if it is one.
abbrev pub line_of : ℕ → Text → Option Line
line_of routers text = line_from routers (parts space text)
