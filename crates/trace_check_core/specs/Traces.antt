-- The lines of a trace, and what they say.
use Rattle.std.specs.Prelude.{ℕ, ◌+◌, ◌==◌, nat_lt, Bool, true, ◌&&◌, Option, Some, None, option_map, option_and_then, List, [], ◌∷◌, ◌++◌, length, Result, Ok, Err, if◌then◌else◌}
use Rattle.std.specs.Option.{option_map_or}
use Rattle.names.specs.Texts.{Text, text_lt}
use Rattle.owner_queues.specs.declared.request.Profile.{Profile}
use Rattle.seq_bus_core.specs.declared.limits.TheConstants.{MAX_SERVICES}
use Rattle.trace_words.specs.Hex.{utf8_of}
use Rattle.trace_words.specs.Words.{parts}
use Rattle.trace_lines.specs.Heads.{profile_of, routers_of, service_of}
use Rattle.trace_lines.specs.Lines.{Line, line_of}

-- what a trace says: its head, and the lines behind it
pub record Trace : Type 0 where
  pub profile : Profile
  pub routers : ℕ
  pub services : List Text
  pub lines : List Line

-- ## The lines of a file

abbrev pub line_feed : ℕ
line_feed = 10

abbrev pub is_line_feed : ℕ → Bool
is_line_feed b = b == line_feed

abbrev pub unless_empty : List ℕ → List (List ℕ)
unless_empty [] = []
unless_empty (b ∷ bytes) = (b ∷ bytes) ∷ []

-- Nothing behind the last line feed is no line.
abbrev pub without_empty_end : List (List ℕ) → List (List ℕ)
without_empty_end [] = []
without_empty_end (last ∷ []) = unless_empty last
without_empty_end (line ∷ next ∷ lines) = line ∷ without_empty_end (next ∷ lines)

-- The last line may lack its line feed.
abbrev pub lines_of : List ℕ → List (List ℕ)
lines_of file = without_empty_end (parts line_feed file)

-- ## The head

abbrev pub trace_headed : Profile → ℕ → Trace
trace_headed profile routers = record { profile = profile; routers = routers; services = []; lines = [] }

-- whether a name comes after all of these
abbrev pub is_last : List Text → Text → Bool
is_last [] name = true
is_last (service ∷ services) name = text_lt service name && is_last services name

-- Services rise by bytes, and none stands behind another line.
abbrev pub takes_service : Trace → Text → Bool
takes_service t name = (length t.lines == 0) && nat_lt (length t.services) MAX_SERVICES && is_last t.services name

abbrev pub with_service : Trace → Text → Option Trace
with_service t name = if takes_service t name then Some (record t { services = t.services ++ name ∷ [] }) else None

abbrev pub with_line : Trace → Line → Trace
with_line t line = record t { lines = t.lines ++ line ∷ [] }

-- ## Reading

-- The trace with one line more; none where the text is no line of a trace, or one of the head out of its place.
abbrev pub with_text : Trace → Text → Option Trace
with_text t text = option_map_or (with_service t) (service_of text) (option_map (with_line t) (line_of t.routers text))

-- A line is a text.
abbrev pub longer_trace : Trace → List ℕ → Option Trace
longer_trace t line = option_and_then (with_text t) (utf8_of line)

-- Lines behind those of a trace, the first of which has this number: the trace with them, or the number of the first
-- that is no line behind those before it.
abbrev pub trace_on : ℕ → Trace → List (List ℕ) → Result Trace ℕ
trace_on number t [] = Ok t
trace_on number t (line ∷ lines) = option_map_or (λ longer. trace_on (number + 1) longer lines) (longer_trace t line) (Err number)

-- the lines behind the first, under its profile
abbrev pub routed : Profile → List (List ℕ) → Result Trace ℕ
routed profile [] = Err 2
routed profile (line ∷ lines) = option_map_or (λ routers. trace_on 3 (trace_headed profile routers) lines) (option_and_then routers_of (utf8_of line)) (Err 2)

abbrev pub headed : List (List ℕ) → Result Trace ℕ
headed [] = Err 1
headed (line ∷ lines) = option_map_or (λ profile. routed profile lines) (option_and_then profile_of (utf8_of line)) (Err 1)

-- The trace that a file is, or the number of the first line that has not the form of its place.
abbrev pub trace_of : List ℕ → Result Trace ℕ
trace_of file = headed (lines_of file)
