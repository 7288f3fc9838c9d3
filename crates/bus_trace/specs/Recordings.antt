-- What a view that records keeps.
use Rattle.std.specs.Prelude.{◌≡◌, ◌⊎◌, ℕ, ◌+◌, ◌-◌, Bool, true, false, Option, List, [], ◌∷◌, ◌++◌, length, map}
use Rattle.names.specs.Texts.{Text}
use Rattle.match_rules.specs.Facts.{Facts}
use Rattle.seq_bus_core.specs.Answers.{Answer, answer}
use Rattle.seq_bus_core.specs.declared.change.Change.{Change}
use Rattle.seq_bus_core.specs.declared.outcome.Outcome.{Outcome}
use Rattle.seq_bus_core.specs.declared.query.Query.{Query}
use Rattle.seq_bus_core.specs.declared.verdict.Verdict.{Verdict}
use Rattle.bus_view.specs.Views.{Knowledge, bus_seen}
use Rattle.trace_lines.specs.Texts.{change_line_text, change_text, query_line_text, route_line_text}
use Rattle.trace_lines.specs.TextViews.{numbered}

-- whether it records; the lines that are kept, each with its line feed; and whether one found no memory
pub record Recording : Type 0 where
  pub is_on : Bool
  pub lines : Text
  pub is_lost : Bool

-- a view, and what is recorded of it
pub record Tracing (View : Type 0) : Type 0 where
  pub view : View
  pub recording : Recording

-- ## Lines, each with its line feed

abbrev pub ended : Text → Text
ended line = line ++ 10 ∷ []

-- of a change of these words
abbrev pub change_ended : ℕ → ℕ → ℕ → Text → Outcome → Text
change_ended place seat number change outcome = ended (change_line_text place seat number change (numbered outcome))

-- of changes that stand behind one another, from this place and this number on
abbrev pub changes_ended : ℕ → ℕ → ℕ → List Text → List Outcome → Text
changes_ended place seat number [] outcomes = []
changes_ended place seat number (change ∷ changes) [] = []
changes_ended place seat number (change ∷ changes) (outcome ∷ outcomes) =
    change_ended place seat number change outcome ++ changes_ended (place + 1) seat (number + 1) changes outcomes

abbrev pub query_ended : ℕ → ℕ → Query → Option Answer → Text
query_ended place seat query told = ended (query_line_text place seat query told)

-- of a message from this connection, 0 for the bus
abbrev pub route_ended : ℕ → ℕ → ℕ → Facts → Verdict → Text
route_ended place seat from facts verdict = ended (route_line_text place seat (record facts { sender = from }) verdict)

-- ## The line of what was done last, where the view knows this since

abbrev pub line_of_change : Knowledge → Change → Outcome → Text
line_of_change k change outcome = change_ended k.last k.seat k.made (change_text change) outcome

abbrev pub lines_of_changes : Knowledge → List Change → List Outcome → Text
lines_of_changes k changes outcomes =
    changes_ended (k.last + 1 - length changes) k.seat (k.made + 1 - length changes) (map change_text changes) outcomes

abbrev pub line_of_query : Knowledge → Query → Text
line_of_query k query = query_ended (length k.seen) k.seat query (answer (bus_seen k).state query)

abbrev pub line_of_route : Knowledge → ℕ → Facts → Verdict → Text
line_of_route k from facts verdict = route_ended (length k.seen) k.seat from facts verdict

-- ## What is kept

-- These lines are kept, or there is no memory for them, and they are lost.
abbrev pub HasKept : Recording → Text → Recording → Type 0
HasKept old lines new = (new ≡ record old { lines = old.lines ++ lines }) ⊎ (new ≡ record old { is_lost = true })

-- the same where it records; else nothing is kept
pub record Records (old : Recording) (lines : Text) (new : Recording) : Type 0 where
  pub kept : old.is_on ≡ true → HasKept old lines new
  pub silent : old.is_on ≡ false → new ≡ old
