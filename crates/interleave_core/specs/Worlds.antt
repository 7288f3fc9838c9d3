-- The world of a bus with several seats: what happens, one step at a time, and what is logged of
-- it.
use Rattle.std.specs.Prelude.{ℕ, ◌+◌, ◌==◌, Bool, false, ◌&&◌, nat_le, is_some, Option, Some, None, List, [], ◌∷◌, ◌++◌, length, take, replicate, slice_get, slice_set, if◌then◌else◌}
use Rattle.std.specs.List.{list_any}
use Rattle.match_rules.specs.Facts.{Facts}
use Rattle.seq_bus_core.specs.Answers.{Answer, answer}
use Rattle.seq_bus_core.specs.Batches.{entries_of, max_batch}
use Rattle.seq_bus_core.specs.BusState.{connection_of}
use Rattle.seq_bus_core.specs.Histories.{History, longer, numbers_of}
use Rattle.seq_bus_core.specs.Recipients.{recipients}
use Rattle.seq_bus_core.specs.Tickets.{WholeBus, bus_step, bus_after}
use Rattle.seq_bus_core.specs.declared.change.Change.{Change}
use Rattle.seq_bus_core.specs.declared.outcome.Outcome.{Outcome}
use Rattle.seq_bus_core.specs.declared.query.Query.{Query}
use Rattle.seq_bus_core.specs.declared.verdict.Verdict.{Verdict}
use Rattle.interleave_core.specs.declared.step.Question.{Question}
use Rattle.interleave_core.specs.declared.step.Question.TheVariants.{Ask, Route, Present}
use Rattle.interleave_core.specs.declared.step.Step.{Step}
use Rattle.interleave_core.specs.declared.step.Step.TheVariants.{Read, Publish, TakeNote, Refused}

-- A moment of the world: how the bus was opened, the history that was published since, the lengths
-- that it had after each publication, and the beginning of it that each seat has seen, by the
-- seat's number.
pub record Moment : Type 0 where
  pub opening : WholeBus
  pub published : History
  pub ends : List ℕ
  pub seen : List History

-- nothing has happened: a seat for the main thread and one for each router, which have seen nothing
abbrev pub first_moment : WholeBus → Moment
first_moment opening = record { opening = opening; published = []; ends = 0 ∷ []; seen = replicate (opening.state.routers + 1) [] }

-- a question and its answer
pub data Said : Type 0 where
  Told : Change → Outcome → Said
  Answered : Query → Option Answer → Said
  Routed : ℕ → Facts → Verdict → Said
  Found : ℕ → Bool → Said

-- what a seat was answered, and where: at a length of the history that it read, or at the place of
-- its change
pub record Logged : Type 0 where
  pub seat : ℕ
  pub place : ℕ
  pub said : Said

-- a moment, and what was logged since the one before
abbrev pub Happened : Type 0
Happened = Moment × List Logged

abbrev pub nothing_happened : Moment → Happened
nothing_happened m = (m, [])

abbrev pub is_end : Moment → ℕ → Bool
is_end m place = list_any (λ e. e == place) m.ends

-- once a seat has seen this beginning of the history
abbrev pub having_seen : Moment → ℕ → History → Moment
having_seen m seat seen = record m { seen = slice_set m.seen seat seen }

-- ## Reads

abbrev pub said_of : WholeBus → Question → Said
said_of b (Ask query) = Answered query (answer b.state query)
said_of b (Route from facts) = Routed from facts (recipients b.state from facts)
said_of b (Present number) = Found number (is_some (connection_of b.state number))

abbrev pub logged_read : Moment → ℕ → ℕ → Question → Logged
logged_read m seat place question = record { seat = seat; place = place; said = said_of (bus_after m.opening (take place m.published)) question }

-- there is such a seat, and the place is an end that is not below what it has seen
abbrev pub may_read : Moment → ℕ → Option History → Bool
may_read m place None = false
may_read m place (Some seen) = is_end m place && nat_le (length seen) place

-- A seat that is there reads at an end that is not below what it has seen.
abbrev pub after_read : Moment → ℕ → ℕ → Question → Option History → Happened
after_read m seat place question None = nothing_happened m
after_read m seat place question (Some seen) =
    if is_end m place && nat_le (length seen) place then (having_seen m seat (take place m.published), logged_read m seat place question ∷ [])
    else nothing_happened m

-- ## Publications

abbrev pub is_batch : List Change → Bool
is_batch changes = nat_le 1 (length changes) && nat_le (length changes) max_batch

-- what the changes of a seat are told, which stand behind this place of the history
abbrev pub told_from : WholeBus → ℕ → ℕ → List Change → List Logged
told_from b seat place [] = []
told_from b seat place (change ∷ changes) =
    record { seat = seat; place = place + 1; said = Told change (bus_step b seat change).1 } ∷ told_from (bus_step b seat change).0 seat (place + 1) changes

-- the entries of the next changes of a seat
abbrev pub next_entries : Moment → ℕ → List Change → History
next_entries m seat changes = entries_of seat (length (numbers_of seat m.published) + 1) changes

-- once this history was published by a seat, which has seen it
abbrev pub having_published : Moment → ℕ → History → Moment
having_published m seat history = record m { published = history; ends = m.ends ++ length history ∷ []; seen = slice_set m.seen seat history }

-- there is such a seat, and the changes are a batch
abbrev pub may_publish : List Change → Option History → Bool
may_publish changes None = false
may_publish changes (Some seen) = is_batch changes

-- A seat that is there publishes a batch behind all that was published.
abbrev pub after_publication : Moment → ℕ → List Change → Option History → Happened
after_publication m seat changes None = nothing_happened m
after_publication m seat changes (Some seen) =
    if is_batch changes then (
      having_published m seat (m.published ++ next_entries m seat changes),
      told_from (bus_after m.opening m.published) seat (length m.published) changes,
    )
    else nothing_happened m

-- ## Notes

-- A seat that is there takes the note of a publication: it has seen the longer of what it had seen
-- and what the note tells.
abbrev pub after_note : Moment → ℕ → ℕ → Option History → Happened
after_note m seat place None = nothing_happened m
after_note m seat place (Some seen) = if is_end m place then nothing_happened (having_seen m seat (longer (Some seen) (take place m.published))) else nothing_happened m

-- ## Runs

abbrev pub happens : Moment → Step → Happened
happens m (Read seat place question) = after_read m seat place question (slice_get m.seen seat)
happens m (Publish seat changes) = after_publication m seat changes.items (slice_get m.seen seat)
happens m (TakeNote seat place) = after_note m seat place (slice_get m.seen seat)
happens m (Refused seat changes) = nothing_happened m

abbrev pub moment_after : Moment → List Step → Moment
moment_after m [] = m
moment_after m (step ∷ steps) = moment_after (happens m step).0 steps

abbrev pub log_of : Moment → List Step → List Logged
log_of m [] = []
log_of m (step ∷ steps) = (happens m step).1 ++ log_of (happens m step).0 steps
