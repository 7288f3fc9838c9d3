-- What holds of the world in every schedule of its seats.
use Rattle.std.specs.Prelude.{◌≡◌, ℕ, ◌+◌, ◌==◌, ◌<◌, ◌≤◌, Bool, true, false, is_some, Some, List, [], ◌∷◌, ◌++◌, length, filter, take, slice_get}
use Rattle.std.specs.List.{AllByRecursion as Each}
use Rattle.seq_bus_core.specs.Answers.{answer}
use Rattle.seq_bus_core.specs.BusState.{connection_of}
use Rattle.seq_bus_core.specs.Consistency.{Pairwise}
use Rattle.seq_bus_core.specs.Histories.{History, IsLegal, Begins}
use Rattle.seq_bus_core.specs.Recipients.{recipients}
use Rattle.seq_bus_core.specs.Tickets.{WholeBus, bus_step, bus_after}
use Rattle.seq_bus_core.specs.declared.change.Change.{Change}
use Rattle.seq_bus_core.specs.declared.entry.Entry.{Entry}
use Rattle.seq_bus_core.specs.declared.outcome.Outcome.{Outcome}
use Rattle.interleave_core.specs.declared.step.Step.{Step}
use Rattle.interleave_core.specs.declared.step.Step.TheVariants.{Read, Publish, TakeNote, Refused}
use Rattle.interleave_core.specs.Worlds.{Moment, Said, Told, Answered, Routed, Found, Logged, first_moment, is_end, moment_after, log_of}

-- ## Answers

-- The change stands at this place of the history, and was told what the bus says after all before
-- it.
pub record IsToldAt (opening : WholeBus) (history : History) (seat place : ℕ) (change : Change) (outcome : Outcome) : Type 0 where
  pub point : History
  pub number : ℕ
  pub left : ℕ
  pub stands : Begins (point ++ record { seat = seat; number = number; change = change; left = left } ∷ []) history
  pub place_is : place ≡ length point + 1
  pub told : outcome ≡ (bus_step (bus_after opening point) seat change).1

-- what the bus says after the first entries of the history, as many as the place says
abbrev pub IsReadAt : WholeBus → History → ℕ → (WholeBus → Type 0) → Type 0
IsReadAt opening history place says = (point : History) × Begins point history × (place ≡ length point) × says (bus_after opening point)

abbrev pub IsRightAt : WholeBus → History → ℕ → ℕ → Said → Type 0
IsRightAt opening history seat place (Told change outcome) = IsToldAt opening history seat place change outcome
IsRightAt opening history seat place (Answered query told) = IsReadAt opening history place (λ b. told ≡ answer b.state query)
IsRightAt opening history seat place (Routed from facts verdict) = IsReadAt opening history place (λ b. verdict ≡ recipients b.state from facts)
IsRightAt opening history seat place (Found number found) = IsReadAt opening history place (λ b. found ≡ is_some (connection_of b.state number))

-- what was said is what the definitions of the bus say at its place of the history
abbrev pub IsRight : WholeBus → History → Logged → Type 0
IsRight opening history l = IsRightAt opening history l.seat l.place l.said

-- ## Places

abbrev pub is_change : Said → Bool
is_change (Told change outcome) = true
is_change (Answered query told) = false
is_change (Routed from facts verdict) = false
is_change (Found number found) = false

-- a change stands behind what its seat had seen; a read may see no more
abbrev pub Follows : ℕ → ℕ → Bool → Type 0
Follows earlier later true = earlier < later
Follows earlier later false = earlier ≤ later

-- what a seat is answered later stands no earlier in the history
abbrev pub GoesOn : Logged → Logged → Type 0
GoesOn earlier later = earlier.seat ≡ later.seat → Follows earlier.place later.place (is_change later.said)

-- a change of a seat, by its place in the history
pub record Made : Type 0 where
  pub place : ℕ
  pub seat : ℕ
  pub change : Change

abbrev pub made_by : ℕ → ℕ → Said → List Made
made_by seat place (Told change outcome) = record { place = place; seat = seat; change = change } ∷ []
made_by seat place (Answered query told) = []
made_by seat place (Routed from facts verdict) = []
made_by seat place (Found number found) = []

-- the changes that were told that they are made
abbrev pub changes_told : List Logged → List Made
changes_told [] = []
changes_told (l ∷ log) = made_by l.seat l.place l.said ++ changes_told log

-- the changes of a history, whose first one has this place
abbrev pub changes_from : ℕ → History → List Made
changes_from place [] = []
changes_from place (e ∷ history) = record { place = place; seat = e.seat; change = e.change } ∷ changes_from (place + 1) history

-- ## Each moment

abbrev pub entries_by : ℕ → History → History
entries_by seat history = filter (λ (e : Entry). e.seat == seat) history

-- What a seat has seen begins the history, holds no part of a publication, and has the seat's own
-- entries, all of them.
pub record IsSeenBy (seat : ℕ) (published seen : History) : Type 0 where
  pub begins : Begins seen published
  pub legal : IsLegal seen
  pub own : entries_by seat seen ≡ entries_by seat published

-- a moment, up to which this was logged
pub record IsSound (m : Moment) (log : List Logged) : Type 0 where
  pub legal : IsLegal m.published
  pub seats : (seat : ℕ) (seen : History) → slice_get m.seen seat ≡ Some seen → IsSeenBy seat m.published seen
  pub right : Each (IsRight m.opening m.published) log
  pub rising : Pairwise GoesOn log
  -- each change that was told stands in the history once, in order, and nothing else does
  pub once : changes_told log ≡ changes_from 1 m.published

-- ## From a moment to a later one

-- this seat now has seen something that begins with that history
abbrev pub HasSeen : Moment → ℕ → History → Type 0
HasSeen m seat history = (seen : History) × (slice_get m.seen seat ≡ Some seen) × Begins history seen

-- what is published only grows, and so does what each seat has seen
pub record Grows (before after : Moment) : Type 0 where
  pub published : Begins before.published after.published
  pub seats : (seat : ℕ) (seen : History) → slice_get before.seen seat ≡ Some seen → HasSeen after seat seen

-- a seat that takes a note has seen what the note tells
abbrev pub Learns : Moment → ℕ → ℕ → Moment → Type 0
Learns before seat place after = is_some (slice_get before.seen seat) ≡ true → is_end before place ≡ true → HasSeen after seat (take place before.published)

-- ## Every schedule

abbrev pub moment_of : WholeBus → List Step → Moment
moment_of opening steps = moment_after (first_moment opening) steps

-- what holds at each moment of these steps, and from each to each later one
pub record IsPromised (opening : WholeBus) (steps : List Step) : Type 0 where
  pub sound : (done left : List Step) → done ++ left ≡ steps → IsSound (moment_of opening done) (log_of (first_moment opening) done)
  pub grows : (done more left : List Step) → done ++ more ++ left ≡ steps → Grows (moment_of opening done) (moment_of opening (done ++ more))
  pub learns : (done left : List Step) (seat place : ℕ) → done ++ TakeNote seat place ∷ left ≡ steps →
      Learns (moment_of opening done) seat place (moment_of opening (done ++ TakeNote seat place ∷ []))

abbrev pub EverySchedule : Type 0
EverySchedule = (opening : WholeBus) (steps : List Step) → IsPromised opening steps

-- ## Refused steps

abbrev pub without_refused : List Step → List Step
without_refused [] = []
without_refused (Read seat place question ∷ steps) = Read seat place question ∷ without_refused steps
without_refused (Publish seat changes ∷ steps) = Publish seat changes ∷ without_refused steps
without_refused (TakeNote seat place ∷ steps) = TakeNote seat place ∷ without_refused steps
without_refused (Refused seat changes ∷ steps) = without_refused steps

-- a refused step changes nothing, then or later
abbrev pub RefusalsCountForNothing : Type 0
RefusalsCountForNothing = (m : Moment) (steps : List Step) →
    (moment_after m steps ≡ moment_after m (without_refused steps)) × (log_of m steps ≡ log_of m (without_refused steps))
