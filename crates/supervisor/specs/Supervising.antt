-- What is done about started programs at each event. (D-Bus Specification: "Message Bus Starting Services")
use Rattle.std.specs.Prelude.{ℕ, ◌+◌, ◌-◌, ◌^◌, max, min, nat_le, Bool, not, ◌==◌, List, [], ◌∷◌, ◌++◌, filter, find, map, Option, Some, None, if◌then◌else◌}
use Rattle.names.specs.Texts.{Text}
use Rattle.seq_bus_core.specs.declared.change.Ending.{Ending}
use Rattle.seq_bus_core.specs.declared.change.Ending.TheVariants as ending
use Rattle.seq_bus_core.specs.declared.change.Change.TheVariants.{ChildEnded, StartTimedOut}
use Rattle.seq_bus_core.specs.Steps.{exited_well}
use Rattle.supervisor.specs.declared.deed.Deed.{Deed}
use Rattle.supervisor.specs.declared.deed.Deed.TheVariants.{Run, Report}
use Rattle.supervisor.specs.declared.event.Event.{Event}
use Rattle.supervisor.specs.declared.event.Event.TheVariants.{Asked, Ran, NotRun, Exited, Killed, Tick}
use Rattle.supervisor.specs.declared.start.Start.{Start}

-- the moment of the last tick, in milliseconds, and the starts that are waited for, in the order in which they were asked for
pub record Kept : Type 0 where
  pub now : ℕ
  pub starts : List Start

-- what is to be done, and what is kept then
pub record Decided : Type 0 where
  pub deeds : List Deed
  pub kept : Kept

-- how long a program has to take its name, in milliseconds
abbrev pub start_timeout : ℕ
start_timeout = 25000

abbrev pub nothing : Kept → Decided
nothing kept = record { deeds = []; kept = kept }

-- A start that is asked for is to be run, and is kept with the moment of the last tick.
abbrev pub asked : Kept → Text → ℕ → Decided
asked kept name number = record {
  deeds = Run name number ∷ [];
  kept = record kept { starts = kept.starts ++ record { name = name; number = number; since = kept.now } ∷ [] };
}

-- the start of a number, where it is kept
abbrev pub start_of : ℕ → List Start → Option Start
start_of number starts = find (λ start. start.number == number) starts

abbrev pub without : ℕ → List Start → List Start
without number starts = filter (λ start. not (start.number == number)) starts

-- One that exited well is kept, since it may have started a program that takes the name later.
abbrev pub kept_after : Kept → ℕ → Ending → Kept
kept_after kept number how = if exited_well how then kept else record kept { starts = without number kept.starts }

abbrev pub ended_as : Kept → ℕ → Ending → Option Start → Decided
ended_as kept number how None = nothing kept
ended_as kept number how (Some start) = record { deeds = Report (ChildEnded start.name number how) ∷ []; kept = kept_after kept number how }

-- The end of a start that is kept is reported.
abbrev pub ended : Kept → ℕ → Ending → Decided
ended kept number how = ended_as kept number how (start_of number kept.starts)

abbrev pub is_late : ℕ → Start → Bool
is_late now start = nat_le start_timeout (now - start.since)

-- the moment from which on it is late, where there is such a moment
abbrev pub due_of : Start → ℕ
due_of start = min (start_timeout + start.since) (2 ^ 64 - 1)

abbrev pub report_late : Start → Deed
report_late start = Report (StartTimedOut start.name start.number)

-- At this moment the starts that are late are reported, in order, and forgotten.
abbrev pub ticked_at : Kept → ℕ → Decided
ticked_at kept now = record {
  deeds = map report_late (filter (is_late now) kept.starts);
  kept = record { now = now; starts = filter (λ start. not (is_late now start)) kept.starts };
}

-- A moment before the last one counts as the last one.
abbrev pub ticked : Kept → ℕ → Decided
ticked kept now = ticked_at kept (max now kept.now)

-- the table
abbrev pub decide : Kept → Event → Decided
decide kept (Asked name start) = asked kept name start
decide kept (Ran start) = nothing kept
decide kept (NotRun start) = ended kept start ending.NotRun
decide kept (Exited start status) = ended kept start (ending.Exit status)
decide kept (Killed start) = ended kept start ending.Killed
decide kept (Tick now) = ticked kept now
