-- What a starter does.
use Rattle.std.specs.Prelude.{◌≡◌, ◌⊎◌, ℕ, Bool, true, false, List, [], ◌∷◌, Option, Some, None}
use Rattle.names.specs.Texts.{Text}
use Rattle.seq_bus_core.specs.Histories.{History}
use Rattle.seq_bus_core.specs.declared.connection.Conn.{Conn}
use Rattle.bus_view.specs.declared.view.BusView.{Ghosts as BusView}
use Rattle.outbox_core.specs.declared.envelope.Envelope.{Envelope}
use Rattle.router_core.specs.declared.event.Event.TheVariants as event
use Rattle.router_core.specs.declared.gate.Gate.{Ghosts as Gate}
use Rattle.router_core.specs.Deeds.{GatedCall}
use Rattle.router_host_core.specs.declared.post.StartRequest.{StartRequest}
use Rattle.router_host_core.specs.declared.post.Post.{Ghosts as Post}
use Rattle.router_host_core.specs.Carrying.{Each}
use Rattle.router_host.specs.Doing.{Does}
use Rattle.router_host.specs.Happening.{CatchesUp, Happens}
use Rattle.supervisor.specs.Supervising.{Decided, decide}
use Rattle.supervisor.specs.declared.deed.Deed.{Deed}
use Rattle.supervisor.specs.declared.deed.Deed.TheVariants.{Run, Report}
use Rattle.supervisor.specs.declared.event.Event.{Event}
use Rattle.supervisor.specs.declared.event.Event.TheVariants.{NotRun, Tick}
use Rattle.starter.specs.declared.programs.Programs.{Ghosts as Programs}
use Rattle.starter.specs.Ends.{HasEnded, MayCatchUp, end_of}
use Rattle.starter.specs.States.{StarterState}

-- What a starter does.
pub data Step : Type 0 where
  -- It learns what time it is.
  LearnsTime : Step
  -- It learns what happened since to the programs, if anything did.
  Learns : Option Event → Step
  -- Its supervisor hears what it learnt.
  Hears : Event → Step
  -- The first of what the supervisor decided is done.
  Acts : Deed → Step
  -- What events before brought may go on.
  GoesOn : Step
  -- Time passes for the host. There may be no memory for that.
  Ticks : Step
  -- A turn of the host.
  Turns : Step

-- That a program could not be run is the next thing that happened.
abbrev pub IsAnswered : (runs : Bool) → (start : ℕ) → Option Event → Option Event → Type 0
IsAnswered true start before after = after ≡ before
IsAnswered false start before after = (before ≡ None) × (after ≡ Some (NotRun start))

-- What the supervisor decided is due.
abbrev pub heard : {Q P G N : Type 0} → StarterState Q P G N → Decided → StarterState Q P G N
heard before decided = record before { kept = decided.kept; due = decided.deeds; untold = None }

module _ {Q P N G : Type 0} (runs : Q → Text → ℕ → Bool → Q → Type 0)
    (gives : Q → Option Event → Q → Type 0) (told : N → History) (registry_of : N → ℕ)
    (passes : G → GatedCall → G → Type 0) (alone : Bool)
    (puts : P → Conn → Envelope N → P → Type 0)
    (refuses : P → Conn → Type 0) (starts : P → StartRequest → P → Type 0) where
  -- A program is run, or can't be run, and nothing else changes. What is reported happens to the host, and nothing else changes.
  abbrev pub IsDone : Deed → StarterState Q P G N → StarterState Q P G N → Type 0
  IsDone (Run name start) before after =
      (can : Bool) × runs before.programs name start can after.programs
      × IsAnswered can start before.untold after.untold
      × (after ≡ record before { untold = after.untold; programs = after.programs })
  IsDone (Report change) before after =
      HasEnded told registry_of passes alone puts refuses starts (end_of change) before.host after.host
      × (after ≡ record before { host = after.host })

  module _ (takes : P → ℕ → Envelope N → P → Type 0) (now : ℕ) where
    -- It learns something only where the supervisor was told all that it learnt before; and the supervisor hears of it only where all
    -- that it decided before is done.
    abbrev pub IsStep : Step → StarterState Q P G N → StarterState Q P G N → Type 0
    IsStep LearnsTime before after =
        (before.untold ≡ None) × (after ≡ record before { untold = Some (Tick now) })
    IsStep (Learns happened) before after =
        (before.untold ≡ None) × gives before.programs happened after.programs
        × (after ≡ record before { untold = happened; programs = after.programs })
    IsStep (Hears happened) before after =
        (before.untold ≡ Some happened) × (before.due ≡ [])
        × (after ≡ heard before (decide before.kept happened))
    IsStep (Acts deed) before after =
        (before.due ≡ deed ∷ after.due) × IsDone deed (record before { due = after.due }) after
    IsStep GoesOn before after =
        MayCatchUp told registry_of passes alone puts refuses starts before.host after.host
        × (after ≡ record before { host = after.host })
    IsStep Ticks before after =
        (Happens told registry_of passes alone puts refuses starts before.host event.Tick after.host
        ⊎ CatchesUp puts refuses starts before.host after.host)
        × (after ≡ record before { host = after.host })
    IsStep Turns before after =
        Does told registry_of passes alone puts refuses starts takes before.host after.host
        × (after ≡ record before { host = after.host })

    -- At this moment such steps are made, one after the other, and nothing else is done.
    pub record MakesSteps (before after : StarterState Q P G N) : Type 0 where
      pub steps : List Step
      pub made : Each IsStep steps before after

-- ## The same by who runs the programs, a view, a gate and a post

abbrev pub IsDoneBy : {Q V N R G P : Type 0} → Programs Q → BusView V N R → Gate G → Post P V N R →
    Deed → StarterState Q P G N → StarterState Q P G N → Type 0
IsDoneBy programs view gate post deed before after =
    IsDone programs.runs programs.gives view.told view.registry_of gate.passes view.alone post.puts
    post.refuses post.starts deed before after

abbrev pub MakesStepsBy : {Q V N R G P : Type 0} → Programs Q → BusView V N R → Gate G →
    Post P V N R → (now : ℕ) → StarterState Q P G N → StarterState Q P G N → Type 0
MakesStepsBy programs view gate post now before after =
    MakesSteps programs.runs programs.gives view.told view.registry_of gate.passes view.alone post.puts
    post.refuses post.starts post.takes now before after

-- the same whatever time it is
abbrev pub GoesAheadBy : {Q V N R G P : Type 0} → Programs Q → BusView V N R → Gate G →
    Post P V N R → StarterState Q P G N → StarterState Q P G N → Type 0
GoesAheadBy programs view gate post before after =
    (now : ℕ) → MakesStepsBy programs view gate post now before after
