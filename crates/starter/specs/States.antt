-- What a starter keeps.
use Rattle.std.specs.Prelude.{◌≡◌, ◌⊎◌, List, [], ◌∷◌, Option, Some, None}
use Rattle.std.specs.List.{AllByRecursion}
use Rattle.supervisor.specs.Supervising.{Kept}
use Rattle.supervisor.specs.declared.deed.Deed.{Deed}
use Rattle.supervisor.specs.declared.deed.Deed.TheVariants.{Run, Report}
use Rattle.supervisor.specs.declared.event.Event.{Event}
use Rattle.supervisor.specs.declared.event.Event.TheVariants.{NotRun}
use Rattle.router_host.specs.States.{Hosted}

-- What a starter keeps, as contracts see it: what its supervisor keeps; what the supervisor decided and is not done yet, in order; what
-- happened and the supervisor was not told yet; who runs the programs; and the host by which the bus is told.
pub record StarterState (Q P G N : Type 0) : Type 0 where
  pub kept : Kept
  pub due : List Deed
  pub untold : Option Event
  pub programs : Q
  pub host : Hosted P G N

-- a starter before anything happened
abbrev pub new_starter : {Q P G N : Type 0} → Q → Hosted P G N → StarterState Q P G N
new_starter programs host = record {
  kept = record { now = 0; starts = [] };
  due = [];
  untold = None;
  programs = programs;
  host = host;
}

-- Nothing is due, and the supervisor was told all that happened.
abbrev pub IsIdle : {Q P G N : Type 0} → StarterState Q P G N → Type 0
IsIdle s = (s.due ≡ []) × (s.untold ≡ None)

-- ## What is kept between calls

abbrev pub IsReport : Deed → Type 0
IsReport (Run name start) = ⊥
IsReport (Report change) = Unit {0}

abbrev pub AreReports : List Deed → Type 0
AreReports due = AllByRecursion IsReport due

-- Reports are due; or one thing is, and the supervisor was told all that happened.
abbrev pub AreInOrder : List Deed → Option Event → Type 0
AreInOrder due untold =
    AreReports due ⊎ ((deed : Deed) × (due ≡ deed ∷ []) × (untold ≡ None))

-- Nothing happened, or only that a program could not be run.
abbrev pub IsNotRun : Option Event → Type 0
IsNotRun None = Unit {0}
IsNotRun (Some (NotRun start)) = Unit {0}
IsNotRun (Some other) = ⊥
