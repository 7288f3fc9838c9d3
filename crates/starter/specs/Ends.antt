-- How starts end, as the bus is told of it.
use Rattle.std.specs.Prelude.{◌≡◌, ◌⊎◌, ℕ, Bool, Option, Some, None, Box}
use Rattle.std.specs.declared.alloc.Global.{Global}
use Rattle.seq_bus_core.specs.Histories.{History}
use Rattle.seq_bus_core.specs.declared.connection.Conn.{Conn}
use Rattle.seq_bus_core.specs.declared.change.Change.{Change}
use Rattle.seq_bus_core.specs.declared.change.Change.TheVariants.{ChildEnded, StartTimedOut}
use Rattle.bus_view.specs.declared.view.BusView.{Ghosts as BusView}
use Rattle.outbox_core.specs.declared.envelope.Envelope.{Envelope}
use Rattle.router_core.specs.declared.event.Event.TheVariants.{Child}
use Rattle.router_core.specs.declared.start_end.StartEnd.{StartEnd}
use Rattle.router_core.specs.declared.start_end.HowEnded.TheVariants.{Program, TimedOut}
use Rattle.router_core.specs.declared.gate.Gate.{Ghosts as Gate}
use Rattle.router_core.specs.Deeds.{GatedCall}
use Rattle.router_host_core.specs.declared.post.StartRequest.{StartRequest}
use Rattle.router_host_core.specs.declared.post.Post.{Ghosts as Post}
use Rattle.router_host.specs.States.{Hosted}
use Rattle.router_host.specs.Happening.{CatchesUp, Happens}

-- the end that a report tells
abbrev pub end_of : Change → Option StartEnd
end_of (ChildEnded name start how) =
    Some (record { name = name; start = start; how = Program how })
end_of (StartTimedOut name start) =
    Some (record { name = name; start = start; how = TimedOut })
end_of other = None

module _ {P N G : Type 0} (told : N → History) (registry_of : N → ℕ) (passes : G → GatedCall → G → Type 0)
    (alone : Bool) (puts : P → Conn → Envelope N → P → Type 0)
    (refuses : P → Conn → Type 0) (starts : P → StartRequest → P → Type 0) where
  -- The end of a start happens to the host.
  abbrev pub HasEnded : Option StartEnd → Hosted P G N → Hosted P G N → Type 0
  HasEnded None before after = after ≡ before
  HasEnded (Some end) before after =
      (boxed : Box StartEnd Global) × (boxed.value ≡ end)
      × Happens told registry_of passes alone puts refuses starts before (Child boxed) after

  -- What events before brought may have gone on; nothing else is done.
  abbrev pub MayCatchUp : Hosted P G N → Hosted P G N → Type 0
  MayCatchUp before after = (after ≡ before) ⊎ CatchesUp puts refuses starts before after

-- ## The same by a view, a gate and a post

abbrev pub HasEndedBy : {V N R G P : Type 0} → BusView V N R → Gate G → Post P V N R →
    Option StartEnd → Hosted P G N → Hosted P G N → Type 0
HasEndedBy view gate post end before after =
    HasEnded view.told view.registry_of gate.passes view.alone post.puts post.refuses post.starts end before after

abbrev pub MayCatchUpBy : {V N R G P : Type 0} → BusView V N R → Gate G → Post P V N R →
    Hosted P G N → Hosted P G N → Type 0
MayCatchUpBy view gate post before after =
    MayCatchUp view.told view.registry_of gate.passes view.alone post.puts post.refuses post.starts before after
