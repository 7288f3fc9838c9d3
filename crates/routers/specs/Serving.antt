-- What a router's thread does to its host.
use Rattle.std.specs.Prelude.{◌≡◌, ◌⊎◌, ℕ, Bool, Option, List}
use Rattle.seq_bus_core.specs.Histories.{History}
use Rattle.seq_bus_core.specs.declared.connection.Conn.{Conn}
use Rattle.bus_view.specs.declared.view.BusView.{Ghosts as BusView}
use Rattle.outbox_core.specs.declared.envelope.Envelope.{Envelope}
use Rattle.outgoing.specs.declared.sink.Sink.{Ghosts as Sink}
use Rattle.router_core.specs.declared.event.Event.TheVariants.{Tick}
use Rattle.router_core.specs.declared.gate.Gate.{Ghosts as Gate}
use Rattle.router_core.specs.Deeds.{GatedCall}
use Rattle.router_host_core.specs.declared.post.StartRequest.{StartRequest}
use Rattle.router_host_core.specs.declared.post.Post.{Ghosts as Post}
use Rattle.router_host_core.specs.Carrying.{Each, line_at}
use Rattle.router_host_core.specs.Sockets.{unblocked_at}
use Rattle.router_host_core.specs.States.{new_line}
use Rattle.router_host.specs.Doing.{Does, with_lines}
use Rattle.router_host.specs.Expiring.{LoginTimeEnds}
use Rattle.router_host.specs.Happening.{CatchesUp, Happens}
use Rattle.router_host.specs.Opening.{MakesRoom, Opens}
use Rattle.router_host.specs.States.{Hosted}
use Rattle.routers.specs.declared.source.Source.{Ghosts as Source}

-- What happens to a host.
pub data Happening : Type 0 where
  -- A connection comes, over a socket of those that are asked by this challenge who they are, or of
  -- those that are not asked. It may be refused.
  Comes : Option (List ℕ) → Happening
  -- The socket of the connection of this key takes bytes again.
  Unblocks : ℕ → Happening
  -- Time passes. There may be no memory for that.
  Ticks : Happening
  -- The time in which who connects is to have a name passes.
  Expires : Happening
  -- A turn.
  Turns : Happening

module _ {P N G S : Type 0} (told : N → History) (registry_of : N → ℕ) (passes : G → GatedCall → G → Type 0)
    (alone : Bool) (puts : P → Conn → Envelope N → P → Type 0)
    (refuses : P → Conn → Type 0) (starts : P → StartRequest → P → Type 0)
    (takes : P → ℕ → Envelope N → P → Type 0)
    (asks : S → Option (List ℕ) → Type 0)
    (remaining taken : S → Option (List ℕ)) where
  abbrev pub HasHappened : Happening → Hosted P G N → Hosted P G N → Type 0
  HasHappened (Comes challenge) before after =
      ((socket : S) × asks socket challenge × (key : ℕ)
      × Opens told registry_of passes alone puts refuses starts before
      (new_line (remaining socket) (taken socket)) key challenge after)
      ⊎ MakesRoom puts refuses starts before after
  HasHappened (Unblocks key) before after =
      after ≡ with_lines before
      (unblocked_at before.carried.lines key (line_at before.carried.lines key))
  HasHappened Ticks before after =
      Happens told registry_of passes alone puts refuses starts before Tick after
      ⊎ CatchesUp puts refuses starts before after
  HasHappened Expires before after = LoginTimeEnds before after
  HasHappened Turns before after = Does told registry_of passes alone puts refuses starts takes before after

  -- Such things happen, one after the other, and nothing else.
  pub record WorksOn (before after : Hosted P G N) : Type 0 where
    pub happenings : List Happening
    pub happened : Each HasHappened happenings before after

-- the same by a view, a gate, a post, a source and its sockets
abbrev pub WorksOnBy : {V N R G P S E : Type 0} → BusView V N R → Gate G → Post P V N R → Source E S →
    Sink S → Hosted P G N → Hosted P G N → Type 0
WorksOnBy view gate post source sink before after =
    WorksOn view.told view.registry_of gate.passes view.alone post.puts post.refuses post.starts post.takes
    source.asks sink.remaining sink.taken before after
