-- What happens to a host.
use Rattle.std.specs.Prelude.{◌≡◌, ℕ, Bool, Some, List, [], position}
use Rattle.seq_bus_core.specs.Histories.{History}
use Rattle.seq_bus_core.specs.declared.connection.Conn.{Conn}
use Rattle.bus_view.specs.declared.view.BusView.{Ghosts as BusView}
use Rattle.outbox_core.specs.declared.envelope.Envelope.{Envelope}
use Rattle.router_core.specs.declared.action.Action.{Action}
use Rattle.router_core.specs.declared.event.Event.{Event}
use Rattle.router_core.specs.declared.gate.Gate.{Ghosts as Gate}
use Rattle.router_core.specs.Acts.{Brings}
use Rattle.router_core.specs.Deeds.{GatedCall}
use Rattle.router_core.specs.Standing.{has_slot}
use Rattle.router.specs.OneEvent.{IsServedWell}
use Rattle.router_host_core.specs.declared.post.StartRequest.{StartRequest}
use Rattle.router_host_core.specs.declared.post.Post.{Ghosts as Post}
use Rattle.router_host_core.specs.Carrying.{GoesOn, IsBlockedAt}
use Rattle.router_host.specs.States.{Hosted}

module _ {P N G : Type 0} (puts : P → Conn → Envelope N → P → Type 0)
    (refuses : P → Conn → Type 0) (starts : P → StartRequest → P → Type 0) where
  -- Of the actions that are not carried out yet the first ones are, and nothing else is done.
  pub record CatchesUp (before after : Hosted P G N) : Type 0 where
    pub engine : after.engine ≡ before.engine
    pub kept : after.kept ≡ before.kept
    pub goes_on : GoesOn puts refuses starts before.undone before.carried after.undone after.carried

-- What events before brought is carried out; then the engine serves the event, and the actions that it brings are carried out, up to a
-- start that there is no room for now. Nothing else is done.
pub record Happens {P N G : Type 0} (told : N → History) (registry_of : N → ℕ) (passes : G → GatedCall → G → Type 0)
    (alone : Bool) (puts : P → Conn → Envelope N → P → Type 0)
    (refuses : P → Conn → Type 0) (starts : P → StartRequest → P → Type 0)
    (before : Hosted P G N) (event : Event N) (after : Hosted P G N) : Type 0 where
  pub between : Hosted P G N
  pub catches_up : CatchesUp puts refuses starts before between
  pub none_left : between.undone ≡ []
  pub actions : List (Action N)
  pub brings : Brings told registry_of passes alone between.engine event actions after.engine
  pub serves : IsServedWell told passes alone between.engine event actions after.engine
  pub carried : GoesOn puts refuses starts actions between.carried after.undone after.carried
  pub kept : after.kept ≡ between.kept

-- the same by a view, a gate and a post
abbrev pub HappensBy : {V N R G P : Type 0} → BusView V N R → Gate G → Post P V N R → Hosted P G N →
    Event N → Hosted P G N → Type 0
HappensBy view gate post before event after =
    Happens view.told view.registry_of gate.passes view.alone post.puts post.refuses post.starts before event after

-- The socket of the connection that has the slot took no more bytes.
abbrev pub IsSlotBlocked : {P G N : Type 0} → Hosted P G N → ℕ → Type 0
IsSlotBlocked s slot =
    (key : ℕ) × (position (has_slot slot) s.engine.standing.peers ≡ Some key)
    × IsBlockedAt s.carried.lines key
