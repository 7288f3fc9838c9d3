-- What a host keeps, as contracts see it.
use Rattle.std.specs.Prelude.{ℕ, List, [], None, Option}
use Rattle.router_core.specs.Acts.{State}
use Rattle.router_core.specs.declared.action.Action.{Action}
use Rattle.router_core.specs.declared.event.Event.{Event}
use Rattle.router_host_core.specs.States.{Carried, idle}

-- What there was no memory for: an event; or bytes of the connection of this key, which are none yet.
pub data Waiting (N : Type 0) : Type 0 where
  Happening : Event N → Waiting N
  Piece : ℕ → List ℕ → Waiting N

-- An engine, what its actions are carried out on, the actions that are not carried out yet, and what there was no memory for, which is
-- served first in the next turn.
pub record Hosted (P G N : Type 0) : Type 0 where
  pub engine : State G
  pub carried : Carried P
  pub undone : List (Action N)
  pub kept : Option (Waiting N)

-- a host without connections, before anything happened
abbrev pub new_host : {P G N : Type 0} → State G → P → Hosted P G N
new_host engine post = record { engine = engine; carried = idle post; undone = []; kept = None }
