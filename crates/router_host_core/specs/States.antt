-- What actions are carried out on, as contracts see it.
use Rattle.std.specs.Prelude.{Bool, false, ℕ, Option, Some, None, List, [], replicate}
use Rattle.std.specs.Option.{option_or}
use Rattle.router_host_core.specs.declared.ending.EndCause.{EndCause}
use Rattle.router_host_core.specs.declared.put_out.FullConn.{FullConn}
use Rattle.router_host_core.specs.declared.put_out.TheConstants.{SLOTS}

-- A connection: the bytes that its socket has yet to give, and those that it took, where they are known; the bytes that wait for the
-- socket; whether that took no more; whether bytes were lost, so that no more may follow; and why it is over, if it is.
pub record LineState : Type 0 where
  pub left : Option (List ℕ)
  pub taken : Option (List ℕ)
  pub waits : List ℕ
  pub blocked : Bool
  pub broken : Bool
  pub ended : Option EndCause

-- The connections by their keys, the ways to other routers, and for each slot the latest connection that took no more mail, if there was one.
pub record Carried (P : Type 0) : Type 0 where
  pub lines : List (Option LineState)
  pub post : P
  pub full : List (Option FullConn)

-- no connections, and none that took no more mail
abbrev pub idle : {P : Type 0} → P → Carried P
idle post = record { lines = []; post = post; full = replicate SLOTS None }

-- a connection that came just now, whose socket has these bytes to give, and took those
abbrev pub new_line : (left taken : Option (List ℕ)) → LineState
new_line left taken = record {
  left = left;
  taken = taken;
  waits = [];
  blocked = false;
  broken = false;
  ended = None;
}

-- It is over. The first cause is kept.
abbrev pub ended_by : EndCause → LineState → LineState
ended_by cause l = record l { ended = option_or l.ended (Some cause) }
