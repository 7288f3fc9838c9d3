-- What is read off the front of a connection's bytes.
use Rattle.std.specs.Prelude.{◌≡◌, ◌<◌, ℕ, true, false, Option, Some, None, List, [], length}
use Rattle.message_core.specs.Said.{said}
use Rattle.driver.specs.Calls.{is_hello}
use Rattle.bus_view.specs.declared.view.BusView.{Ghosts as BusView}
use Rattle.router_core.specs.declared.gate.Gate.{Ghosts as Gate}
use Rattle.router_core.specs.Events.{serving_next}
use Rattle.router_core.specs.Incoming.{Waits, Whole, Faulty, IsIncoming}
use Rattle.router_core.specs.Scripts.{World, RunsTo}
use Rattle.router_core.specs.Standing.{Unnamed, Peer, Standing, peer_at, with_peer, next_serial}
use Rattle.router_steps.specs.declared.first.FirstIncoming.{FirstIncoming}
use Rattle.router_steps.specs.declared.first.FirstIncoming.TheVariants as first
use Rattle.router_steps.specs.declared.incoming.Incoming.{Incoming}
use Rattle.router_steps.specs.declared.incoming.Incoming.TheVariants as incoming
use Rattle.router_steps.specs.declared.incoming.More.{More}
use Rattle.router_steps.specs.declared.incoming.More.TheVariants as more
use Rattle.router_steps.specs.declared.first.HelloCall.{HelloCall}
use Rattle.router_steps.specs.Refusing.{AreRefusals}

-- Bytes have this front. A message is taken off them, and at a fault they are let go.
abbrev pub HasIncoming : Incoming → List ℕ → List ℕ → Type 0
HasIncoming incoming.Waits old new = IsIncoming old Waits × (new ≡ old)
HasIncoming (incoming.Whole message) old new = IsIncoming old (Whole message new)
HasIncoming (incoming.Faulty fault) old new = IsIncoming old (Faulty fault) × (new ≡ [])

-- what stands behind the messages that are pending
abbrev pub HasMore : More → (pending : List (List ℕ)) → (unread : List ℕ) → Type 0
HasMore more.Waits pending unread = IsIncoming unread Waits
HasMore more.Pending pending unread = 0 < length pending
HasMore (more.Faulty fault) pending unread = IsIncoming unread (Faulty fault)

-- where nothing more is pending, what is pending is as it was
abbrev pub OnlyPends : More → (old new : List (List ℕ)) → Type 0
OnlyPends more.Pending old new = Unit {0}
OnlyPends other old new = new ≡ old

-- but for its bytes the connection is as it was
abbrev pub IsRest : Peer → Peer → Type 0
IsRest old new = new ≡ record old { unread = new.unread }

-- The first message of a connection. A Hello comes with the errors that it may be answered.
abbrev pub HasFirst : FirstIncoming → Peer → Peer → Type 0
HasFirst first.Waits old new = IsIncoming old.unread Waits × (new ≡ old)
HasFirst (first.Hello message errors) old new =
    IsIncoming old.unread (Whole message new.unread) × IsRest old new × (is_hello (said message) ≡ true) × AreRefusals (said message) (next_serial old.serial) errors
HasFirst (first.Other message) old new = IsIncoming old.unread (Whole message new.unread) × IsRest old new × (is_hello (said message) ≡ false)
HasFirst (first.Faulty fault) old new = IsIncoming old.unread (Faulty fault) × (new ≡ record old { unread = [] })

-- A connection without a name says Hello, which was taken off its bytes.
pub record SaysHello (call : HelloCall) (old new : Peer) : Type 0 where
  pub stage : old.stage ≡ Unnamed call.privileged
  pub bytes : IsIncoming old.unread (Whole call.hello new.unread)
  pub rest : IsRest old new
  pub is_hello : is_hello (said call.hello) ≡ true
  pub errors : AreRefusals (said call.hello) (next_serial new.serial) call.errors

-- The next message was served, or it is a Hello that is to be served yet.
abbrev pub ComesOfNext : {V N R G : Type 0} → BusView V N R → Gate G → ℕ → Option HelloCall → Option Peer → Option Peer → World N G → World N G → Type 0
ComesOfNext view gate key None old new w v = (s : Standing) → peer_at s key ≡ old → RunsTo view gate (serving_next s key old) w (with_peer s key new) v
ComesOfNext view gate key (Some call) old new w v = (p q : Peer) × (old ≡ Some p) × (new ≡ Some q) × SaysHello call p q × (v ≡ w)
