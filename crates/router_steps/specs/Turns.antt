-- What comes of a piece of the bytes of a connection that says who it is.
use Rattle.std.specs.Prelude.{◌≡◌, ◌≢◌, ◌⊎◌, ℕ, List, [], ◌∷◌, ◌++◌, Option, Some, None}
use Rattle.sasl.specs.declared.fault.AuthenticationFault.{AuthenticationFault}
use Rattle.sasl.specs.declared.fault.AuthenticationFault.TheVariants.{NoMemory}
use Rattle.sasl.specs.declared.phase.Phase.{Phase}
use Rattle.sasl.specs.declared.phase.Phase.TheVariants as phase
use Rattle.sasl.specs.Settings.{Setting}
use Rattle.sasl.specs.Conversations.{State as AuthState}
use Rattle.sasl.specs.Hearing.{Conversed, conversed}
use Rattle.bus_view.specs.declared.view.BusView.{Ghosts as BusView}
use Rattle.router_core.specs.Deeds.{Writes}
use Rattle.router_core.specs.Events.{is_user}
use Rattle.router_core.specs.Scripts.{World, Performs}
use Rattle.router_core.specs.Standing.{Stage, Authenticating, Unnamed, Peer}

-- the connection once this was said, unless the conversation has failed
abbrev pub stage_after : Setting → AuthState → Phase → Stage
stage_after setting state (phase.Done identity) = Unnamed (is_user identity)
stage_after setting state other = Authenticating setting state

-- The conversation has failed for this fault; there was no memory for it; or it has not failed.
abbrev pub IsOutcome : Conversed → Setting → Peer → (sent : List ℕ) → Option AuthenticationFault → Peer → Type 0
IsOutcome said setting old sent None new =
    ((fault : AuthenticationFault) → said.state.phase ≢ phase.Closed fault) × (sent ≡ said.sent)
    × (new ≡ record old { stage = stage_after setting said.state said.state.phase; unread = said.left })
IsOutcome said setting old sent (Some fault) new =
    ((said.state.phase ≡ phase.Closed fault) × (sent ≡ said.sent)) ⊎ ((fault ≡ NoMemory) × (sent ≡ []))

-- nothing was written to it with a serial, and it is a monitor where it was
abbrev pub IsAlike : Peer → Peer → Type 0
IsAlike old new = (new.serial ≡ old.serial) × (new.watches ≡ old.watches)

-- The piece was said behind the unread bytes.
abbrev pub IsConversed : Peer → Stage → (piece : List ℕ) → (sent : List ℕ) → Option AuthenticationFault → Peer → Type 0
IsConversed old (Authenticating setting state) piece sent fault new =
    IsOutcome (conversed setting state [] (old.unread ++ piece)) setting old sent fault new × IsAlike old new
IsConversed old other piece sent fault new = Unit {0}

-- It is written to the connection of this key, if it is anything.
abbrev pub IsSent : {V N R G : Type 0} → BusView V N R → ℕ → (sent : List ℕ) → World N G → World N G → Type 0
IsSent view key [] before after = after ≡ before
IsSent view key (b ∷ bytes) before after = Performs view (Writes key (b ∷ bytes)) before after
