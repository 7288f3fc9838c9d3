-- What comes next of a connection that has a name.
use Rattle.std.specs.Prelude.{◌≡◌, ◌≢◌, Bool, true, false, Ok, is_some}
use Rattle.message_core.specs.Said.{said}
use Rattle.driver.specs.Calls.{IsCall}
use Rattle.router_core.specs.Incoming.{Incoming, Waits, Whole, IsIncoming}
use Rattle.router_core.specs.Standing.{Peer}
use Rattle.router_core.specs.Together.{may_join, rule_call}
use Rattle.router_steps.specs.declared.upcoming.Upcoming.{Upcoming}
use Rattle.router_steps.specs.declared.upcoming.Upcoming.TheVariants as upcoming
use Rattle.router_steps.specs.Reading.{IsRest}

-- Nothing comes yet; or a call that adds or removes a rule and reads well was taken off its bytes; or something else is there.
abbrev pub IsUpcoming : Upcoming → Peer → Peer → Type 0
IsUpcoming upcoming.Waits old new = IsIncoming old.unread Waits × (new ≡ old)
IsUpcoming (upcoming.Rule message call) old new =
    IsIncoming old.unread (Whole message new.unread) × IsRest old new × (old.watches ≡ false)
    × (may_join (said message) ≡ true) × IsCall (said message) (Ok call) × (is_some (rule_call (Ok call)) ≡ true)
IsUpcoming upcoming.Other old new = ((incoming : Incoming) × IsIncoming old.unread incoming × (incoming ≢ Waits)) × (new ≡ old)

-- whether something comes: a message, or what is none
abbrev pub IsComing : Bool → Peer → Type 0
IsComing false p = IsIncoming p.unread Waits
IsComing true p = (incoming : Incoming) × IsIncoming p.unread incoming × (incoming ≢ Waits)
