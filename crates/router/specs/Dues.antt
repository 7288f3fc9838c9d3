-- What is next of a connection.
use Rattle.std.specs.Prelude.{◌≡◌, ℕ, false, true, Some, IfSome, Ok, is_some}
use Rattle.message_core.specs.Said.{said}
use Rattle.driver.specs.Calls.{IsCall}
use Rattle.router_core.specs.Incoming.{Whole, IsIncoming}
use Rattle.router_core.specs.Standing.{Stage, Authenticating, Unnamed, Named, Closing, Peer, Standing, peer_at, with_peer}
use Rattle.router_core.specs.Together.{may_join, rule_call}
use Rattle.router_steps.specs.Quiet.{IsQuiet}
use Rattle.router_steps.specs.Reading.{IsRest}
use Rattle.router_steps.specs.Upcoming.{IsComing}
use Rattle.router.specs.declared.turn.Due.{Due}
use Rattle.router.specs.declared.turn.Due.TheVariants as due

-- Something is to be served of it: a message, or what is none.
abbrev pub IsApart : Peer → Stage → Type 0
IsApart p (Authenticating setting state) = ⊥
IsApart p (Unnamed privileged) = IsComing true p
IsApart p (Named conn) = IsComing true p
IsApart p (Closing conn) = ⊥

abbrev pub IsDue : Due → Peer → Peer → Type 0
IsDue due.Nothing old new = IsQuiet old × (new ≡ old)
IsDue due.Apart old new = IsApart old old.stage × (new ≡ old)
IsDue (due.Rule conn message call) old new =
    (old.stage ≡ Named conn) × IsIncoming old.unread (Whole message new.unread) × IsRest old new × (old.watches ≡ false)
    × (may_join (said message) ≡ true) × IsCall (said message) (Ok call) × (is_some (rule_call (Ok call)) ≡ true)

-- the same of the connection of a key, if there is one; all others stay as they were
abbrev pub IsDueAt : Due → (key : ℕ) → (before after : Standing) → Type 0
IsDueAt due.Nothing key before after = IfSome (peer_at before key) IsQuiet × (after ≡ before)
IsDueAt due.Apart key before after = (p : Peer) × (peer_at before key ≡ Some p) × IsApart p p.stage × (after ≡ before)
IsDueAt (due.Rule conn message call) key before after =
    (p q : Peer) × (peer_at before key ≡ Some p) × (after ≡ with_peer before key (Some q)) × IsDue (due.Rule conn message call) p q
