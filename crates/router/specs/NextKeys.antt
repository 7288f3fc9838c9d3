-- The key that the next connection gets.
use Rattle.std.specs.Prelude.{◌≡◌, ℕ, Option, Some, None}
use Rattle.router_core.specs.declared.event.Event.{Event}
use Rattle.router_core.specs.declared.event.Event.TheVariants as event
use Rattle.router_core.specs.Acts.{State}
use Rattle.router_core.specs.Standing.{Peer, IsFree, peer_at}

-- that of the connection that is gone, if it was there
abbrev pub key_after : (next gone : ℕ) → Option Peer → ℕ
key_after next gone None = next
key_after next gone (Some p) = gone

-- A key that was given up is the next one. Behind a connection that comes it is one that none has, and nothing else moves it.
abbrev pub HasNextKey : {N G : Type 0} → State G → Event N → State G → Type 0
HasNextKey before (event.Opened key challenge) after = IsFree after.standing after.next_key
HasNextKey before (event.Closed key) after = after.next_key ≡ key_after before.next_key key (peer_at before.standing key)
HasNextKey before other after = after.next_key ≡ before.next_key
