-- What waits for the next turn, since there was no memory for it.
use Rattle.std.specs.Prelude.{◌≤◌, ℕ, List, Option, Some, None, length, take}
use Rattle.router_core.specs.declared.event.Event.{Event}
use Rattle.router_core.specs.declared.event.Event.TheVariants as event
use Rattle.router_core.specs.Deeds.{IsOwnNote}
use Rattle.router_core.specs.Events.{IsTurnOf}
use Rattle.router_host.specs.declared.kept.Kept.{Kept}
use Rattle.router_host.specs.declared.kept.Kept.TheVariants as kept
use Rattle.router_host.specs.States.{Happening, Piece, Waiting}

-- It can happen at any later time too: no connection comes with it, and its note is of this registry.
abbrev pub CanWait : {N : Type 0} → (N → ℕ) → ℕ → Event N → Type 0
CanWait registry_of registry (event.Opened key challenge) = ⊥
CanWait registry_of registry (event.Turn keys) = IsTurnOf keys.items
CanWait registry_of registry (event.Mail slot envelope) =
    IsOwnNote registry_of registry envelope.note
CanWait registry_of registry other = Unit {0}

-- what waits, if something does, where these bytes were read last
abbrev pub waiting : {N : Type 0} → List ℕ → Option (Kept N) → Option (Waiting N)
waiting room None = None
waiting room (Some (kept.Happening event)) = Some (Happening event)
waiting room (Some (kept.Piece key count)) = Some (Piece key (take count room))

abbrev pub KeepsOwn : {N : Type 0} → (N → ℕ) → ℕ → List ℕ → Option (Kept N) → Type 0
KeepsOwn registry_of registry room None = Unit {0}
KeepsOwn registry_of registry room (Some (kept.Happening event)) =
    CanWait registry_of registry event
KeepsOwn registry_of registry room (Some (kept.Piece key count)) = count ≤ length room
