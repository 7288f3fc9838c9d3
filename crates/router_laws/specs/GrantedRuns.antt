-- Runs over a bus of one thread in which nothing is refused. They are all alike.
use Rattle.std.specs.Prelude.{◌≡◌, ℕ, true, List, [], map}
use Rattle.router_core.specs.Acts.{IsGranted}
use Rattle.router_core.specs.Deeds.{Deed, GatedCall}
use Rattle.router_core.specs.Events.{Occasion}
use Rattle.router_core.specs.OneThread.{Rest}
use Rattle.router_laws.specs.Runs.{IsRunOf, for_each}
use Rattle.router_laws.specs.Turns.{AreServedBy, Turn, exchanges_of, run_bytes}

-- The occasions come one after the other, each is served so, and nothing is refused.
pub record IsGrantedRun (before : Rest) (occasions : List Occasion) (turns : List Turn) (after : Rest) : Type 0 where
  pub served : AreServedBy true before occasions turns after
  pub granted : IsGranted (exchanges_of turns)

-- the bytes to each connection, in the order in which they came
abbrev pub bytes_of : List Occasion → List Turn → List (List ℕ)
bytes_of occasions turns = for_each occasions (λ opening. run_bytes opening [] occasions turns)

-- all that is done, event by event
abbrev pub deeds_of : List Turn → List (List Deed)
deeds_of turns = map (λ turn. turn.deeds) turns

-- The same events bring the same, and leave the same: what is written and put, the causes of closes among it, and what is known of the bus.
abbrev pub RunsAreOne : Type 0
RunsAreOne = (before after end : Rest) (occasions : List Occasion) (turns others : List Turn) →
    IsGrantedRun before occasions turns after → IsGrantedRun before occasions others end → (deeds_of turns ≡ deeds_of others) × (after ≡ end)

-- Whatever gates are shown the calls, two runs of the same events write the same bytes to each connection where nothing is refused.
abbrev pub RunsAgree : {G H : Type 0} → (G → GatedCall → G → Type 0) → (H → GatedCall → H → Type 0) → Type 0
RunsAgree {G = G} {H = H} passes others_pass = (gate : G) (other_gate : H) (before : Rest) (occasions : List Occasion) (bytes others : List (List ℕ))
    (one : IsRunOf passes gate before occasions bytes) (other : IsRunOf others_pass other_gate before occasions others) →
    IsGranted (exchanges_of one.turns) → IsGranted (exchanges_of other.turns) → bytes ≡ others

-- ## Lists of events that come to the same

-- Wherever these occasions come and nothing is refused, those may come in their place: nothing is refused, the same bytes go to each
-- connection, and the same is left.
abbrev pub ComeToTheSame : Rest → (these those : List Occasion) → Type 0
ComeToTheSame before these those = (turns : List Turn) (after : Rest) → IsGrantedRun before these turns after →
    (others : List Turn) × IsGrantedRun before those others after × (bytes_of those others ≡ bytes_of these turns)

-- Two runs of such lists write the same bytes to each connection, whatever gates are shown the calls, where nothing is refused in either.
abbrev pub AlikeRunsAgree : {G H : Type 0} → (G → GatedCall → G → Type 0) → (H → GatedCall → H → Type 0) → Type 0
AlikeRunsAgree {G = G} {H = H} passes others_pass = (gate : G) (other_gate : H) (before : Rest) (these those : List Occasion) (bytes others : List (List ℕ)) →
    ComeToTheSame before these those → (one : IsRunOf passes gate before these bytes) (other : IsRunOf others_pass other_gate before those others) →
    IsGranted (exchanges_of one.turns) → IsGranted (exchanges_of other.turns) → bytes ≡ others
