-- What happens to a host, one after the other.
use Rattle.std.proofs.Common.{◌≡◌, ℕ, Bool, Option, Result, Ok, Err, IfOk, OnOk, OnErr, List, [], ◌∷◌, ◌++◌, refl, inl, inr}
use Rattle.seq_bus_core.specs.Histories.{History}
use Rattle.seq_bus_core.specs.declared.connection.Conn.{Conn}
use Rattle.outbox_core.specs.declared.envelope.Envelope.{Envelope}
use Rattle.router_core.specs.Deeds.{GatedCall}
use Rattle.router_host_core.specs.declared.post.StartRequest.{StartRequest}
use Rattle.router_host_core.specs.States.{new_line}
use Rattle.router_host_core.proofs.Steps.{each_then}
use Rattle.router_core.specs.declared.event.Event.TheVariants.{Tick}
use Rattle.router_host.specs.Happening.{CatchesUp, Happens}
use Rattle.router_host.specs.Opening.{MakesRoom, Opens}
use Rattle.router_host.specs.States.{Hosted}
use Rattle.routers.specs.Serving.{Happening, Comes, Ticks, HasHappened, WorksOn}

module _ {P N G S : Type 0} {told : N → History} {registry_of : N → ℕ} {passes : G → GatedCall → G → Type 0}
    {alone : Bool} {puts : P → Conn → Envelope N → P → Type 0}
    {refuses : P → Conn → Type 0} {starts : P → StartRequest → P → Type 0} {takes : P → ℕ → Envelope N → P → Type 0}
    {asks : S → Option (List ℕ) → Type 0} {remaining taken : S → Option (List ℕ)} where
  pub serves_same : {a b : Hosted P G N} → b ≡ a → WorksOn told registry_of passes alone puts refuses starts takes asks remaining taken a b
  serves_same is = record { happenings = []; happened = is }

  pub serves_one : {a b : Hosted P G N} (h : Happening) → HasHappened told registry_of passes alone puts refuses starts takes asks remaining taken h a b → WorksOn told registry_of passes alone puts refuses starts takes asks remaining taken a b
  serves_one {b = b} h f = record { happenings = h ∷ []; happened = (b, f, refl) }

  pub serves_then : {a b c : Hosted P G N} → WorksOn told registry_of passes alone puts refuses starts takes asks remaining taken a b → WorksOn told registry_of passes alone puts refuses starts takes asks remaining taken b c → WorksOn told registry_of passes alone puts refuses starts takes asks remaining taken a c
  serves_then {a = a} {b = b} {c = c} f g = record {
    happenings = f.happenings ++ g.happenings;
    happened = each_then (HasHappened told registry_of passes alone puts refuses starts takes asks remaining taken) f.happenings g.happenings a b c f.happened g.happened;
  }

  pub serves_coming : {E : Type 0} {a b : Hosted P G N} (socket : S) (challenge : Option (List ℕ)) (r : Result ℕ E) → asks socket challenge → IfOk r (λ key. Opens told registry_of passes alone puts refuses starts a (new_line (remaining socket) (taken socket)) key challenge b) → OnErr r (MakesRoom puts refuses starts a b) →
      WorksOn told registry_of passes alone puts refuses starts takes asks remaining taken a b
  serves_coming socket challenge (Ok key) asked f g = serves_one (Comes challenge) (inl (socket, asked, key, f))
  serves_coming socket challenge (Err why) asked f g = serves_one (Comes challenge) (inr g)

  pub serves_tick : {A E : Type 0} {a b : Hosted P G N} (r : Result A E) → OnOk r (Happens told registry_of passes alone puts refuses starts a Tick b) → OnErr r (CatchesUp puts refuses starts a b) → WorksOn told registry_of passes alone puts refuses starts takes asks remaining taken a b
  serves_tick (Ok done) f g = serves_one Ticks (inl f)
  serves_tick (Err why) f g = serves_one Ticks (inr g)
