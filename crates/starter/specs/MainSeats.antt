-- What the main thread does.
use Rattle.std.specs.Prelude.{◌≡◌, ℕ, false}
use Rattle.seq_bus_core.specs.Histories.{History}
use Rattle.outbox_core.specs.declared.envelope.Envelope.{Envelope}
use Rattle.router_core.specs.declared.gate.OpenGate.{OpenGate}
use Rattle.router_host_core.specs.declared.post.StartRequest.{StartRequest}
use Rattle.routers_core.specs.Posts.{AsksFor, IsFullFor, Receives, Sends, Ways}
use Rattle.starter.specs.declared.programs.Programs.{Ghosts as Programs}
use Rattle.starter.specs.Starting.{MakesSteps}
use Rattle.starter.specs.States.{StarterState}

-- Its post is a router's, its notes are histories, and its gate lets each call pass.
abbrev pub MainState : Type 0 → Type 0
MainState Q = StarterState Q (Ways (Envelope History) StartRequest) OpenGate History

-- It makes the steps of a starter. What it sends it sends by its lane, and its notes are of this registry.
abbrev pub MakesMainSteps : {Q : Type 0} → Programs Q → (registry now : ℕ) → MainState Q →
    MainState Q → Type 0
MakesMainSteps programs registry now before after =
    MakesSteps programs.runs programs.gives (λ note. note) (λ note. registry)
    (λ gate call same. same ≡ gate) false
    (λ ways to envelope later. Sends ways to.slot envelope later)
    (λ ways to. IsFullFor ways to.slot)
    (λ ways start later. AsksFor ways start later)
    (λ ways slot envelope later. Receives ways slot envelope later) now before after
