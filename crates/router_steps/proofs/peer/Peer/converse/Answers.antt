use Rattle.std.proofs.Common.{◌≡◌, ◌⊎◌, ◌++◌, List, ℕ, [], append_assoc, refl, sym, ap, ◌∙◌, subst}
use Rattle.sasl.specs.declared.step.Step.{Step}
use Rattle.sasl.specs.Servers.{Speaker, GoesOn, IsCutOff}
use Rattle.message.specs.Framing.{Unread}
use Rattle.router_core.specs.Standing.{Peer, Authenticating, Unnamed}
use Rattle.router_steps.specs.declared.peer.Stage.{Stage}
use Rattle.router_steps.specs.Pending.{pending_bytes}
use Rattle.router_steps.specs.Stages.{stage_of, unread_at, IsSilentAt}
use Rattle.router_steps.proofs.Turning.{going, done, failed, unheard, at_none}
use Rattle.router_steps.proofs.peer.Peer.converse.Goals as goal
use Rattle.router_steps.proofs.peer.Peer.converse.Goals.{in-NoMemory, in_default-fault}

-- what the server made of the piece
abbrev Heard : Speaker → List ℕ → Step → Speaker → Type 0
Heard old piece step new = GoesOn old piece step new ⊎ IsCutOff old piece step new

pub returns-in-Going-clause-turn : goal.returns-in-Going-clause-turn
returns-in-Going-clause-turn c =
    let p = c.args.self.now in
    let server = c.in-Authenticating.server.value in
    let heard : Heard server c.args.piece.now c.feed-step.result c.feed-step.new.self = subst (λ (x : Speaker). Heard x c.args.piece.now c.feed-step.result c.feed-step.new.self) c.deref_mut.ensures.value c.feed-step.ensures in
    let bytes : List ℕ = pending_bytes c.self.inside.pending.items ++ c.self.inside.unread.bytes in
    let at : p.stage ≡ Authenticating server.setting server.state = sym (ap (λ (x : Peer). x.stage) c.self.view_is) ∙ ap stage_of c.in-Authenticating.is in
    let unread : p.unread ≡ server.unfinished = sym (ap (λ (x : Peer). x.unread) c.self.view_is) ∙ ap (λ (s : Stage). unread_at s bytes) c.in-Authenticating.is in
    let alike : (c.self.inside.serial ≡ p.serial) × (c.self.inside.watches ≡ p.watches) = (ap (λ (x : Peer). x.serial) c.self.view_is, ap (λ (x : Peer). x.watches) c.self.view_is) in
    going p _ server c.feed-step.new.self c.args.piece.now c.feed-step.result at unread heard c.in-Going.is refl refl alike

pub returns-in-Ok-clause-turn : goal.returns-in-Ok-clause-turn
returns-in-Ok-clause-turn c =
    let p = c.args.self.now in
    let server = c.in-Authenticating.server.value in
    let heard : Heard server c.args.piece.now c.feed-step.result c.feed-step.new.self = subst (λ (x : Speaker). Heard x c.args.piece.now c.feed-step.result c.feed-step.new.self) c.deref_mut.ensures.value c.feed-step.ensures in
    let pending : List ℕ = pending_bytes c.self.inside.pending.items in
    let bytes : List ℕ = pending ++ c.self.inside.unread.bytes in
    let rest = c.in-Done.rest.now in
    let at : p.stage ≡ Authenticating server.setting server.state = sym (ap (λ (x : Peer). x.stage) c.self.view_is) ∙ ap stage_of c.in-Authenticating.is in
    let unread : p.unread ≡ server.unfinished = sym (ap (λ (x : Peer). x.unread) c.self.view_is) ∙ ap (λ (s : Stage). unread_at s bytes) c.in-Authenticating.is in
    let alike : (c.self.inside.serial ≡ p.serial) × (c.self.inside.watches ≡ p.watches) = (ap (λ (x : Peer). x.serial) c.self.view_is, ap (λ (x : Peer). x.watches) c.self.view_is) in
    let silent : bytes ≡ [] = subst (λ (s : Stage). IsSilentAt s bytes) c.in-Authenticating.is c.self.invariant.2 in
    let fed_is : c.feed.new.self ≡ record c.self.inside.unread { bytes = c.self.inside.unread.bytes ++ rest } = at_none c.self.inside.unread.fault _ c.self.invariant.0 c.in-Ok.ensures.good in
    let rest_is : pending ++ c.feed.new.self.bytes ≡ rest =
    ap (λ (u : Unread). pending ++ u.bytes) fed_is ∙ sym (append_assoc pending c.self.inside.unread.bytes rest) ∙ ap (λ (l : List ℕ). l ++ rest) silent
    in
    done p _ server c.feed-step.new.self c.args.piece.now c.feed-step.result at unread c.in-Done.identity c.in-Done.rest heard c.in-Done.is (ap Unnamed c.is_user.ensures) rest_is alike

pub returns-after-fault-clause-turn : goal.returns-after-fault-clause-turn
returns-after-fault-clause-turn c =
    let p = c.args.self.now in
    let server = c.in-Authenticating.server.value in
    let heard : Heard server c.args.piece.now c.feed-step.result c.feed-step.new.self = subst (λ (x : Speaker). Heard x c.args.piece.now c.feed-step.result c.feed-step.new.self) c.deref_mut.ensures.value c.feed-step.ensures in
    let bytes : List ℕ = pending_bytes c.self.inside.pending.items ++ c.self.inside.unread.bytes in
    let at : p.stage ≡ Authenticating server.setting server.state = sym (ap (λ (x : Peer). x.stage) c.self.view_is) ∙ ap stage_of c.in-Authenticating.is in
    let unread : p.unread ≡ server.unfinished = sym (ap (λ (x : Peer). x.unread) c.self.view_is) ∙ ap (λ (s : Stage). unread_at s bytes) c.in-Authenticating.is in
    let alike : (c.self.inside.serial ≡ p.serial) × (c.self.inside.watches ≡ p.watches) = (ap (λ (x : Peer). x.serial) c.self.view_is, ap (λ (x : Peer). x.watches) c.self.view_is) in
    elim c.match-fault.branch [
      | in-NoMemory w ↦ rw w.result-is (unheard p _ server c.feed-step.new.self c.args.piece.now c.feed-step.result at unread _ _ w.new-in-NoMemory.ensures.items w.in-NoMemory.is alike)
      | in_default-fault w ↦ rw w.result-is (failed p _ server c.feed-step.new.self c.args.piece.now c.feed-step.result at unread c.in-Closed.fault heard c.in-Closed.is w.in_default-fault.not-NoMemory alike)
    ]
