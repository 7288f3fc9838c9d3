-- A connection that says who it is is answered.
use Rattle.std.proofs.Common.{◌≡◌, ◌≢◌, ℕ, true, false, Option, Some, None, List, [], ◌∷◌, ◌++◌, refl, sym, ◌∙◌, subst, inl, inr}
use Rattle.sasl.specs.declared.fault.AuthenticationFault.{AuthenticationFault}
use Rattle.sasl.specs.declared.phase.Phase.{Phase}
use Rattle.sasl.specs.declared.phase.Phase.TheVariants.{WaitingForNul, WaitingForAuth, WaitingForData, WaitingForBegin, Done, Closed}
use Rattle.sasl.specs.Settings.{Setting}
use Rattle.sasl.specs.Conversations.{State as AuthState}
use Rattle.sasl.specs.Hearing.{Conversed, conversed}
use Rattle.router_core.specs.declared.cause.CloseCause.TheVariants.{Unauthenticated}
use Rattle.bus_view.specs.declared.view.BusView.{Ghosts as BusView}
use Rattle.router_core.specs.declared.gate.Gate.{Ghosts as Gate}
use Rattle.router_core.specs.Deeds.{Writes}
use Rattle.router_core.specs.Events.{OfPeer, closing, answering, after_conversing, hearing}
use Rattle.router_core.specs.Scripts.{World, Performs, RunsTo}
use Rattle.router_core.specs.Standing.{Stage, Authenticating, Closing, Peer, conn_of, closing_peer}
use Rattle.router_steps.specs.Turns.{IsAlike, stage_after, IsOutcome, IsConversed, IsSent}

-- what is said where it says who it is
pub conversed_at : (old new : Peer) (setting : Setting) (state : AuthState) (piece sent : List ℕ) (fault : Option AuthenticationFault) → old.stage ≡ Authenticating setting state →
    IsConversed old old.stage piece sent fault new → IsOutcome (conversed setting state [] (old.unread ++ piece)) setting old sent fault new × IsAlike old new
conversed_at old new setting state piece sent fault is turn = subst (λ (stage : Stage). IsConversed old stage piece sent fault new) is turn

module _ {V N R G : Type 0} (view : BusView V N R) (gate : Gate G) (key : ℕ) where
  pub is_sent : (sent : List ℕ) (w m : World N G) → (sent ≡ [] → ⊥) → Performs view (Writes key sent) w m → IsSent view key sent w m
  is_sent [] w m some does = absurd (some refl)
  is_sent (b ∷ bytes) w m some does = does

  answered : (sent : List ℕ) (s : OfPeer) (w m v : World N G) (q : Peer) → IsSent view key sent w m → RunsTo view gate s m q v → RunsTo view gate (answering key sent s) w q v
  answered [] s w m v q same comes = subst (λ (k : World N G). RunsTo view gate s k q v) same comes
  answered (b ∷ bytes) s w m v q does comes = (m, does, comes)

  module _ (setting : Setting) (state : AuthState) (piece : List ℕ) (p : Peer) (is : p.stage ≡ Authenticating setting state) where
    abbrev said : Conversed
    said = conversed setting state [] (p.unread ++ piece)

    at_stage : (w v : World N G) (q : Peer) → RunsTo view gate (hearing key piece p (Authenticating setting state)) w q v → RunsTo view gate (hearing key piece p p.stage) w q v
    at_stage w v q comes = subst (λ (stage : Stage). RunsTo view gate (hearing key piece p stage) w q v) (sym is) comes

    -- the conversation has not failed
    by_phase : (phase : Phase) → ((fault : AuthenticationFault) → phase ≢ Closed fault) → (v : World N G) (q : Peer) → q ≡ record p { stage = stage_after setting said.state phase; unread = said.left } →
        RunsTo view gate (after_conversing key setting said phase p) v q v
    by_phase WaitingForNul fine v q same = (same, refl)
    by_phase WaitingForAuth fine v q same = (same, refl)
    by_phase (WaitingForData due) fine v q same = (same, refl)
    by_phase (WaitingForBegin identity) fine v q same = (same, refl)
    by_phase (Done identity) fine v q same = (same, refl)
    by_phase (Closed fault) fine v q same = absurd (fine fault refl)

    pub goes_on : (sent : List ℕ) (w v : World N G) (q : Peer) → IsOutcome said setting p sent None q → IsSent view key sent w v → RunsTo view gate (hearing key piece p p.stage) w q v
    goes_on sent w v q outcome written =
        at_stage w v q (true, answered said.sent (after_conversing key setting said said.state.phase p) w v v q (subst (λ bytes. IsSent view key bytes w v) outcome.1 written) (by_phase said.state.phase outcome.0 v q outcome.2))

    -- one that is closed is the same, whatever was said
    closing_alike : (q r : Peer) → IsAlike p r → conn_of r.stage ≡ conn_of p.stage → q ≡ closing_peer r → q ≡ closing_peer p
    closing_alike q r alike conn same = same ∙ (λ i. record { stage = Closing (conn i); unread = []; serial = alike.0 i; watches = alike.1 i })

    pub fails : (sent : List ℕ) (fault : AuthenticationFault) (w m v : World N G) (r q : Peer) → IsOutcome said setting p sent (Some fault) r → IsAlike p r → conn_of r.stage ≡ conn_of p.stage →
        IsSent view key sent w m → RunsTo view gate (closing key (Unauthenticated fault) r) m q v → RunsTo view gate (hearing key piece p p.stage) w q v
    fails sent fault w m v r q outcome alike conn written closes = at_stage w v q (by_outcome outcome)
      where
        closes_it : RunsTo view gate (closing key (Unauthenticated fault) p) m q v
        closes_it = (closes.0, closes.1, (closing_alike q r alike conn closes.2.0, closes.2.1))

        by_outcome : IsOutcome said setting p sent (Some fault) r → RunsTo view gate (hearing key piece p (Authenticating setting state)) w q v
        by_outcome (inl failed) = (
          true,
          answered said.sent (after_conversing key setting said said.state.phase p) w m v q (subst (λ bytes. IsSent view key bytes w m) failed.1 written)
              (subst (λ (phase : Phase). RunsTo view gate (after_conversing key setting said phase p) m q v) (sym failed.0) closes_it),
        )
        by_outcome (inr refused) =
            let nothing : IsSent view key [] w m = subst (λ bytes. IsSent view key bytes w m) refused.1 written in
            let here = subst (λ (k : World N G). RunsTo view gate (closing key (Unauthenticated fault) p) k q v) nothing closes_it in
            (false, subst (λ (f : AuthenticationFault). RunsTo view gate (closing key (Unauthenticated f) p) w q v) refused.0 here)
