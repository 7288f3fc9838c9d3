-- What a server makes of a piece of a connection's bytes, in the terms of the definitions.
use Rattle.std.proofs.Common.{◌≡◌, ◌≢◌, ◌⊎◌, ℕ, true, Option, Some, None, List, [], ◌++◌, append-nil, refl, sym, ap, ◌∙◌, subst, inl, inr}
use Rattle.std.specs.Prelude.{IfNone}
use Rattle.std.proofs.lemmas.Bool.{false≢true}
use Rattle.sasl.specs.declared.fault.AuthenticationFault.{AuthenticationFault}
use Rattle.sasl.specs.declared.fault.AuthenticationFault.TheVariants.{NoMemory}
use Rattle.sasl.specs.declared.identity.Identity.{Identity}
use Rattle.sasl.specs.declared.phase.Phase.{Phase}
use Rattle.sasl.specs.declared.phase.Phase.TheVariants as phase
use Rattle.sasl.specs.declared.step.Step.{Step}
use Rattle.sasl.specs.declared.step.Progress.{Progress}
use Rattle.sasl.specs.declared.step.Progress.TheVariants as progress
use Rattle.sasl.specs.Conversations.{State as AuthState, is_open, reads_lines}
use Rattle.sasl.specs.Hearing.{Conversed, conversed}
use Rattle.sasl.specs.Servers.{Speaker, IsTold, handed_on, GoesOn, IsCutOff}
use Rattle.sasl.specs.Settings.{Setting}
use Rattle.sasl.proofs.Outcomes.{outcome_is}
use Rattle.router_core.specs.Events.{is_user}
use Rattle.router_core.specs.Standing.{Stage, Authenticating, Unnamed, Peer}
use Rattle.router_steps.specs.Turns.{IsAlike, stage_after, IsOutcome, IsConversed}

stage_open : (setting : Setting) (state : AuthState) (phase : Phase) → is_open phase ≡ true → stage_after setting state phase ≡ Authenticating setting state
stage_open setting state phase.WaitingForNul goes = refl
stage_open setting state phase.WaitingForAuth goes = refl
stage_open setting state (phase.WaitingForData due) goes = refl
stage_open setting state (phase.WaitingForBegin identity) goes = refl
stage_open setting state (phase.Done identity) goes = absurd (false≢true goes)
stage_open setting state (phase.Closed fault) goes = refl

module _ (old new : Peer) (x y : Speaker) (piece : List ℕ) (step : Step) (at : old.stage ≡ Authenticating x.setting x.state) (unread : old.unread ≡ x.unfinished) where
  abbrev said : Conversed
  said = conversed x.setting x.state [] (old.unread ++ piece)

  abbrev heard : List ℕ → Conversed
  heard left = record { sent = step.sent.items; state = y.state; left = left }

  said_is : (left : List ℕ) → GoesOn x piece step y → y.unfinished ++ handed_on step.progress ≡ left → said ≡ heard left
  said_is left goes is =
      ap (λ (text : List ℕ). conversed x.setting x.state [] (text ++ piece)) unread
      ∙ outcome_is x.setting x.state (x.unfinished ++ piece) step.sent.items y.state (y.unfinished ++ handed_on step.progress) goes.converses ∙ ap heard is

  of_outcome : (left : List ℕ) (fault : Option AuthenticationFault) → said ≡ heard left → IsOutcome (heard left) x.setting old step.sent.items fault new → IsAlike old new → IsConversed old old.stage piece step.sent.items fault new
  of_outcome left fault same outcome alike =
      let here : IsConversed old (Authenticating x.setting x.state) piece step.sent.items fault new =
      (subst (λ (s : Conversed). IsOutcome s x.setting old step.sent.items fault new) (sym same) outcome, alike) in
      subst (λ (stage : Stage). IsConversed old stage piece step.sent.items fault new) (sym at) here

  made : {stage : Stage} {left : List ℕ} → new.stage ≡ stage → new.unread ≡ left → IsAlike old new → new ≡ record old { stage = stage; unread = left }
  made stage left alike = λ i. record { stage = stage i; unread = left i; serial = alike.0 i; watches = alike.1 i }

  -- it goes on
  pub going : GoesOn x piece step y ⊎ IsCutOff x piece step y → step.progress ≡ progress.Going → new.stage ≡ Authenticating y.setting y.state → new.unread ≡ y.unfinished → IsAlike old new → IsConversed old old.stage piece step.sent.items None new
  going (inl goes) is stage unread_is alike =
      let told : is_open y.state.phase ≡ true = subst (λ (p : Progress). IsTold y.state.phase p) is goes.told in
      let left : y.unfinished ++ handed_on step.progress ≡ y.unfinished = ap (λ (p : Progress). y.unfinished ++ handed_on p) is ∙ append-nil y.unfinished in
      let next : Authenticating y.setting y.state ≡ stage_after x.setting y.state y.state.phase = ap (λ (s : Setting). Authenticating s y.state) goes.setting ∙ sym (stage_open x.setting y.state y.state.phase told) in
      of_outcome y.unfinished None (said_is y.unfinished goes left)
      (λ fault closed. false≢true (sym (ap is_open closed) ∙ told), refl, made (stage ∙ next) unread_is alike)
      alike
  going (inr cut) is stage unread_is alike = let never : progress.Going ≡ progress.Closed NoMemory = sym is ∙ cut.cause in absurd (cc)

  -- it is done
  pub done : (identity : Identity) (rest : _) → GoesOn x piece step y ⊎ IsCutOff x piece step y → step.progress ≡ progress.Done identity rest → new.stage ≡ Unnamed (is_user identity) → new.unread ≡ rest.now → IsAlike old new →
      IsConversed old old.stage piece step.sent.items None new
  done identity rest (inl goes) is stage unread_is alike =
      let told : y.state.phase ≡ phase.Done identity = subst (λ (p : Progress). IsTold y.state.phase p) is goes.told in
      let none : y.unfinished ≡ [] = goes.kept (ap reads_lines told) in
      let left : y.unfinished ++ handed_on step.progress ≡ rest.now = ap (λ (p : Progress). y.unfinished ++ handed_on p) is ∙ ap (λ (u : List ℕ). u ++ rest.now) none in
      let next : Unnamed (is_user identity) ≡ stage_after x.setting y.state y.state.phase = sym (ap (stage_after x.setting y.state) told) in
      of_outcome rest.now None (said_is rest.now goes left)
      (λ fault closed. let never : phase.Done identity ≡ phase.Closed fault = sym told ∙ closed in absurd (cc), refl, made (stage ∙ next) unread_is alike)
      alike
  done identity rest (inr cut) is stage unread_is alike = let never : progress.Done identity rest ≡ progress.Closed NoMemory = sym is ∙ cut.cause in absurd (cc)

  -- it has failed
  pub failed : (fault : AuthenticationFault) → GoesOn x piece step y ⊎ IsCutOff x piece step y → step.progress ≡ progress.Closed fault → fault ≢ NoMemory → IsAlike old new → IsConversed old old.stage piece step.sent.items (Some fault) new
  failed fault (inl goes) is other alike =
      let told : y.state.phase ≡ phase.Closed fault = subst (λ (p : Progress). IsTold y.state.phase p) is goes.told in
      of_outcome (y.unfinished ++ handed_on step.progress) (Some fault) (said_is (y.unfinished ++ handed_on step.progress) goes refl) (inl (told, refl)) alike
  failed fault (inr cut) is other alike = let same : progress.Closed fault ≡ progress.Closed NoMemory = sym is ∙ cut.cause in absurd (other (cc))

  -- there was no memory for it
  pub unheard : (sent : List ℕ) (fault : AuthenticationFault) → sent ≡ [] → fault ≡ NoMemory → IsAlike old new → IsConversed old old.stage piece sent (Some fault) new
  unheard sent fault none is alike =
      let here : IsConversed old (Authenticating x.setting x.state) piece sent (Some fault) new = (inr (is, none), alike) in
      subst (λ (stage : Stage). IsConversed old stage piece sent (Some fault) new) (sym at) here

-- a fact that is asked for where nothing is
pub at_none : {A : Type 0} (o : Option A) (P : Type 0) → o ≡ None → IfNone o P → P
at_none None P is there = there
at_none (Some x) P is there = let never : ◌≡◌ {A = Option _} (Some x) None = is in absurd (cc)
