-- For readers the next message is served in the same way, whatever comes behind it.
use Rattle.std.proofs.Common.{◌≡◌, ◌≢◌, ℕ, Option, Some, List, [], ◌∷◌, ◌++◌, refl, sym, ap, ◌∙◌, subst}
use Rattle.message_core.specs.declared.fault.FrameFault.{FrameFault}
use Rattle.router_core.specs.declared.cause.CloseCause.TheVariants as cause
use Rattle.router_core.specs.Deeds.{Deed, Closes}
use Rattle.router_core.specs.Events.{Next, with_bytes}
use Rattle.router_core.specs.Incoming.{Incoming, Waits, Whole, Faulty}
use Rattle.router_core.specs.OneThread.{Rest}
use Rattle.router_core.proofs.Alone.{Readers, effect}
use Rattle.router_core.specs.Standing.{Peer, Stage, Authenticating, Unnamed, Named, Closing, peer_at}
use Rattle.router.proofs.Feeding.{TakesBytes, authenticating_given, closed_more, end_more, faulty_given, more, more_if, next_given, peer_with_more, rest_more, closing_given}
use Rattle.router_core.specs.Readings.{with_behind}

module _ (readers : Readers) where
  -- the next message is served in the same way with these bytes behind it
  abbrev pub Commutes : ℕ → List ℕ → Rest → Type 0
  Commutes key piece r = effect readers (rest_more piece key r) (Next key) ≡ end_more piece key (effect readers r (Next key))

  more_taken : (key : ℕ) (piece : List ℕ) (p : Peer) → TakesBytes p.stage → TakesBytes (more piece key p).stage × ((more piece key p).unread ≡ p.unread ++ piece)
  more_taken key piece p takes = by_stage p.stage refl takes
    where
      grown : (stage : Stage) → p.stage ≡ stage → TakesBytes stage → TakesBytes (with_bytes piece p stage).stage × ((with_bytes piece p stage).unread ≡ p.unread ++ piece) →
          TakesBytes (more piece key p).stage × ((more piece key p).unread ≡ p.unread ++ piece)
      grown stage is takes h = subst (λ (st : Stage). TakesBytes (with_bytes piece p st).stage × ((with_bytes piece p st).unread ≡ p.unread ++ piece)) (sym is) h

      by_stage : (stage : Stage) → p.stage ≡ stage → TakesBytes stage → TakesBytes (more piece key p).stage × ((more piece key p).unread ≡ p.unread ++ piece)
      by_stage (Authenticating setting state) is takes = absurd takes
      by_stage (Unnamed privileged) is takes = grown (Unnamed privileged) is takes (subst (λ (st : Stage). TakesBytes st) (sym is) tt, refl)
      by_stage (Named conn) is takes = grown (Named conn) is takes (subst (λ (st : Stage). TakesBytes st) (sym is) tt, refl)
      by_stage (Closing conn) is takes = absurd takes

  faulty_commutes : (key : ℕ) (piece : List ℕ) (r : Rest) (p : Peer) (fault : FrameFault) → peer_at r.standing key ≡ Some p → readers.incoming p.unread ≡ Faulty fault → readers.incoming (p.unread ++ piece) ≡ Faulty fault →
      Commutes key piece r
  faulty_commutes key piece r p fault here incoming later = by_stage p.stage refl
    where
      there : peer_at (rest_more piece key r).standing key ≡ Some (more piece key p)
      there = peer_with_more piece key r.standing ∙ ap (λ (o : Option Peer). more_if piece key o) here

      taken : TakesBytes p.stage → Commutes key piece r
      taken takes =
          let grown = more_taken key piece p takes in
          faulty_given readers key (rest_more piece key r) (more piece key p) fault there grown.0 (ap (λ (bytes : List ℕ). readers.incoming bytes) grown.1 ∙ later)
          ∙ ap (λ (s : Rest). let end : List Deed × Rest = (Closes key (cause.Faulty fault) ∷ [], s) in end) (closed_more key piece r p)
          ∙ ap (λ (end : List Deed × Rest). end_more piece key end) (sym (faulty_given readers key r p fault here takes incoming))

      by_stage : (stage : Stage) → p.stage ≡ stage → Commutes key piece r
      by_stage (Authenticating setting state) is =
          authenticating_given readers key (rest_more piece key r) (more piece key p) setting state there (ap (λ (st : Stage). (with_bytes piece p st).stage) is ∙ is)
          ∙ ap (λ (end : List Deed × Rest). end_more piece key end) (sym (authenticating_given readers key r p setting state here is))
      by_stage (Unnamed privileged) is = taken (subst (λ (st : Stage). TakesBytes st) (sym is) tt)
      by_stage (Named conn) is = taken (subst (λ (st : Stage). TakesBytes st) (sym is) tt)
      by_stage (Closing conn) is =
          closing_given readers key (rest_more piece key r) (more piece key p) conn there (ap (λ (st : Stage). (with_bytes piece p st).stage) is ∙ is)
          ∙ ap (λ (end : List Deed × Rest). end_more piece key end) (sym (closing_given readers key r p conn here is))

  pub commutes : (key : ℕ) (piece : List ℕ) (r : Rest) (p : Peer) (incoming : Incoming) → incoming ≢ Waits → peer_at r.standing key ≡ Some p → readers.incoming p.unread ≡ incoming →
      readers.incoming (p.unread ++ piece) ≡ with_behind piece incoming → Commutes key piece r
  commutes key piece r p Waits not_so here so later = absurd (not_so refl)
  commutes key piece r p (Whole message rest) not_so here so later = next_given readers piece key r p message rest here so later
  commutes key piece r p (Faulty fault) not_so here so later = faulty_commutes key piece r p fault here so later
