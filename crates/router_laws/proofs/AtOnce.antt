-- Bytes that come in pieces, and messages that are served in between, come to what comes of all of them at once.
use Rattle.std.proofs.Common.{◌≡◌, ◌≢◌, ◌⊎◌, ℕ, zero, suc, ◌≤◌, Option, Some, None, List, [], ◌∷◌, ◌++◌, length, refl, sym, ap, ◌∙◌, subst, arith, inl, inr}
use Rattle.std.specs.List.{flat_map, AllByRecursion}
use Rattle.message_core.specs.declared.fault.FrameFault.{FrameFault}
use Rattle.router_core.specs.Deeds.{Deed}
use Rattle.router_core.specs.Events.{Bytes, Mail, Next, Occasion, Opened}
use Rattle.router_core.specs.Incoming.{Incoming, Waits, Whole, Faulty}
use Rattle.router_core.specs.OneThread.{Rest}
use Rattle.router_core.proofs.Alone.{Readers, effect}
use Rattle.router_core.specs.Standing.{Peer, Stage, Authenticating, Unnamed, Named, Closing, peer_at}
use Rattle.router.proofs.Feeding.{TakesBytes, authenticating_given, bytes_given, end_more, mail_given, none_given, nothing_fed, pieces_joined, rest_more, closing_given, waiting_given}
use Rattle.router.proofs.Speaking.{SpeaksAt, comes_speaking, mail_speaks, more_speaks, next_speaks}
use Rattle.busd_core.specs.Happenings.{Delivery}
use Rattle.busd_core.proofs.Alone.{bytes_done, mail_done, mailed, happened, all_happened}
use Rattle.router_core.specs.Readings.{with_behind}
use Rattle.router_laws.proofs.Cutting.{Commutes, commutes}

-- the connection is served
abbrev pub Serving : ℕ → Occasion → Type 0
Serving key (Bytes of piece) = of ≡ key
Serving key (Next of) = of ≡ key
Serving key other = ⊥

abbrev pub bytes_in : Occasion → List ℕ
bytes_in (Bytes of piece) = piece
bytes_in other = []

whole_not : (message rest : List ℕ) → Whole message rest ≢ Waits
whole_not message rest e = cc

faulty_not : (fault : FrameFault) → Faulty fault ≢ Waits
faulty_not fault e = cc

module _ (readers : Readers) (seat key : ℕ) where
  -- what comes of serving the next message so many times
  abbrev pub served : ℕ → Rest → List ℕ × Rest
  served zero r = ([], r)
  served (suc turns) r =
      let first = happened readers seat key r (Next key) in
      let later = served turns first.1 in
      (first.0 ++ later.0, later.1)

  -- the connection came, and then all of its bytes at once
  abbrev pub arrived : Rest → List ℕ → Rest
  arrived r bytes = (happened readers seat key (happened readers seat key r (Opened key None)).1 (Bytes key bytes)).1

  -- ## More bytes behind what is served

  abbrev end_fed : List ℕ → List ℕ × Rest → List ℕ × Rest
  end_fed piece end = (end.0, rest_more piece key end.1)

  mailed_more : (piece : List ℕ) (r : Rest) (deliveries : List Delivery) → mailed readers seat key (rest_more piece key r) deliveries ≡ end_fed piece (mailed readers seat key r deliveries)
  mailed_more piece r [] = refl
  mailed_more piece r (delivery ∷ deliveries) =
      let brought : List Deed × Rest = effect readers r (Mail delivery.slot delivery.number None delivery.said) in
      ap (λ (end : List Deed × Rest). let later : List ℕ × Rest = mailed readers seat key end.1 deliveries in let all : List ℕ × Rest = (bytes_done key end.0 ++ later.0, later.1) in all)
      (mail_given readers piece key r delivery.slot delivery.number delivery.said)
      ∙ ap (λ (later : List ℕ × Rest). let all : List ℕ × Rest = (bytes_done key brought.0 ++ later.0, later.1) in all) (mailed_more piece brought.1 deliveries)

  -- all that deeds bring
  abbrev by_deeds : List Deed × Rest → List ℕ × Rest
  by_deeds end = let later = mailed readers seat key end.1 (mail_done seat end.0) in (bytes_done key end.0 ++ later.0, later.1)

  by_deeds_more : (piece : List ℕ) (end : List Deed × Rest) → by_deeds (end_more piece key end) ≡ end_fed piece (by_deeds end)
  by_deeds_more piece end =
      ap (λ (later : List ℕ × Rest). let all : List ℕ × Rest = (bytes_done key end.0 ++ later.0, later.1) in all) (mailed_more piece end.1 (mail_done seat end.0))

  -- ## Turns

  -- there is nothing of the connection to be served
  abbrev Rests : Rest → Type 0
  Rests r = happened readers seat key r (Next key) ≡ ([], r)

  at_rest : (r : Rest) → effect readers r (Next key) ≡ ([], r) → Rests r
  at_rest r e = ap by_deeds e

  -- it makes no difference that these bytes come behind
  abbrev Goes_first : List ℕ → Rest → Type 0
  Goes_first later r = happened readers seat key (rest_more later key r) (Next key) ≡ end_fed later (happened readers seat key r (Next key))

  goes_first : (later : List ℕ) (r : Rest) → Commutes readers key later r → Goes_first later r
  goes_first later r e = ap by_deeds e ∙ by_deeds_more later (effect readers r (Next key))

  -- What stands at the front of the connection's bytes is read so also with these behind it.
  abbrev pub Settled : List ℕ → Rest → Type 0
  Settled later r = (p : Peer) → peer_at r.standing key ≡ Some p → TakesBytes p.stage → readers.incoming p.unread ≢ Waits → readers.incoming (p.unread ++ later) ≡ with_behind later (readers.incoming p.unread)

  rests_or_first : (later : List ℕ) (r : Rest) → Settled later r → Rests r ⊎ Goes_first later r
  rests_or_first later r settled = by_peer (peer_at r.standing key) refl
    where
      first : (p : Peer) → peer_at r.standing key ≡ Some p → TakesBytes p.stage → (incoming : Incoming) → readers.incoming p.unread ≡ incoming → incoming ≢ Waits → Goes_first later r
      first p here takes incoming so not_so =
          goes_first later r
          (commutes readers key later r p incoming not_so here so
          (settled p here takes (λ waits. not_so (sym so ∙ waits)) ∙ ap (λ (f : Incoming). with_behind later f) so))

      by_incoming : (p : Peer) → peer_at r.standing key ≡ Some p → TakesBytes p.stage → (incoming : Incoming) → readers.incoming p.unread ≡ incoming → Rests r ⊎ Goes_first later r
      by_incoming p here takes Waits so = inl (at_rest r (waiting_given readers key r p here so))
      by_incoming p here takes (Whole message rest) so = inr (first p here takes (Whole message rest) so (whole_not message rest))
      by_incoming p here takes (Faulty fault) so = inr (first p here takes (Faulty fault) so (faulty_not fault))

      by_stage : (p : Peer) → peer_at r.standing key ≡ Some p → (stage : Stage) → p.stage ≡ stage → Rests r ⊎ Goes_first later r
      by_stage p here (Authenticating setting state) is = inl (at_rest r (authenticating_given readers key r p setting state here is))
      by_stage p here (Unnamed privileged) is = by_incoming p here (subst (λ (stage : Stage). TakesBytes stage) (sym is) tt) (readers.incoming p.unread) refl
      by_stage p here (Named conn) is = by_incoming p here (subst (λ (stage : Stage). TakesBytes stage) (sym is) tt) (readers.incoming p.unread) refl
      by_stage p here (Closing conn) is = inl (at_rest r (closing_given readers key r p conn here is))

      by_peer : (o : Option Peer) → peer_at r.standing key ≡ o → Rests r ⊎ Goes_first later r
      by_peer None here = inl (at_rest r (none_given readers key r here))
      by_peer (Some p) here = by_stage p here p.stage refl

  served_at_rest : (n : ℕ) (r : Rest) → Rests r → served n r ≡ ([], r)
  served_at_rest zero r rests = refl
  served_at_rest (suc n) r rests =
      ap (λ (first : List ℕ × Rest). let later : List ℕ × Rest = served n first.1 in let all : List ℕ × Rest = (first.0 ++ later.0, later.1) in all) rests
      ∙ served_at_rest n r rests

  -- ## A connection that has begun its messages

  mailed_speaks : (r : Rest) (deliveries : List Delivery) → SpeaksAt key r.standing → SpeaksAt key (mailed readers seat key r deliveries).1.standing
  mailed_speaks r [] speaks = speaks
  mailed_speaks r (delivery ∷ deliveries) speaks =
      mailed_speaks (effect readers r (Mail delivery.slot delivery.number None delivery.said)).1 deliveries (mail_speaks readers key r delivery.slot delivery.number delivery.said speaks)

  happened_speaks : (r : Rest) → SpeaksAt key r.standing → SpeaksAt key (happened readers seat key r (Next key)).1.standing
  happened_speaks r speaks = let brought = effect readers r (Next key) in mailed_speaks brought.1 (mail_done seat brought.0) (next_speaks readers key r speaks)

  -- ## Events

  -- so it is whenever the connection is served
  abbrev pub AllSettled : List Occasion → Rest → Type 0
  AllSettled [] r = Unit {0}
  AllSettled (Next of ∷ occasions) r = Settled (flat_map bytes_in occasions) r × AllSettled occasions (happened readers seat key r (Next of)).1
  AllSettled (other ∷ occasions) r = AllSettled occasions (happened readers seat key r other).1

  abbrev ends_so : List ℕ → List ℕ × Rest → List ℕ × Rest
  ends_so first later = (first ++ later.0, later.1)

  -- what comes after a message that is served, or after nothing
  after_next : (occasions : List Occasion) (r : Rest) → SpeaksAt key r.standing → AllSettled occasions (happened readers seat key r (Next key)).1 → Rests (all_happened readers seat key r (Next key ∷ occasions)).1 →
      ((s : Rest) → SpeaksAt key s.standing → AllSettled occasions s → Rests (all_happened readers seat key s occasions).1 → (n : ℕ) → length occasions ≤ n →
      served n (rest_more (flat_map bytes_in occasions) key s) ≡ all_happened readers seat key s occasions) →
      Rests r ⊎ Goes_first (flat_map bytes_in occasions) r → (n : ℕ) → suc (length occasions) ≤ n →
      served n (rest_more (flat_map bytes_in occasions) key r) ≡ all_happened readers seat key r (Next key ∷ occasions)
  after_next occasions r speaks settled rests others (inl nothing) n many =
      let now : all_happened readers seat key r (Next key ∷ occasions) ≡ all_happened readers seat key r occasions =
      ap (λ (first : List ℕ × Rest). ends_so first.0 (all_happened readers seat key first.1 occasions)) nothing in
      let here = subst (λ (first : List ℕ × Rest). AllSettled occasions first.1) nothing settled in
      others r speaks here (subst (λ (end : List ℕ × Rest). Rests end.1) now rests) n (omega (arith, many)) ∙ sym now
  after_next occasions r speaks settled rests others (inr first) zero many = absurd (omega (arith, many))
  after_next occasions r speaks settled rests others (inr first) (suc n) many =
      let one : List ℕ × Rest = happened readers seat key r (Next key) in
      ap (λ (end : List ℕ × Rest). ends_so end.0 (served n end.1)) first
      ∙ ap (λ (later : List ℕ × Rest). ends_so one.0 later) (others one.1 (happened_speaks r speaks) settled rests n (omega (arith, many)))

  -- However the bytes come, and whenever their messages are served, it comes to what comes of all of them at once.
  as_at_once : (occasions : List Occasion) → AllByRecursion (Serving key) occasions → (r : Rest) → SpeaksAt key r.standing → AllSettled occasions r → Rests (all_happened readers seat key r occasions).1 → (n : ℕ) → length occasions ≤ n →
      served n (rest_more (flat_map bytes_in occasions) key r) ≡ all_happened readers seat key r occasions
  as_at_once [] all r speaks settled rests n many = ap (λ (s : Rest). served n s) (nothing_fed key r) ∙ served_at_rest n r rests
  as_at_once (Bytes of piece ∷ occasions) all r speaks settled rests n many =
      let came : happened readers seat key r (Bytes of piece) ≡ ([], rest_more piece key r) =
      ap (λ (k : ℕ). happened readers seat key r (Bytes k piece)) all.0 ∙ ap by_deeds (bytes_given readers piece key r speaks) in
      let now : all_happened readers seat key r (Bytes of piece ∷ occasions) ≡ all_happened readers seat key (rest_more piece key r) occasions =
      ap (λ (first : List ℕ × Rest). ends_so first.0 (all_happened readers seat key first.1 occasions)) came in
      let quiet = subst (λ (end : List ℕ × Rest). Rests end.1) now rests in
      let here = subst (λ (first : List ℕ × Rest). AllSettled occasions first.1) came settled in
      ap (λ (s : Rest). served n s) (sym (pieces_joined key piece (flat_map bytes_in occasions) r))
      ∙ as_at_once occasions all.1 (rest_more piece key r) (more_speaks piece key r speaks) here quiet n (omega (arith, many))
      ∙ sym now
  as_at_once (Next of ∷ occasions) all r speaks settled rests n many =
      let same : all_happened readers seat key r (Next of ∷ occasions) ≡ all_happened readers seat key r (Next key ∷ occasions) = ap (λ (k : ℕ). all_happened readers seat key r (Next k ∷ occasions)) all.0 in
      let here = subst (λ (k : ℕ). AllSettled occasions (happened readers seat key r (Next k)).1) all.0 settled.1 in
      after_next occasions r speaks here (subst (λ (end : List ℕ × Rest). Rests end.1) same rests)
      (λ s still so quiet m enough. as_at_once occasions all.1 s still so quiet m enough) (rests_or_first (flat_map bytes_in occasions) r settled.0) n many
      ∙ sym same
  as_at_once (other ∷ occasions) all r speaks settled rests n many = absurd all.0

  -- ## From the first event on

  pub all_at_once : (occasions : List Occasion) (r : Rest) (read : List ℕ) → AllByRecursion (Serving key) occasions → read ≡ flat_map bytes_in occasions →
      AllSettled occasions (happened readers seat key r (Opened key None)).1 →
      effect readers (all_happened readers seat key r (Opened key None ∷ occasions)).1 (Next key) ≡ ([], (all_happened readers seat key r (Opened key None ∷ occasions)).1) →
      (n : ℕ) → length occasions ≤ n → served n (arrived r read) ≡ all_happened readers seat key (happened readers seat key r (Opened key None)).1 occasions
  all_at_once occasions r read serving reads settled quiet n many =
      let opened : List ℕ × Rest = happened readers seat key r (Opened key None) in
      let speaks : SpeaksAt key opened.1.standing = comes_speaking r.standing key in
      let came : arrived r read ≡ rest_more (flat_map bytes_in occasions) key opened.1 =
      ap (λ (end : List Deed × Rest). (by_deeds end).1) (bytes_given readers read key opened.1 speaks) ∙ ap (λ (bytes : List ℕ). rest_more bytes key opened.1) reads in
      ap (λ (s : Rest). served n s) came
      ∙ as_at_once occasions serving opened.1 speaks settled (at_rest (all_happened readers seat key opened.1 occasions).1 quiet) n many
