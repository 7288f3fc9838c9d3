-- A connection that says who it is: it does not matter how its bytes are cut.
use Rattle.std.proofs.Common.{◌≡◌, ℕ, zero, suc, Bool, true, false, ◌==◌, Option, Some, None, List, [], ◌∷◌, ◌++◌, get_or, set, refl, sym, ap, ◌∙◌, subst, append_assoc, append-nil, if◌then◌else◌}
use Rattle.std.specs.Prelude.{IfSome}
use Rattle.sasl.specs.declared.fault.AuthenticationFault.{AuthenticationFault}
use Rattle.sasl.specs.declared.identity.Identity.{Identity}
use Rattle.sasl.specs.declared.phase.Phase.{Phase}
use Rattle.sasl.specs.declared.phase.Phase.TheVariants.{WaitingForNul, WaitingForAuth, WaitingForData, WaitingForBegin, Done, Closed}
use Rattle.sasl.specs.Settings.{Setting}
use Rattle.sasl.specs.Conversations.{State as AuthState, at, done, closed}
use Rattle.sasl.specs.Hearing.{Conversed, silent, conversed}
use Rattle.sasl.proofs.Runs.{conversation_goes_on}
use Rattle.sasl.proofs.Outcomes.{outcome, outcome_is}
use Rattle.router_core.specs.declared.cause.CloseCause.TheVariants as cause
use Rattle.router_core.specs.Deeds.{Deed, Writes, Closes}
use Rattle.router_core.specs.Events.{Bytes, Stands, for_peer, with_bytes, is_user, answering, after_conversing, hearing}
use Rattle.router_core.specs.OneThread.{Rest, bytes_if, opening_of, bytes_to}
use Rattle.router_core.proofs.Alone.{Readers, effect}
use Rattle.router_core.specs.Scripts.{Gives, and_then}
use Rattle.router_core.specs.Standing.{Stage, Authenticating, Unnamed, Closing, Peer, SpeaksDBus, peer_at, with_peer, conn_of, closing_peer}
use Rattle.router.proofs.Feeding.{bytes_given, come_to, more_if, rest_more, standing_so}

-- ## The conversation

-- what was said first, and then more
abbrev joined : Conversed → Conversed → Conversed
joined first more = record { sent = first.sent ++ more.sent; state = more.state; left = more.left }

abbrev said_more : Setting → Conversed → List ℕ → Conversed
said_more s first piece = conversed s first.state [] (first.left ++ piece)

goes_on : (s : Setting) (from : AuthState) (text piece : List ℕ) → conversed s from [] (text ++ piece) ≡ joined (conversed s from [] text) (said_more s (conversed s from [] text) piece)
goes_on s from text piece =
    let first = conversed s from [] text in
    let more = said_more s first piece in
    outcome_is s from (text ++ piece) (first.sent ++ more.sent) more.state more.left
    (conversation_goes_on s from text first.sent first.state first.left (outcome s from text) piece more.sent more.state more.left (outcome s first.state (first.left ++ piece)))

after_done : (s : Setting) (identity : Identity) (state : AuthState) (text : List ℕ) → state.phase ≡ Done identity → conversed s state [] text ≡ silent state text
after_done s identity state text is =
    let same : state ≡ at (Done identity) state.rejections = λ i. at (is i) state.rejections in
    subst (λ (t : AuthState). conversed s t [] text ≡ silent t text) (sym same) (outcome_is s (at (Done identity) state.rejections) text [] (at (Done identity) state.rejections) text (done identity state.rejections text))

after_close : (s : Setting) (fault : AuthenticationFault) (state : AuthState) (text : List ℕ) → state.phase ≡ Closed fault → conversed s state [] text ≡ silent state []
after_close s fault state text is =
    let same : state ≡ at (Closed fault) state.rejections = λ i. at (is i) state.rejections in
    subst (λ (t : AuthState). conversed s t [] text ≡ silent t []) (sym same) (outcome_is s (at (Closed fault) state.rejections) text [] (at (Closed fault) state.rejections) [] (closed fault state.rejections text))

-- ## What is done

abbrev writes : ℕ → List ℕ → List Deed
writes key [] = []
writes key (b ∷ bytes) = Writes key (b ∷ bytes) ∷ []

abbrev closes : ℕ → Phase → List Deed
closes key WaitingForNul = []
closes key WaitingForAuth = []
closes key (WaitingForData due) = []
closes key (WaitingForBegin identity) = []
closes key (Done identity) = []
closes key (Closed fault) = Closes key (cause.Unauthenticated fault) ∷ []

abbrev peer_after : Setting → Peer → Conversed → Phase → Peer
peer_after setting p said WaitingForNul = record p { stage = Authenticating setting said.state; unread = said.left }
peer_after setting p said WaitingForAuth = record p { stage = Authenticating setting said.state; unread = said.left }
peer_after setting p said (WaitingForData due) = record p { stage = Authenticating setting said.state; unread = said.left }
peer_after setting p said (WaitingForBegin identity) = record p { stage = Authenticating setting said.state; unread = said.left }
peer_after setting p said (Done identity) = record p { stage = Unnamed (is_user identity); unread = said.left }
peer_after setting p said (Closed fault) = closing_peer p

set_twice : (xs : List (Option Peer)) (k : ℕ) (x y : Option Peer) → set (set xs k x) k y ≡ set xs k y
set_twice [] k x y = refl
set_twice (z ∷ xs) zero x y = refl
set_twice (z ∷ xs) (suc k) x y = ap (λ (l : List (Option Peer)). z ∷ l) (set_twice xs k x y)

set_there : (xs : List (Option Peer)) (k : ℕ) (p : Peer) (o : Option Peer) → get_or xs k None ≡ Some p → get_or (set xs k o) k None ≡ o
set_there [] k p o here = let never : ◌≡◌ {A = Option Peer} None (Some p) = here in absurd (cc)
set_there (z ∷ xs) zero p o here = refl
set_there (z ∷ xs) (suc k) p o here = set_there xs k p o here

module _ (readers : Readers) (key : ℕ) where
  abbrev peer_so : Rest → Peer → Rest
  peer_so r p = standing_so r (with_peer r.standing key (Some p))

  abbrev heard_so : Rest → Setting → Peer → Conversed → Phase → List Deed × Rest
  heard_so r setting p said phase = (writes key said.sent ++ closes key phase, peer_so r (peer_after setting p said phase))

  abbrev script_so : Rest → Setting → Peer → Conversed → List ℕ → Phase → Stands
  script_so r setting p said sent phase = and_then (and_then (answering key sent (after_conversing key setting said phase p)) (λ q. Gives (Some q))) (λ q. Gives (with_peer r.standing key q))

  by_phase : (r : Rest) (setting : Setting) (p : Peer) (said : Conversed) (phase : Phase) → come_to readers r (script_so r setting p said [] phase) ≡ (closes key phase, peer_so r (peer_after setting p said phase))
  by_phase r setting p said WaitingForNul = refl
  by_phase r setting p said WaitingForAuth = refl
  by_phase r setting p said (WaitingForData due) = refl
  by_phase r setting p said (WaitingForBegin identity) = refl
  by_phase r setting p said (Done identity) = refl
  by_phase r setting p said (Closed fault) = refl

  by_phase_written : (r : Rest) (setting : Setting) (p : Peer) (said : Conversed) (b : ℕ) (bytes : List ℕ) (phase : Phase) →
      come_to readers r (script_so r setting p said (b ∷ bytes) phase) ≡ (Writes key (b ∷ bytes) ∷ closes key phase, peer_so r (peer_after setting p said phase))
  by_phase_written r setting p said b bytes WaitingForNul = refl
  by_phase_written r setting p said b bytes WaitingForAuth = refl
  by_phase_written r setting p said b bytes (WaitingForData due) = refl
  by_phase_written r setting p said b bytes (WaitingForBegin identity) = refl
  by_phase_written r setting p said b bytes (Done identity) = refl
  by_phase_written r setting p said b bytes (Closed fault) = refl

  by_sent : (r : Rest) (setting : Setting) (p : Peer) (said : Conversed) (sent : List ℕ) (phase : Phase) →
      come_to readers r (script_so r setting p said sent phase) ≡ (writes key sent ++ closes key phase, peer_so r (peer_after setting p said phase))
  by_sent r setting p said [] phase = by_phase r setting p said phase
  by_sent r setting p said (b ∷ bytes) phase = by_phase_written r setting p said b bytes phase

  hear_given : (r : Rest) (p : Peer) (setting : Setting) (state : AuthState) → peer_at r.standing key ≡ Some p → p.stage ≡ Authenticating setting state → (piece : List ℕ) →
      effect readers r (Bytes key piece) ≡ heard_so r setting p (conversed setting state [] (p.unread ++ piece)) (conversed setting state [] (p.unread ++ piece)).state.phase
  hear_given r p setting state here is piece =
      let said = conversed setting state [] (p.unread ++ piece) in
      ap (λ (o : Option Peer). come_to readers r (for_peer r.standing key o (λ q. hearing key piece q q.stage))) here
      ∙ ap (λ (stage : Stage). come_to readers r (and_then (and_then (hearing key piece p stage) (λ q. Gives (Some q))) (λ q. Gives (with_peer r.standing key q)))) is
      ∙ by_sent r setting p said said.sent said.state.phase

  -- ## The bytes that go to it

  module _ (opening : ℕ) (keys : List ℕ) where
    abbrev to_it : List ℕ → List ℕ
    to_it bytes = bytes_if opening (opening_of key keys) bytes

    nothing_to_it : [] ≡ to_it []
    nothing_to_it = by_test (opening == opening_of key keys)
      where
        by_test : (b : Bool) → ◌≡◌ {A = List ℕ} [] (if b then [] else [])
        by_test true = refl
        by_test false = refl

    more_to_it : (first second : List ℕ) → to_it first ++ to_it second ≡ to_it (first ++ second)
    more_to_it first second = by_test (opening == opening_of key keys)
      where
        by_test : (b : Bool) → (if b then first else []) ++ (if b then second else []) ≡ (if b then first ++ second else [])
        by_test true = refl
        by_test false = refl

    closes_write : (phase : Phase) → bytes_to opening keys (closes key phase) ≡ []
    closes_write WaitingForNul = refl
    closes_write WaitingForAuth = refl
    closes_write (WaitingForData due) = refl
    closes_write (WaitingForBegin identity) = refl
    closes_write (Done identity) = refl
    closes_write (Closed fault) = refl

    written_so : (sent : List ℕ) (phase : Phase) → bytes_to opening keys (writes key sent ++ closes key phase) ≡ to_it sent
    written_so [] phase = closes_write phase ∙ nothing_to_it
    written_so (b ∷ bytes) phase = ap (λ (l : List ℕ). to_it (b ∷ bytes) ++ l) (closes_write phase) ∙ append-nil (to_it (b ∷ bytes))

    module _ (r : Rest) (p : Peer) (setting : Setting) (state : AuthState) (here : peer_at r.standing key ≡ Some p) (is : p.stage ≡ Authenticating setting state) (first second : List ℕ) where
      abbrev said : Conversed
      said = conversed setting state [] (p.unread ++ first)

      abbrev more : Conversed
      more = said_more setting said second

      all_said : conversed setting state [] (p.unread ++ (first ++ second)) ≡ joined said more
      all_said = ap (conversed setting state []) (sym (append_assoc p.unread first second)) ∙ goes_on setting state (p.unread ++ first) second

      all_given : effect readers r (Bytes key (first ++ second)) ≡ heard_so r setting p (joined said more) more.state.phase
      all_given = hear_given r p setting state here is (first ++ second) ∙ ap (λ (s : Conversed). heard_so r setting p s s.state.phase) all_said

      there : (q : Peer) → peer_at (peer_so r q).standing key ≡ Some q
      there q = set_there r.standing.peers key p (Some q) here

      over : (q o : Peer) → peer_so (peer_so r q) o ≡ peer_so r o
      over q o = ap (λ (peers : List (Option Peer)). let rest : Rest = record { standing = record r.standing { peers = peers }; view = r.view } in rest) (set_twice r.standing.peers key (Some q) (Some o))

      -- what the two come to is what comes of both at once
      abbrev Joins : List Deed × Rest → Type 0
      Joins one =
          let two = effect readers one.1 (Bytes key second) in
          let all = heard_so r setting p (joined said more) more.state.phase in
          (bytes_to opening keys one.0 ++ bytes_to opening keys two.0 ≡ bytes_to opening keys all.0) × (two.1 ≡ all.1)

      joins_by : (phase : Phase) (q : Peer) (deeds : List Deed) (end : Rest) → effect readers (peer_so r q) (Bytes key second) ≡ (deeds, end) →
          bytes_to opening keys deeds ≡ to_it more.sent → end ≡ peer_so r (peer_after setting p (joined said more) more.state.phase) → Joins (writes key said.sent ++ closes key phase, peer_so r q)
      joins_by phase q deeds end came written same = (
        ap (λ (l : List ℕ). l ++ bytes_to opening keys (effect readers (peer_so r q) (Bytes key second)).0) (written_so said.sent phase)
            ∙ ap (λ (two : List Deed × Rest). to_it said.sent ++ bytes_to opening keys two.0) came
            ∙ ap (λ (l : List ℕ). to_it said.sent ++ l) written
            ∙ more_to_it said.sent more.sent
            ∙ sym (written_so (said.sent ++ more.sent) more.state.phase),
        ap (λ (two : List Deed × Rest). two.1) came ∙ same,
      )

      -- a connection that goes on saying who it is
      open_after : (q : Peer) → q ≡ record p { stage = Authenticating setting said.state; unread = said.left } → (phase : Phase) → Joins (writes key said.sent ++ closes key phase, peer_so r q)
      open_after q at_it phase = subst (λ (x : Peer). Joins (writes key said.sent ++ closes key phase, peer_so r x)) (sym at_it) (joins_by phase now (writes key more.sent ++ closes key more.state.phase) _ heard (written_so more.sent more.state.phase) (over now (peer_after setting now more more.state.phase) ∙ ap (λ (x : Peer). peer_so r x) (alike more.state.phase)))
        where
          now : Peer
          now = record p { stage = Authenticating setting said.state; unread = said.left }

          heard : effect readers (peer_so r now) (Bytes key second) ≡ heard_so (peer_so r now) setting now more more.state.phase
          heard = hear_given (peer_so r now) now setting said.state (there now) refl second

          alike : (ph : Phase) → peer_after setting now more ph ≡ peer_after setting p (joined said more) ph
          alike WaitingForNul = refl
          alike WaitingForAuth = refl
          alike (WaitingForData due) = refl
          alike (WaitingForBegin identity) = refl
          alike (Done identity) = refl
          alike (Closed fault) = ap (λ (stage : Stage). let x : Peer = record p { stage = Closing (conn_of stage); unread = [] } in x) (sym is)

      -- one that speaks D-Bus from then on, or was closed
      quiet_after : (phase : Phase) (q : Peer) → SpeaksDBus q.stage → more.sent ≡ [] → with_bytes second q q.stage ≡ peer_after setting p (joined said more) more.state.phase → Joins (writes key said.sent ++ closes key phase, peer_so r q)
      quiet_after phase q begun none same =
          let speaks : IfSome (peer_at (peer_so r q).standing key) (λ x. SpeaksDBus x.stage) = subst (λ (o : Option Peer). IfSome o (λ x. SpeaksDBus x.stage)) (sym (there q)) begun in
          let fed_so : rest_more second key (peer_so r q) ≡ peer_so r (with_bytes second q q.stage) =
          ap (λ (o : Option Peer). standing_so (peer_so r q) (with_peer (peer_so r q).standing key (more_if second key o))) (there q) ∙ over q (with_bytes second q q.stage) in
          joins_by phase q [] (rest_more second key (peer_so r q)) (bytes_given readers second key (peer_so r q) speaks) (nothing_to_it ∙ ap to_it (sym none)) (fed_so ∙ ap (λ (x : Peer). peer_so r x) same)

      joins : (phase : Phase) → said.state.phase ≡ phase → Joins (writes key said.sent ++ closes key phase, peer_so r (peer_after setting p said phase))
      joins WaitingForNul at_it = open_after (peer_after setting p said WaitingForNul) refl WaitingForNul
      joins WaitingForAuth at_it = open_after (peer_after setting p said WaitingForAuth) refl WaitingForAuth
      joins (WaitingForData due) at_it = open_after (peer_after setting p said (WaitingForData due)) refl (WaitingForData due)
      joins (WaitingForBegin identity) at_it = open_after (peer_after setting p said (WaitingForBegin identity)) refl (WaitingForBegin identity)
      joins (Done identity) at_it =
          let silence = after_done setting identity said.state (said.left ++ second) at_it in
          quiet_after (Done identity) (peer_after setting p said (Done identity)) tt (ap (λ (s : Conversed). s.sent) silence)
          (ap (λ (s : Conversed). peer_after setting p (joined said s) (Done identity)) (sym silence) ∙ ap (λ (ph : Phase). peer_after setting p (joined said more) ph) (sym (ap (λ (s : Conversed). s.state.phase) silence ∙ at_it)))
      joins (Closed fault) at_it =
          let silence = after_close setting fault said.state (said.left ++ second) at_it in
          quiet_after (Closed fault) (peer_after setting p said (Closed fault)) tt (ap (λ (s : Conversed). s.sent) silence)
          (ap (λ (ph : Phase). peer_after setting p (joined said more) ph) (sym (ap (λ (s : Conversed). s.state.phase) silence ∙ at_it)))

      pub hears_joined :
          (bytes_to opening keys (effect readers r (Bytes key first)).0 ++ bytes_to opening keys (effect readers (effect readers r (Bytes key first)).1 (Bytes key second)).0 ≡ bytes_to opening keys (effect readers r (Bytes key (first ++ second))).0)
          × ((effect readers (effect readers r (Bytes key first)).1 (Bytes key second)).1 ≡ (effect readers r (Bytes key (first ++ second))).1)
      hears_joined =
          let one : effect readers r (Bytes key first) ≡ heard_so r setting p said said.state.phase = hear_given r p setting state here is first in
          let came : Joins (effect readers r (Bytes key first)) = subst (λ (end : List Deed × Rest). Joins end) (sym one) (joins said.state.phase refl) in
          (came.0 ∙ ap (λ (end : List Deed × Rest). bytes_to opening keys end.0) (sym all_given), came.1 ∙ ap (λ (end : List Deed × Rest). end.1) (sym all_given))
