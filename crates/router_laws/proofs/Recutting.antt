-- However bytes are cut, the same comes of them.
use Rattle.std.proofs.Common.{◌≡◌, ℕ, true, false, Option, Some, None, List, [], ◌∷◌, ◌++◌, refl, sym, ap, ◌∙◌, subst, append_assoc, append-nil}
use Rattle.std.specs.Prelude.{IfSome}
use Rattle.sasl.specs.declared.phase.Phase.{Phase}
use Rattle.sasl.specs.declared.phase.Phase.TheVariants.{WaitingForNul, WaitingForAuth, WaitingForData, WaitingForBegin, Done, Closed}
use Rattle.sasl.specs.Settings.{Setting}
use Rattle.sasl.specs.Hearing.{Conversed, conversed}
use Rattle.bus_view.specs.Views.{Knowledge}
use Rattle.router_core.specs.Acts.{Exchange, Wanted, Goes, IsGranted, IsLawful, IsServedBy}
use Rattle.router_core.specs.Deeds.{Deed}
use Rattle.router_core.specs.Events.{Occasion, Bytes, Next, Turn, Stands, answering, after_conversing, for_peer, hearing, serving_next, next_at, serving_incoming}
use Rattle.router_core.specs.Incoming.{Incoming, Waits, IsIncoming}
use Rattle.router_core.specs.OneThread.{Rest, bytes_to, keys_after}
use Rattle.router_core.proofs.Alone.{Course, Readers, alone, doing, effect}
use Rattle.router_core.specs.Scripts.{Script, Gives, Framing, Wanting, Doing, and_then}
use Rattle.router_core.specs.Standing.{Peer, Stage, Standing, SpeaksDBus, Authenticating, Unnamed, Named, Closing, peer_at, with_peer}
use Rattle.router_core.proofs.Functions.{effect_is}
use Rattle.router.proofs.Conversations.{hears_joined}
use Rattle.router.proofs.Feeding.{bytes_given, pieces_joined, rest_more}
use Rattle.router_core.proofs.Grants.{granted_parts, read_parts}
use Rattle.router.proofs.Speaking.{Speaks, SpeaksAt, more_speaks}
use Rattle.router_laws.specs.Turns.{Turn as Served, exchanges_of}
use Rattle.router_laws.specs.Cuts.{BytesComeWhenever, HasCome, HaveAllOf, LinesAreNotServed, PiecesAreJoined, ShortMessagesWait, TurnsLeaveOut, without_key}
use Rattle.router_laws.specs.Logins.{is_of}
use Rattle.router_laws.specs.GrantedRuns.{IsGrantedRun}
use Rattle.router_laws.proofs.Agreeing.{run_right, runs_are_one}
use Rattle.router_core.proofs.Incoming.{incoming_is_one}
use Rattle.router_laws.proofs.Enough.{does_the_same}
use Rattle.router_laws.proofs.Omitting.{without_it}
use Rattle.router_laws.proofs.Joining.{StandFor, between, granted_append}
use Rattle.router_laws.proofs.Letting.{other_passes}
use Rattle.router_laws.proofs.Stages.{Passes, PassesAt, as_it_was, unnamed_still, has_name, was_closed}
use Rattle.router_core.proofs.Readers.{read_so, readers_of}

abbrev as_rest : Standing → Knowledge → Rest
as_rest s k = record { standing = s; view = k }

same_rest : (r : Rest) (s : Standing) (k : Knowledge) → r.standing ≡ s → r.view ≡ k → r ≡ as_rest s k
same_rest r s k e v = λ i. as_rest (e i) (v i)

-- ## Bytes come

-- It asks for nothing but memory, and does something.
abbrev AsksNothing : {X : Type 0} → Script X → Type 0
AsksNothing (Gives x) = Unit {0}
AsksNothing (Wanting goes_on) = AsksNothing (goes_on true)
AsksNothing (Doing deed s) = AsksNothing s
AsksNothing other = ⊥

module _ (readers : Readers) {X : Type 0} where
  -- It may go so, and nothing is refused then.
  record MayGo (s : Script X) (c : Course) : Type 0 where
    asked : List Exchange
    deeds : List Deed
    goes : Goes s asked deeds (alone readers s c).0
    lawful : (k : Knowledge) → IsLawful true k asked k
    granted : IsGranted asked
    view : (alone readers s c).1.view ≡ c.view
    done : (alone readers s c).1.deeds ≡ c.deeds ++ deeds

  may_go : (s : Script X) (c : Course) → AsksNothing s → MayGo s c
  may_go (Gives x) c nothing = record {
    asked = [];
    deeds = [];
    goes = (refl, refl, refl);
    lawful = λ k. refl;
    granted = tt;
    view = refl;
    done = sym (append-nil c.deeds);
  }
  may_go (Wanting goes_on) c nothing =
      let h = may_go (goes_on true) c nothing in
      record {
        asked = Wanted true ∷ h.asked;
        deeds = h.deeds;
        goes = (true, h.asked, refl, h.goes);
        lawful = h.lawful;
        granted = h.granted;
        view = h.view;
        done = h.done;
      }
  may_go (Doing deed s) c nothing =
      let h = may_go s (doing c (deed ∷ [])) nothing in
      record {
        asked = h.asked;
        deeds = deed ∷ h.deeds;
        goes = (h.deeds, refl, h.goes);
        lawful = h.lawful;
        granted = h.granted;
        view = h.view;
        done = h.done ∙ append_assoc c.deeds (deed ∷ []) h.deeds;
      }
  may_go other c nothing = absurd nothing

module _ (key : ℕ) (piece : List ℕ) where
  -- what a conversation comes to is written, and kept
  abbrev conversing : Standing → Setting → Conversed → Peer → List ℕ → Phase → Stands
  conversing s setting said p sent phase = and_then (and_then (answering key sent (after_conversing key setting said phase p)) (λ q. Gives (Some q))) (λ q. Gives (with_peer s key q))

  phase_asks_nothing : (s : Standing) (setting : Setting) (said : Conversed) (p : Peer) (phase : Phase) → AsksNothing (conversing s setting said p [] phase)
  phase_asks_nothing s setting said p WaitingForNul = tt
  phase_asks_nothing s setting said p WaitingForAuth = tt
  phase_asks_nothing s setting said p (WaitingForData due) = tt
  phase_asks_nothing s setting said p (WaitingForBegin identity) = tt
  phase_asks_nothing s setting said p (Done identity) = tt
  phase_asks_nothing s setting said p (Closed fault) = tt

  conversing_asks_nothing : (s : Standing) (setting : Setting) (said : Conversed) (p : Peer) (sent : List ℕ) (phase : Phase) → AsksNothing (conversing s setting said p sent phase)
  conversing_asks_nothing s setting said p [] phase = phase_asks_nothing s setting said p phase
  conversing_asks_nothing s setting said p (b ∷ bytes) phase = phase_asks_nothing s setting said p phase

  bytes_ask_nothing : (s : Standing) (o : Option Peer) → AsksNothing (for_peer s key o (λ p. hearing key piece p p.stage))
  bytes_ask_nothing s None = tt
  bytes_ask_nothing s (Some p) = by_stage p.stage
    where
      by_stage : (stage : Stage) → AsksNothing (and_then (and_then (hearing key piece p stage) (λ q. Gives (Some q))) (λ q. Gives (with_peer s key q)))
      by_stage (Authenticating setting state) =
          let said = conversed setting state [] (p.unread ++ piece) in
          conversing_asks_nothing s setting said p said.sent said.state.phase
      by_stage (Unnamed privileged) = tt
      by_stage (Named conn) = tt
      by_stage (Closing conn) = tt

  -- an end that bytes may bring, and nothing is refused
  abbrev MayBring : Rest → List Deed × Rest → Type 0
  MayBring r end = (asked : List Exchange) × IsServedBy true r.standing r.view (Bytes key piece) asked end.0 end.1.standing end.1.view × IsGranted asked

  bytes_may : (readers : Readers) (r : Rest) → MayBring r (effect readers r (Bytes key piece))
  bytes_may readers r =
      let s : Stands = for_peer r.standing key (peer_at r.standing key) (λ p. hearing key piece p p.stage) in
      let c : Course = record { view = r.view; deeds = [] } in
      let h = may_go readers s c (bytes_ask_nothing r.standing (peer_at r.standing key)) in
      let end : Standing × Course = alone readers s c in (
        h.asked,
        record {
          goes = subst (λ (ds : List Deed). Goes s h.asked ds end.0) (sym h.done) h.goes;
          lawful = subst (λ (k : Knowledge). IsLawful true r.view h.asked k) (sym h.view) (h.lawful r.view);
        },
        h.granted,
      )

abbrev turn_of : List Exchange → List Deed → Served
turn_of asked deeds = record { asked = asked; deeds = deeds }

-- two pieces bring the bytes that both at once bring, and leave the same
given_joined : (readers : Readers) (key : ℕ) (r : Rest) (first second : List ℕ) (opening : ℕ) (keys : List ℕ) →
    (bytes_to opening keys (effect readers r (Bytes key first)).0 ++ bytes_to opening keys (effect readers (effect readers r (Bytes key first)).1 (Bytes key second)).0
    ≡ bytes_to opening keys (effect readers r (Bytes key (first ++ second))).0)
    × ((effect readers (effect readers r (Bytes key first)).1 (Bytes key second)).1 ≡ (effect readers r (Bytes key (first ++ second))).1)
given_joined readers key r first second opening keys = by_peer (peer_at r.standing key) refl
  where
    one : List Deed × Rest
    one = effect readers r (Bytes key first)

    two : List Deed × Rest
    two = effect readers one.1 (Bytes key second)

    all : List Deed × Rest
    all = effect readers r (Bytes key (first ++ second))

    Joined : Type 0
    Joined = (bytes_to opening keys one.0 ++ bytes_to opening keys two.0 ≡ bytes_to opening keys all.0) × (two.1 ≡ all.1)

    speaking : SpeaksAt key r.standing → Joined
    speaking speaks =
        let fed_first = bytes_given readers first key r speaks in
        let fed_both : two ≡ ([], rest_more second key (rest_more first key r)) =
        ap (λ (end : List Deed × Rest). effect readers end.1 (Bytes key second)) fed_first ∙ bytes_given readers second key (rest_more first key r) (more_speaks first key r speaks) in
        let at_once = bytes_given readers (first ++ second) key r speaks in (
          ap (λ (end : List Deed × Rest). bytes_to opening keys end.0 ++ bytes_to opening keys two.0) fed_first
              ∙ ap (λ (end : List Deed × Rest). bytes_to opening keys end.0) fed_both
              ∙ sym (ap (λ (end : List Deed × Rest). bytes_to opening keys end.0) at_once),
          ap (λ (end : List Deed × Rest). end.1) fed_both ∙ pieces_joined key first second r ∙ sym (ap (λ (end : List Deed × Rest). end.1) at_once),
        )

    begun : (p : Peer) → peer_at r.standing key ≡ Some p → (stage : Stage) → p.stage ≡ stage → SpeaksDBus stage → Joined
    begun p here stage is speaks = speaking (subst (λ (o : Option Peer). IfSome o Speaks) (sym here) (subst (λ (st : Stage). SpeaksDBus st) (sym is) speaks))

    by_stage : (p : Peer) → peer_at r.standing key ≡ Some p → (stage : Stage) → p.stage ≡ stage → Joined
    by_stage p here (Authenticating setting state) is = hears_joined readers key opening keys r p setting state here is first second
    by_stage p here (Unnamed privileged) is = begun p here (Unnamed privileged) is tt
    by_stage p here (Named conn) is = begun p here (Named conn) is tt
    by_stage p here (Closing conn) is = begun p here (Closing conn) is tt

    by_peer : (o : Option Peer) → peer_at r.standing key ≡ o → Joined
    by_peer None here = speaking (subst (λ (o : Option Peer). IfSome o Speaks) (sym here) tt)
    by_peer (Some p) here = by_stage p here p.stage refl

joined : (key : ℕ) (first second : List ℕ) (r : Rest) → StandFor r (Bytes key first ∷ Bytes key second ∷ []) (Bytes key (first ++ second) ∷ [])
joined key first second r [] after run = absurd run.served
joined key first second r (one ∷ []) after run = absurd run.served.2
joined key first second r (one ∷ two ∷ three ∷ turns) after run = absurd run.served.2.2
joined key first second r (one ∷ two ∷ []) after run =
    let readers : Readers = readers_of (exchanges_of (one ∷ two ∷ [])) in
    let read = read_so (exchanges_of (one ∷ two ∷ [])) (run_right r after (Bytes key first ∷ Bytes key second ∷ []) (one ∷ two ∷ []) run) in
    let grants = granted_parts one.asked (two.asked ++ []) run.granted in
    let reads = read_parts readers one.asked (two.asked ++ []) read in
    let last_grants = granted_parts two.asked [] grants.1 in
    let last_reads = read_parts readers two.asked [] reads.1 in
    let first_end : List Deed × Rest = effect readers r (Bytes key first) in
    let last_end : List Deed × Rest = effect readers first_end.1 (Bytes key second) in
    let all : List Deed × Rest = effect readers r (Bytes key (first ++ second)) in
    let a = effect_is readers r run.served.0 (Bytes key first) one.asked one.deeds run.served.1 grants.0 reads.0 in
    let b = effect_is readers run.served.0 run.served.2.0 (Bytes key second) two.asked two.deeds run.served.2.1 last_grants.0 last_reads.0 in
    let same : effect readers run.served.0 (Bytes key second) ≡ last_end = ap (λ (s : Rest). effect readers s (Bytes key second)) a.1 in
    let may = bytes_may key (first ++ second) readers r in
    let end : after ≡ all.1 = run.served.2.2 ∙ b.1 ∙ ap (λ (e : List Deed × Rest). e.1) same ∙ (given_joined readers key r first second 0 []).1 in (
      turn_of may.0 all.0 ∷ [],
      record { served = (all.1, may.1, end); granted = granted_append may.0 [] may.2 tt },
      λ opening keys.
          let here : List ℕ = bytes_to opening keys first_end.0 in
          let there : List ℕ = bytes_to opening keys last_end.0 in
          sym (
          ap (λ (ds : List Deed). bytes_to opening keys ds ++ (bytes_to opening keys two.deeds ++ [])) a.0
          ∙ ap (λ (ds : List Deed). here ++ (bytes_to opening keys ds ++ [])) (b.0 ∙ ap (λ (e : List Deed × Rest). e.0) same)
          ∙ sym (append_assoc here there [])
          ∙ ap (λ (bytes : List ℕ). bytes ++ []) (given_joined readers key r first second opening keys).0
          ),
    )

-- ## Nothing to be served

module _ (key : ℕ) (s : Standing) (p : Peer) where
  -- the next message is not served
  abbrev IsLeft : Stage → Type 0
  IsLeft stage = (k m : Knowledge) (asked : List Exchange) (deeds : List Deed) (x : Standing) → Goes (next_at s key p stage) asked deeds x → IsLawful true k asked m →
      (deeds ≡ []) × (x ≡ s) × (m ≡ k)

  reads_nothing : IsIncoming p.unread Waits → (k m : Knowledge) (asked : List Exchange) (deeds : List Deed) (x : Standing) → Goes (Framing p.unread (λ incoming. serving_incoming s key p incoming)) asked deeds x → IsLawful true k asked m →
      (deeds ≡ []) × (x ≡ s) × (m ≡ k)
  reads_nothing is k m asked deeds x goes lawful =
      let there = subst (λ (a : List Exchange). IsLawful true k a m) goes.2 lawful in
      let so = subst (λ (f : Incoming). Goes (serving_incoming s key p f) goes.1 deeds x) (incoming_is_one p.unread goes.0 Waits there.0 is) goes.3 in
      (so.1, so.2, subst (λ (a : List Exchange). IsLawful true k a m) so.0 there.1)

  short_is_left : IsIncoming p.unread Waits → (stage : Stage) → IsLeft stage
  short_is_left is (Authenticating setting state) k m asked deeds x goes lawful = (goes.1, goes.2, subst (λ (a : List Exchange). IsLawful true k a m) goes.0 lawful)
  short_is_left is (Unnamed privileged) k m asked deeds x goes lawful = reads_nothing is k m asked deeds x goes lawful
  short_is_left is (Named conn) k m asked deeds x goes lawful = reads_nothing is k m asked deeds x goes lawful
  short_is_left is (Closing conn) k m asked deeds x goes lawful = (goes.1, goes.2, subst (λ (a : List Exchange). IsLawful true k a m) goes.0 lawful)

  lines_are_left : (stage : Stage) → (SpeaksDBus stage → ⊥) → IsLeft stage
  lines_are_left (Authenticating setting state) says k m asked deeds x goes lawful = (goes.1, goes.2, subst (λ (a : List Exchange). IsLawful true k a m) goes.0 lawful)
  lines_are_left (Unnamed privileged) says k m asked deeds x goes lawful = absurd (says tt)
  lines_are_left (Named conn) says k m asked deeds x goes lawful = absurd (says tt)
  lines_are_left (Closing conn) says k m asked deeds x goes lawful = absurd (says tt)

waits : (key : ℕ) (r : Rest) (p : Peer) → peer_at r.standing key ≡ Some p → IsLeft key r.standing p p.stage → StandFor r (Next key ∷ []) []
waits key r p here is_left [] after run = absurd run.served
waits key r p here is_left (one ∷ two ∷ turns) after run = absurd run.served.2
waits key r p here is_left (one ∷ []) after run =
    let h = run.served.1 in
    let goes = subst (λ (o : Option Peer). Goes (serving_next r.standing key o) one.asked one.deeds run.served.0.standing) here h.goes in
    let so = is_left r.view run.served.0.view one.asked one.deeds run.served.0.standing goes h.lawful in (
      [],
      record { served = run.served.2 ∙ same_rest run.served.0 r.standing r.view so.1 so.2; granted = tt },
      λ opening keys. sym (ap (λ (ds : List Deed). bytes_to opening keys ds ++ []) so.0),
    )

-- ## A message, or a fault, with more bytes behind it

-- where bytes of messages may come, nothing is done, and the connection has more bytes
bytes_may_so : (key : ℕ) (piece : List ℕ) (r : Rest) → SpeaksAt key r.standing → MayBring key piece r ([], rest_more piece key r)
bytes_may_so key piece r speaks =
    let readers : Readers = readers_of [] in
    subst (λ (end : List Deed × Rest). MayBring key piece r end) (bytes_given readers piece key r speaks) (bytes_may key piece readers r)

-- who has begun its messages goes on so while others are served
still_speaks : (a b : Option Peer) → IfSome a Speaks → PassesAt a b → IfSome b Speaks
still_speaks None b speaks h = subst (λ (o : Option Peer). IfSome o Speaks) (sym h) tt
still_speaks (Some p) b speaks h = subst (λ (o : Option Peer). IfSome o Speaks) (sym h.1) (one h.0 h.2)
  where
    one : (q : Peer) → Passes p q → Speaks q
    one q (as_it_was e) = subst (λ (x : Peer). Speaks x) (sym e) speaks
    one q (unnamed_still privileged before is) = subst (λ (stage : Stage). SpeaksDBus stage) (sym is) tt
    one q (has_name conn before is) = subst (λ (stage : Stage). SpeaksDBus stage) (sym is) tt
    one q (was_closed conn before is) = subst (λ (stage : Stage). SpeaksDBus stage) (sym is) tt

module _ (key : ℕ) (piece : List ℕ) (occasion : Occasion) (r : Rest) where
  -- bytes that come behind the event
  bytes_after : (after : Rest) (one two : Served) (run : IsGrantedRun r (occasion ∷ Bytes key piece ∷ []) (one ∷ two ∷ []) after) → SpeaksAt key (run.served.0).standing →
      (two.deeds ≡ []) × (run.served.2.0 ≡ rest_more piece key run.served.0)
  bytes_after after one two run speaks =
      let now : Rest = run.served.0 in
      let readers : Readers = readers_of (exchanges_of (one ∷ two ∷ [])) in
      let read = read_so (exchanges_of (one ∷ two ∷ [])) (run_right r after (occasion ∷ Bytes key piece ∷ []) (one ∷ two ∷ []) run) in
      let grants = granted_parts one.asked (two.asked ++ []) run.granted in
      let reads = read_parts readers one.asked (two.asked ++ []) read in
      let last_grants = granted_parts two.asked [] grants.1 in
      let last_reads = read_parts readers two.asked [] reads.1 in
      let b = effect_is readers now run.served.2.0 (Bytes key piece) two.asked two.deeds run.served.2.1 last_grants.0 last_reads.0 in
      let fed_so = bytes_given readers piece key now speaks in
      (b.0 ∙ ap (λ (end : List Deed × Rest). end.0) fed_so, b.1 ∙ ap (λ (end : List Deed × Rest). end.1) fed_so)

  -- they may come before it
  whenever : (p : Peer) → is_of key occasion ≡ false → HaveAllOf key occasion p.unread → peer_at r.standing key ≡ Some p → SpeaksDBus p.stage →
      StandFor r (occasion ∷ Bytes key piece ∷ []) (Bytes key piece ∷ occasion ∷ [])
  whenever p other has here begun [] after run = absurd run.served
  whenever p other has here begun (one ∷ []) after run = absurd run.served.2
  whenever p other has here begun (one ∷ two ∷ three ∷ turns) after run = absurd run.served.2.2
  whenever p other has here begun (one ∷ two ∷ []) after run =
      let now : Rest = run.served.0 in
      let goes = run.served.1.goes in
      let h = does_the_same key piece r.standing p occasion other here has r.view now.view one.asked one.deeds now.standing goes run.served.1.lawful (granted_parts one.asked (two.asked ++ []) run.granted).0 in
      let speaks : SpeaksAt key r.standing = subst (λ (o : Option Peer). IfSome o Speaks) (sym here) begun in
      let still : SpeaksAt key now.standing =
      still_speaks (peer_at r.standing key) (peer_at now.standing key) speaks (other_passes r.standing now.standing occasion key one.asked one.deeds other goes).1 in
      let came = bytes_after after one two run still in
      let may = bytes_may_so key piece r speaks in (
        turn_of may.0 [] ∷ turn_of h.again one.deeds ∷ [],
        record {
          served = (rest_more piece key r, may.1, (rest_more piece key now, record { goes = h.goes; lawful = h.lawful }, run.served.2.2 ∙ came.1));
          granted = granted_append may.0 (h.again ++ []) may.2 (granted_append h.again [] h.granted tt);
        },
        λ opening keys.
            let later : List ℕ = keys_after occasion keys in
            sym (ap (λ (ds : List Deed). bytes_to opening later one.deeds ++ (bytes_to opening later ds ++ [])) came.0),
      )

-- ## A turn without a connection that has no whole message

left_out : (key : ℕ) (keys : List ℕ) (r : Rest) (p : Peer) → (SpeaksDBus p.stage → IsIncoming p.unread Waits) → peer_at r.standing key ≡ Some p → StandFor r (Turn keys ∷ []) (Turn (without_key key keys) ∷ [])
left_out key keys r p short here [] after run = absurd run.served
left_out key keys r p short here (one ∷ two ∷ turns) after run = absurd run.served.2
left_out key keys r p short here (one ∷ []) after run =
    let now : Rest = run.served.0 in
    let served = run.served.1 in
    let h = without_it key keys r.standing p here short r.view now.view one.asked one.deeds now.standing served.goes served.lawful (granted_parts one.asked [] run.granted).0 in (
      turn_of h.again one.deeds ∷ [],
      record { served = (now, record { goes = h.goes; lawful = h.lawful }, run.served.2); granted = granted_append h.again [] h.granted tt },
      λ opening ks. refl,
    )

-- ## In whole runs

pub pieces_are_joined : PiecesAreJoined
pieces_are_joined before earlier later key first second =
    between before earlier (Bytes key first ∷ Bytes key second ∷ []) (Bytes key (first ++ second) ∷ []) later (λ keys. refl) (λ turns now run. joined key first second now)

-- where the connection is, after any run of these events
found : (before : Rest) (earlier : List Occasion) (key : ℕ) (h : HasCome before earlier key) (turns : List Served) (now : Rest) → IsGrantedRun before earlier turns now →
    peer_at now.standing key ≡ Some h.peer
found before earlier key h turns now run =
    subst (λ (r : Rest). peer_at r.standing key ≡ Some h.peer) (sym (runs_are_one before now h.now earlier turns h.turns run h.run).1) h.here

pub short_messages_wait : ShortMessagesWait
short_messages_wait before earlier later key h is =
    between before earlier (Next key ∷ []) [] later (λ keys. refl)
    (λ turns now run. waits key now h.peer (found before earlier key h turns now run) (short_is_left key now.standing h.peer is h.peer.stage))

pub lines_are_not_served : LinesAreNotServed
lines_are_not_served before earlier later key h says =
    between before earlier (Next key ∷ []) [] later (λ keys. refl)
    (λ turns now run. waits key now h.peer (found before earlier key h turns now run) (lines_are_left key now.standing h.peer h.peer.stage says))

pub bytes_come_whenever : BytesComeWhenever
bytes_come_whenever before earlier later key piece occasion h other has begun =
    between before earlier (occasion ∷ Bytes key piece ∷ []) (Bytes key piece ∷ occasion ∷ []) later (λ keys. refl)
    (λ turns now run. whenever key piece occasion now h.peer other has (found before earlier key h turns now run) begun)

pub turns_leave_out : TurnsLeaveOut
turns_leave_out before earlier later key keys h short =
    between before earlier (Turn keys ∷ []) (Turn (without_key key keys) ∷ []) later (λ ks. refl)
    (λ turns now run. left_out key keys now h.peer short (found before earlier key h turns now run))
