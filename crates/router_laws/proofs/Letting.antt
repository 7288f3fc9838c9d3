-- Whoever is past authentication has shown who it is.
use Rattle.std.proofs.Common.{◌≡◌, ◌≢◌, ℕ, zero, suc, Bool, true, false, Option, Some, None, option_map, List, [], ◌∷◌, ◌++◌, get_or, set, eqb, refl, sym, ap, ◌∙◌, subst, inl, inr, append_assoc, true≢false}
use Rattle.std.specs.Prelude.{if◌then◌else◌}
use Rattle.std.proofs.lemmas.Bool.Decides.{eqb_tells}
use Rattle.std.proofs.lemmas.List.{get_or-set_other}
use Rattle.seq_bus_core.specs.declared.connection.Conn.{Conn}
use Rattle.seq_bus_core.specs.declared.outcome.Outcome.{Outcome}
use Rattle.sasl.specs.declared.identity.Identity.{Identity}
use Rattle.sasl.specs.declared.identity.Identity.TheVariants.{User, Anonymous}
use Rattle.sasl.specs.declared.phase.Phase.{Phase}
use Rattle.sasl.specs.declared.phase.Phase.TheVariants as phase
use Rattle.sasl.specs.Settings.{Login, Setting}
use Rattle.sasl.specs.Lines.{Word, begin, line_end}
use Rattle.sasl.specs.Conversations.{State as AuthState, at, opening, Converses, unopened}
use Rattle.sasl.specs.Hearing.{Conversed, conversed}
use Rattle.sasl.specs.Laws.{HasLine, HasShown, NobodyIsLetInUnknown}
use Rattle.sasl.proofs.Outcomes.{outcome}
use Rattle.sasl.proofs.Runs.{conversation_goes_on}
use Rattle.router_core.specs.Acts.{Exchange, Goes}
use Rattle.router_core.specs.Answers.{Heard, Says, Refuses}
use Rattle.router_core.specs.Deeds.{Deed}
use Rattle.router_core.specs.Events as ev
use Rattle.router_core.specs.Events.{Occasion, Opened, Bytes, Next, Turn, Mail, Closed, Full, Child, Tick, is_user, script}
use Rattle.router_core.specs.OneThread.{Rest}
use Rattle.router_core.specs.Scripts.{Gives, and_then}
use Rattle.router_core.specs.Standing.{Stage, Authenticating, Unnamed, Named, Closing, Peer, Standing, fresh, peer_at, with_peer, without_peer, newcomer, first_stage, conn_of}
use Rattle.router_core.proofs.Trimmed.{get-placed, get-placed_other, get-vacated, get-vacated_other}
use Rattle.router_laws.specs.Turns.{AreServedBy, Turn as Served}
use Rattle.router_laws.specs.Logins.{Client, comer, with_piece, client_after, client_of, HasBegun, IsLetIn, HasSaid, EachHasShown, ComersHaveSaidNothing, HasHeard, HearingGoesOn, is_of, OthersLeaveItAlone, ClosedStayClosed}
use Rattle.router_laws.proofs.Results.{Always, of_result, whatever, one_then, weaker}
use Rattle.router_laws.proofs.Stages.{MaySpeak, Passes, as_it_was, unnamed_still, has_name, was_closed, PassesAt, at_rest, Ahead}
use Rattle.router_laws.proofs.Passing.{next_passes, turn_passes, mail_passes, leave_passes, child_passes, tick_passes}

-- ## A conversation goes on

abbrev Hears : Setting → List ℕ → Peer → Type 0
Hears setting text q = HasHeard setting text q q.stage

module _ (unknown : NobodyIsLetInUnknown) (setting : Setting) (text sent piece : List ℕ) (state : AuthState) (key : ℕ) (p : Peer) (is : p.stage ≡ Authenticating setting state) (so_far : Converses setting opening text sent state p.unread) where
  abbrev said : Conversed
  said = conversed setting state [] (p.unread ++ piece)

  all : Converses setting opening (text ++ piece) (sent ++ said.sent) said.state said.left
  all = conversation_goes_on setting opening text sent state p.unread so_far piece said.sent said.state said.left (outcome setting state (p.unread ++ piece))

  by_phase : (now : Phase) → said.state.phase ≡ now → Always (Hears setting (text ++ piece)) (ev.after_conversing key setting said now p)
  by_phase (phase.Done identity) done =
      let n : ℕ = said.state.rejections in
      let ended : Converses setting opening (text ++ piece) (sent ++ said.sent) (at (phase.Done identity) n) said.left =
      subst (λ (now : Phase). Converses setting opening (text ++ piece) (sent ++ said.sent) (at now n) said.left) done all in
      let shown = unknown setting (text ++ piece) (sent ++ said.sent) identity n said.left ended in
      (identity, shown.0, shown.1, refl)
  by_phase (phase.Closed fault) done = ap conn_of is
  by_phase phase.WaitingForNul done = (refl, (sent ++ said.sent, all))
  by_phase phase.WaitingForAuth done = (refl, (sent ++ said.sent, all))
  by_phase (phase.WaitingForData due) done = (refl, (sent ++ said.sent, all))
  by_phase (phase.WaitingForBegin identity) done = (refl, (sent ++ said.sent, all))

  by_sent : (bytes : List ℕ) (s : ev.OfPeer) → Always (Hears setting (text ++ piece)) s → Always (Hears setting (text ++ piece)) (ev.answering key bytes s)
  by_sent [] s h = h
  by_sent (b ∷ bytes) s h = h

  by_grant : (granted : Bool) → Always (Hears setting (text ++ piece)) (ev.conversing_if key setting said p granted)
  by_grant true = by_sent said.sent (ev.after_conversing key setting said said.state.phase p) (by_phase said.state.phase refl)
  by_grant false = ap conn_of is

  pub hears : Always (Hears setting (text ++ piece)) (ev.hearing key piece p p.stage)
  hears = subst (λ (stage : Stage). Always (Hears setting (text ++ piece)) (ev.hearing key piece p stage)) (sym is) (λ granted. by_grant granted)

-- ## Where the connection of one key changes

-- Others are as they were, and so is who may log in; at the key this holds.
record But (s : Standing) (key : ℕ) (Now : Option Peer → Type 0) (t : Standing) : Type 0 where
  pub login : t.login ≡ s.login
  pub others : (other : ℕ) → other ≢ key → peer_at t other ≡ peer_at s other
  pub here : Now (peer_at t key)

abbrev IsSome : (Peer → Type 0) → Option Peer → Type 0
IsSome Q o = (q : Peer) × (o ≡ Some q) × Q q

at_set : (os : List (Option Peer)) (key : ℕ) (p : Peer) (o : Option Peer) → get_or os key None ≡ Some p → get_or (set os key o) key None ≡ o
at_set [] key p o here = absurd (cc)
at_set (x ∷ os) zero p o here = refl
at_set (x ∷ os) (suc key) p o here = at_set os key p o here

set_none : (os : List (Option Peer)) (key : ℕ) → get_or (set os key None) key None ≡ None
set_none [] key = refl
set_none (x ∷ os) zero = refl
set_none (x ∷ os) (suc key) = set_none os key

bytes_of_one : (s : Standing) (key : ℕ) (piece : List ℕ) (p : Peer) (Q : Peer → Type 0) → peer_at s key ≡ Some p → Always Q (ev.hearing key piece p p.stage) →
    Always (But s key (IsSome Q)) (ev.for_peer s key (Some p) (λ q. ev.hearing key piece q q.stage))
bytes_of_one s key piece p Q here h =
    one_then (IsSome Q) (But s key (IsSome Q)) (λ o. Gives (with_peer s key o))
    (λ o k. record {
      login = refl;
      others = λ other differs. get_or-set_other s.peers key other o None differs;
      here = subst (λ (x : Option Peer). IsSome Q x) (sym (at_set s.peers key p o here)) k;
    })
    (and_then (ev.hearing key piece p p.stage) (λ q. Gives (Some q)))
    (one_then Q (IsSome Q) (λ q. Gives (Some q)) (λ q k. (q, refl, k)) (ev.hearing key piece p p.stage) h)

bytes_of_none : (s : Standing) (key : ℕ) → But s key (λ o. o ≡ None) (with_peer s key None)
bytes_of_none s key = record { login = refl; others = λ other differs. get_or-set_other s.peers key other None None differs; here = set_none s.peers key }

gone_heard : (s t : Standing) (number key : ℕ) (Now : Option Peer → Type 0) → But s key Now t → (heard : Heard Outcome) → Always (But s key Now) (ev.after_leave t number heard)
gone_heard s t number key Now b (Says o) = b
gone_heard s t number key Now b (Refuses refusal) = record { login = b.login; others = b.others; here = b.here }

abbrev IsGone : Option Peer → Type 0
IsGone o = o ≡ None

gone_of : (s : Standing) (key : ℕ) (peer : Option Peer) → peer_at s key ≡ peer → Always (But s key IsGone) (ev.removing s key peer)
gone_of s key None is = record { login = refl; others = λ other differs. refl; here = is }
gone_of s key (Some p) is = by_conn (conn_of p.stage)
  where
    gone : But s key IsGone (without_peer s key)
    gone = record { login = refl; others = λ other differs. get-vacated_other s.peers key other differs; here = get-vacated s.peers key }

    by_conn : (conn : Option Conn) → Always (But s key IsGone) (ev.leaving_of (without_peer s key) conn)
    by_conn None = gone
    by_conn (Some conn) = λ heard. gone_heard s (without_peer s key) conn.number key IsGone gone heard

-- ## More bytes show no less

line_stays : (text piece : List ℕ) (words : List Word) → HasLine text words → HasLine (text ++ piece) words
line_stays text piece words h = record {
  before = h.before;
  line = h.line;
  behind = h.behind ++ piece;
  text_is = ap (λ (t : List ℕ). t ++ piece) h.text_is ∙ append_assoc (h.before ++ h.line ++ line_end) h.behind piece;
  words_are = h.words_are;
}

shown_stays : (setting : Setting) (text piece : List ℕ) (identity : Identity) → HasShown setting text identity → HasShown setting (text ++ piece) identity
shown_stays setting text piece User h = (h.0, h.1, line_stays text piece _ h.2, h.3, h.4)
shown_stays setting text piece Anonymous h = (h.0, h.1, line_stays text piece _ h.2)

begun_stays : (text piece : List ℕ) → HasBegun text → HasBegun (text ++ piece)
begun_stays text piece h = record {
  before = h.before;
  behind = h.behind ++ piece;
  text_is = ap (λ (t : List ℕ). t ++ piece) h.text_is ∙ append_assoc (h.before ++ begin ++ line_end) h.behind piece;
}

let_in_stays : (login : Option Login) (challenge : Option (List ℕ)) (text piece : List ℕ) (privileged : Bool) → IsLetIn login challenge text privileged → IsLetIn login challenge (text ++ piece) privileged
let_in_stays login None text piece privileged h = h
let_in_stays None (Some challenge) text piece privileged h = absurd h
let_in_stays (Some login) (Some challenge) text piece privileged h = (h.0, shown_stays (record { login = login; challenge = challenge }) text piece h.0 h.1, begun_stays text piece h.2, h.3)

-- by what it is asked, where it is asked
let_in_by : (login : Option Login) (client : Client) (setting : Setting) (text : List ℕ) (identity : Identity) → login ≡ Some setting.login → client.challenge ≡ Some setting.challenge → HasShown setting text identity → HasBegun text →
    IsLetIn login client.challenge text (is_user identity)
let_in_by login client setting text identity asked by shown begun =
    subst (λ (l : Option Login). IsLetIn l client.challenge text (is_user identity)) (sym asked)
    (subst (λ (c : Option (List ℕ)). IsLetIn (Some setting.login) c text (is_user identity)) (sym by) (identity, shown, begun, refl))

-- ## What is known of a connection

abbrev KnownAt : Option Login → Option Client → Option Peer → Type 0
KnownAt login client None = Unit {0}
KnownAt login client (Some p) = (c : Client) × (client ≡ Some c) × HasSaid login c p p.stage

said_still : (login : Option Login) (c : Client) (p q : Peer) → Passes p q → HasSaid login c p p.stage → HasSaid login c q q.stage
said_still login c p q (as_it_was e) h = subst (λ (r : Peer). HasSaid login c r r.stage) (sym e) h
said_still login c p q (unnamed_still privileged a b) h =
    subst (λ (stage : Stage). HasSaid login c q stage) (sym b) (subst (λ (stage : Stage). HasSaid login c p stage) a h)
said_still login c p q (has_name conn served b) h = subst (λ (stage : Stage). HasSaid login c q stage) (sym b) (by_stage p.stage served h)
  where
    by_stage : (stage : Stage) → MaySpeak stage → HasSaid login c p stage → (privileged : Bool) × IsLetIn login c.challenge c.text privileged
    by_stage (Authenticating setting state) served h = absurd served
    by_stage (Unnamed privileged) served h = (privileged, h)
    by_stage (Named other) served h = h
    by_stage (Closing other) served h = absurd served
said_still login c p q (was_closed conn served b) h = subst (λ (stage : Stage). HasSaid login c q stage) (sym b) tt

known_still : (login : Option Login) (client : Option Client) (a b : Option Peer) → PassesAt a b → KnownAt login client a → KnownAt login client b
known_still login client None b h k = subst (λ (o : Option Peer). KnownAt login client o) (sym h) tt
known_still login client (Some p) b h k = subst (λ (o : Option Peer). KnownAt login client o) (sym h.1) (k.0, k.1, said_still login k.0 p h.0 h.2 k.2)

abbrev HeardMore : Option Login → Client → List ℕ → Peer → Type 0
HeardMore login c piece q = HasSaid login (with_piece piece c) q q.stage

heard_said : (login : Option Login) (c : Client) (setting : Setting) (text : List ℕ) (q : Peer) (stage : Stage) → login ≡ Some setting.login → c.challenge ≡ Some setting.challenge → c.text ≡ text →
    HasHeard setting text q stage → HasSaid login c q stage
heard_said login c setting text q (Authenticating same state) asked by is h = (
  asked ∙ ap (λ (x : Setting). Some x.login) (sym h.0),
  by ∙ ap (λ (x : Setting). Some x.challenge) (sym h.0),
  (h.1.0, subst (λ (t : List ℕ). Converses same opening t h.1.0 state q.unread) (sym is) (subst (λ (x : Setting). Converses x opening text h.1.0 state q.unread) (sym h.0) h.1.1)),
)
heard_said login c setting text q (Unnamed privileged) asked by is h =
    subst (λ (b : Bool). IsLetIn login c.challenge c.text b) (sym h.3)
    (subst (λ (t : List ℕ). IsLetIn login c.challenge t (is_user h.0)) (sym is) (let_in_by login c setting text h.0 asked by h.1 (record { before = h.2.0; behind = q.unread; text_is = h.2.1 })))
heard_said login c setting text q (Named conn) asked by is h = absurd h
heard_said login c setting text q (Closing conn) asked by is h = tt

bytes_known : (unknown : NobodyIsLetInUnknown) (login : Option Login) (c : Client) (key : ℕ) (piece : List ℕ) (p : Peer) → HasSaid login c p p.stage → Always (HeardMore login c piece) (ev.hearing key piece p p.stage)
bytes_known unknown login c key piece p h = by_stage p.stage refl
  where
    by_stage : (stage : Stage) → p.stage ≡ stage → Always (HeardMore login c piece) (ev.hearing key piece p p.stage)
    by_stage (Authenticating setting state) is =
        let k = subst (λ (x : Stage). HasSaid login c p x) is h in
        weaker (Hears setting (c.text ++ piece)) (HeardMore login c piece)
        (λ q heard. heard_said login (with_piece piece c) setting (c.text ++ piece) q q.stage k.0 k.1 refl heard)
        (ev.hearing key piece p p.stage) (hears unknown setting c.text k.2.0 piece state key p is k.2.1)
    by_stage (Unnamed privileged) is =
        subst (λ (x : Stage). Always (HeardMore login c piece) (ev.hearing key piece p x)) (sym is)
        (subst (λ (x : Stage). HasSaid login (with_piece piece c) (record p { unread = p.unread ++ piece }) x) (sym is)
        (let_in_stays login c.challenge c.text piece privileged (subst (λ (x : Stage). HasSaid login c p x) is h)))
    by_stage (Named conn) is =
        let k = subst (λ (x : Stage). HasSaid login c p x) is h in
        subst (λ (x : Stage). Always (HeardMore login c piece) (ev.hearing key piece p x)) (sym is)
        (subst (λ (x : Stage). HasSaid login (with_piece piece c) (record p { unread = p.unread ++ piece }) x) (sym is)
        (k.0, let_in_stays login c.challenge c.text piece k.0 k.1))
    by_stage (Closing conn) is =
        subst (λ (x : Stage). Always (HeardMore login c piece) (ev.hearing key piece p x)) (sym is)
        (subst (λ (x : Stage). HasSaid login (with_piece piece c) p x) (sym is) tt)

-- ## Events

first_said : (login : Option Login) (challenge : Option (List ℕ)) → let p = newcomer (first_stage login challenge) in HasSaid login (comer challenge) p p.stage
first_said login None = refl
first_said None (Some challenge) = tt
first_said (Some login) (Some challenge) = (refl, refl, ([], unopened 0))

pub comers_have_said_nothing : ComersHaveSaidNothing
comers_have_said_nothing s key challenge =
    let p = newcomer (first_stage s.login challenge) in
    (p, get-placed s.peers key p, first_said s.login challenge)

pub hearing_goes_on : NobodyIsLetInUnknown → HearingGoesOn
hearing_goes_on unknown s t key piece text sent p setting state asked deeds is so_far goes =
    let Q : Peer → Type 0 = Hears setting (text ++ piece) in
    let went : Goes (ev.for_peer s key (Some p) (λ q. ev.hearing key piece q q.stage)) asked deeds t =
    subst (λ (o : Option Peer). Goes (ev.for_peer s key o (λ q. ev.hearing key piece q q.stage)) asked deeds t) is.0 goes in
    (of_result (But s key (IsSome Q)) (ev.for_peer s key (Some p) (λ q. ev.hearing key piece q q.stage)) asked deeds t went (bytes_of_one s key piece p Q is.0 (hears unknown setting text sent piece state key p is.1 so_far))).here

-- ## Others

pub other_key : (key other : ℕ) → eqb other key ≡ false → key ≢ other
other_key key other not =
    elim (eqb_tells other key) [
      | inl h ↦ absurd (true≢false (sym h.0 ∙ not))
      | inr h ↦ (λ e. h.1 (sym e))
    ]

ahead_at : (s t : Standing) (occasion : Occasion) (key : ℕ) (asked : List Exchange) (deeds : List Deed) → Goes (script s occasion) asked deeds t → Always (Ahead s) (script s occasion) →
    (t.login ≡ s.login) × PassesAt (peer_at s key) (peer_at t key)
ahead_at s t occasion key asked deeds goes h = let a = of_result (Ahead s) (script s occasion) asked deeds t goes h in (a.login, a.each key)

-- It goes on, if at all.
pub other_passes : (s t : Standing) (occasion : Occasion) (key : ℕ) (asked : List Exchange) (deeds : List Deed) → is_of key occasion ≡ false → Goes (script s occasion) asked deeds t →
    (t.login ≡ s.login) × PassesAt (peer_at s key) (peer_at t key)
other_passes s t (Opened other challenge) key asked deeds not goes =
    let new = newcomer (first_stage s.login challenge) in
    let same : peer_at t key ≡ peer_at s key = ap (λ (x : Standing). peer_at x key) goes.2 ∙ get-placed_other s.peers other key new (other_key key other not) in
    (ap (λ (x : Standing). x.login) goes.2, subst (λ (o : Option Peer). PassesAt (peer_at s key) o) (sym same) (at_rest (peer_at s key)))
other_passes s t (Bytes other piece) key asked deeds not goes = by_peer (peer_at s other) refl goes
  where
    but : (Now : Option Peer → Type 0) → But s other Now t → (t.login ≡ s.login) × PassesAt (peer_at s key) (peer_at t key)
    but Now b = (b.login, subst (λ (o : Option Peer). PassesAt (peer_at s key) o) (sym (b.others key (other_key key other not))) (at_rest (peer_at s key)))

    by_peer : (peer : Option Peer) → peer_at s other ≡ peer → Goes (ev.for_peer s other peer (λ q. ev.hearing other piece q q.stage)) asked deeds t →
        (t.login ≡ s.login) × PassesAt (peer_at s key) (peer_at t key)
    by_peer None is went = but (λ o. o ≡ None) (subst (λ (x : Standing). But s other (λ o. o ≡ None) x) (sym went.2) (bytes_of_none s other))
    by_peer (Some p) is went =
        let Any : Peer → Type 0 = λ q. Unit {0} in
        but (IsSome Any)
        (of_result (But s other (IsSome Any)) (ev.for_peer s other (Some p) (λ q. ev.hearing other piece q q.stage)) asked deeds t went
        (bytes_of_one s other piece p Any is (whatever Any (λ q. tt) (ev.hearing other piece p p.stage))))
other_passes s t (Closed other) key asked deeds not goes =
    let b = of_result (But s other IsGone) (ev.removing s other (peer_at s other)) asked deeds t goes (gone_of s other (peer_at s other) refl) in
    (b.login, subst (λ (o : Option Peer). PassesAt (peer_at s key) o) (sym (b.others key (other_key key other not))) (at_rest (peer_at s key)))
other_passes s t (Next other) key asked deeds not goes = ahead_at s t (Next other) key asked deeds goes (next_passes s other (peer_at s other) refl)
other_passes s t (Turn keys) key asked deeds not goes = ahead_at s t (Turn keys) key asked deeds goes (turn_passes [] keys false s)
other_passes s t (Mail slot number told said) key asked deeds not goes = ahead_at s t (Mail slot number told said) key asked deeds goes (mail_passes s slot number told said)
other_passes s t (Full number) key asked deeds not goes = ahead_at s t (Full number) key asked deeds goes (leave_passes s number)
other_passes s t (Child e) key asked deeds not goes = ahead_at s t (Child e) key asked deeds goes (child_passes s e)
other_passes s t Tick key asked deeds not goes = ahead_at s t Tick key asked deeds goes (tick_passes s)

-- who does not speak stays as it was
left_alone : (s t : Standing) (occasion : Occasion) (key : ℕ) (p : Peer) (asked : List Exchange) (deeds : List Deed) → is_of key occasion ≡ false → peer_at s key ≡ Some p → (MaySpeak p.stage → ⊥) →
    Goes (script s occasion) asked deeds t → peer_at t key ≡ Some p
left_alone s t occasion key p asked deeds not here quiet goes =
    let went = (other_passes s t occasion key asked deeds not goes).1 in
    let at : PassesAt (Some p) (peer_at t key) = subst (λ (o : Option Peer). PassesAt o (peer_at t key)) here went in
    at.1 ∙ ap (λ (x : Peer). Some x) (still at.0 at.2)
  where
    still : (q : Peer) → Passes p q → q ≡ p
    still q (as_it_was e) = e
    still q (unnamed_still privileged a b) = absurd (quiet (subst (λ (x : Stage). MaySpeak x) (sym a) tt))
    still q (has_name conn served b) = absurd (quiet served)
    still q (was_closed conn served b) = absurd (quiet served)

pub others_leave_it_alone : OthersLeaveItAlone
others_leave_it_alone s t occasion key p setting state asked deeds not is goes =
    left_alone s t occasion key p asked deeds not is.0 (λ speaks. subst (λ (x : Stage). MaySpeak x) is.1 speaks) goes

pub closed_stay_closed : ClosedStayClosed
closed_stay_closed s t occasion key p asked deeds not is goes =
    left_alone s t occasion key p asked deeds not is.0 (λ speaks. subst (λ (x : Stage). MaySpeak x) is.1.1 speaks) goes

-- ## From the first event on

record KnownBy (login : Option Login) (key : ℕ) (client : Option Client) (s : Standing) : Type 0 where
  pub login_is : s.login ≡ login
  pub known : KnownAt login client (peer_at s key)

module _ (unknown : NobodyIsLetInUnknown) (login : Option Login) (key : ℕ) (client : Option Client) (s t : Standing) (asked : List Exchange) (deeds : List Deed) (before : KnownBy login key client s) where
  by_others : (occasion : Occasion) → is_of key occasion ≡ false → Goes (script s occasion) asked deeds t → KnownBy login key client t
  by_others occasion not goes =
      let went = other_passes s t occasion key asked deeds not goes in
      record { login_is = went.0 ∙ before.login_is; known = known_still login client (peer_at s key) (peer_at t key) went.1 before.known }

  opened : (challenge : Option (List ℕ)) → Goes (script s (Opened key challenge)) asked deeds t → KnownBy login key (Some (comer challenge)) t
  opened challenge goes =
      let p = newcomer (first_stage s.login challenge) in
      let here : peer_at t key ≡ Some p = ap (λ (x : Standing). peer_at x key) goes.2 ∙ get-placed s.peers key p in
      record {
        login_is = ap (λ (x : Standing). x.login) goes.2 ∙ before.login_is;
        known = subst (λ (o : Option Peer). KnownAt login (Some (comer challenge)) o) (sym here)
            (comer challenge, refl, subst (λ (l : Option Login). HasSaid l (comer challenge) p p.stage) before.login_is (first_said s.login challenge));
      }

  fed : (piece : List ℕ) → Goes (script s (Bytes key piece)) asked deeds t → KnownBy login key (option_map (with_piece piece) client) t
  fed piece goes = by_peer (peer_at s key) refl goes
    where
      by_peer : (peer : Option Peer) → peer_at s key ≡ peer → Goes (ev.for_peer s key peer (λ q. ev.hearing key piece q q.stage)) asked deeds t → KnownBy login key (option_map (with_piece piece) client) t
      by_peer None is went =
          let b : But s key (λ o. o ≡ None) t = subst (λ (x : Standing). But s key (λ o. o ≡ None) x) (sym went.2) (bytes_of_none s key) in
          record { login_is = b.login ∙ before.login_is; known = subst (λ (o : Option Peer). KnownAt login (option_map (with_piece piece) client) o) (sym b.here) tt }
      by_peer (Some p) is went =
          let k : KnownAt login client (Some p) = subst (λ (o : Option Peer). KnownAt login client o) is before.known in
          let Q : Peer → Type 0 = HeardMore login k.0 piece in
          let b = of_result (But s key (IsSome Q)) (ev.for_peer s key (Some p) (λ q. ev.hearing key piece q q.stage)) asked deeds t went
          (bytes_of_one s key piece p Q is (bytes_known unknown login k.0 key piece p k.2)) in
          record {
            login_is = b.login ∙ before.login_is;
            known = subst (λ (o : Option Peer). KnownAt login (option_map (with_piece piece) client) o) (sym b.here.1)
                (with_piece piece k.0, ap (λ (o : Option Client). option_map (with_piece piece) o) k.1, b.here.2);
          }

  gone : Goes (script s (Closed key)) asked deeds t → KnownBy login key None t
  gone goes =
      let b = of_result (But s key IsGone) (ev.removing s key (peer_at s key)) asked deeds t goes (gone_of s key (peer_at s key) refl) in
      record { login_is = b.login ∙ before.login_is; known = subst (λ (o : Option Peer). KnownAt login None o) (sym b.here) tt }

  of_either : (b : Bool) (now : Option Client) → KnownBy login key now t → b ≡ true → KnownBy login key (if b then now else client) t
  of_either b now k is = subst (λ (x : Bool). KnownBy login key (if x then now else client) t) (sym is) k

  of_neither : (b : Bool) (now : Option Client) → KnownBy login key client t → b ≡ false → KnownBy login key (if b then now else client) t
  of_neither b now k is = subst (λ (x : Bool). KnownBy login key (if x then now else client) t) (sym is) k

  step : (occasion : Occasion) → Goes (script s occasion) asked deeds t → KnownBy login key (client_after key client occasion) t
  step (Opened other challenge) goes =
      elim (eqb_tells other key) [
        | inl h ↦ of_either (eqb other key) (Some (comer challenge)) (opened challenge (subst (λ (k : ℕ). Goes (script s (Opened k challenge)) asked deeds t) h.1 goes)) h.0
        | inr h ↦ of_neither (eqb other key) (Some (comer challenge)) (by_others (Opened other challenge) h.0 goes) h.0
      ]
  step (Bytes other piece) goes =
      elim (eqb_tells other key) [
        | inl h ↦ of_either (eqb other key) (option_map (with_piece piece) client) (fed piece (subst (λ (k : ℕ). Goes (script s (Bytes k piece)) asked deeds t) h.1 goes)) h.0
        | inr h ↦ of_neither (eqb other key) (option_map (with_piece piece) client) (by_others (Bytes other piece) h.0 goes) h.0
      ]
  step (Closed other) goes =
      elim (eqb_tells other key) [
        | inl h ↦ of_either (eqb other key) None (gone (subst (λ (k : ℕ). Goes (script s (Closed k)) asked deeds t) h.1 goes)) h.0
        | inr h ↦ of_neither (eqb other key) None (by_others (Closed other) h.0 goes) h.0
      ]
  step (Next other) goes = by_others (Next other) refl goes
  step (Turn keys) goes = by_others (Turn keys) refl goes
  step (Mail slot number told said) goes = by_others (Mail slot number told said) refl goes
  step (Full number) goes = by_others (Full number) refl goes
  step (Child e) goes = by_others (Child e) refl goes
  step Tick goes = by_others Tick refl goes

runs : (unknown : NobodyIsLetInUnknown) (alone : Bool) (login : Option Login) (key : ℕ) (client : Option Client) (before : Rest) (occasions : List Occasion) (turns : List Served) (after : Rest) →
    KnownBy login key client before.standing → AreServedBy alone before occasions turns after → KnownBy login key (client_of key client occasions) after.standing
runs unknown alone login key client before [] [] after k h = subst (λ (r : Rest). KnownBy login key client r.standing) (sym h) k
runs unknown alone login key client before [] (turn ∷ turns) after k h = absurd h
runs unknown alone login key client before (occasion ∷ occasions) [] after k h = absurd h
runs unknown alone login key client before (occasion ∷ occasions) (turn ∷ turns) after k h =
    runs unknown alone login key (client_after key client occasion) h.0 occasions turns after
    (step unknown login key client before.standing (h.0).standing turn.asked turn.deeds k occasion h.1.goes) h.2

pub each_has_shown : NobodyIsLetInUnknown → EachHasShown
each_has_shown unknown alone login view occasions turns after served key p here =
    let start : Rest = record { standing = fresh login; view = view } in
    let k = runs unknown alone login key None start occasions turns after (record { login_is = refl; known = tt }) served in
    subst (λ (o : Option Peer). KnownAt login (client_of key None occasions) o) here k.known
