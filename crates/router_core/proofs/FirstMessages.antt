-- Connections before their Hello, and once they were closed.
use Rattle.std.proofs.Common.{◌≡◌, ℕ, Bool, true, false, Option, Some, List, [], ◌∷◌, ◌++◌, if◌then◌else◌, refl, sym, ap, ◌∙◌, subst}
use Rattle.seq_bus_core.specs.declared.connection.Conn.{Conn}
use Rattle.sasl.specs.declared.identity.Identity.{Identity}
use Rattle.sasl.specs.declared.phase.Phase.{Phase}
use Rattle.sasl.specs.declared.phase.Phase.TheVariants.{WaitingForNul, WaitingForAuth, WaitingForData, WaitingForBegin, Done, Closed}
use Rattle.sasl.specs.Settings.{Setting}
use Rattle.sasl.specs.Conversations.{State as AuthState}
use Rattle.sasl.specs.Hearing.{Conversed, conversed}
use Rattle.router_core.specs.Events.{Gathered, gathering, gathering_at, gathering_of_none, turning, serving_next, next_at, for_peer, hearing, answering, after_conversing, conversing_if, is_user, closing, serving_hello, serving_named}
use Rattle.router_core.specs.declared.cause.CloseCause.TheVariants.{NotHello, MonitorSent}
use Rattle.bus_view.specs.declared.view.BusView.{Ghosts as BusView}
use Rattle.router_core.specs.declared.gate.Gate.{Ghosts as Gate}
use Rattle.router_core.specs.Laws.{IsClosing, HasNotBegun, ClosedAreNotServed, ClosedHaveNoTurn, ClosedTakeNothing, ClosedGetNoMail, NobodySpeaksBeforeBegin, NobodyHasATurnBeforeBegin, OnlyBeginBegins, UnknownTypesBringNothing, OnlyHelloIsServed, MonitorsSendNothing}
use Rattle.router_core.specs.Scripts.{Script, Gives, and_then, World, RunsTo}
use Rattle.router_core.specs.Standing.{Authenticating, Unnamed, Closing, Peer, Standing, peer_at, with_peer}

pub closed_are_not_served : ClosedAreNotServed
closed_are_not_served s key p is = ap (serving_next s key) is.0 ∙ ap (next_at s key p) is.1.1

-- it is passed over
not_gathered : (s : Standing) (key : ℕ) (p : Peer) → IsClosing s key p → gathering [] s key (peer_at s key) ≡ gathering_of_none [] s
not_gathered s key p is = ap (gathering [] s key) is.0 ∙ ap (gathering_at [] s key p) is.1.1

pub closed_have_no_turn : ClosedHaveNoTurn
closed_have_no_turn s [] all = refl
closed_have_no_turn s (key ∷ keys) all =
    ap (λ (g : Script Gathered). and_then g (λ (r : Gathered). turning r.joints keys r.served r.standing)) (not_gathered s key all.0.0 all.0.1) ∙ closed_have_no_turn s keys all.1

pub closed_take_nothing : ClosedTakeNothing
closed_take_nothing s key piece p is =
    ap (λ o. for_peer s key o (λ q. hearing key piece q q.stage)) is.0
    ∙ ap (λ stage. and_then (and_then (hearing key piece p stage) (λ q. Gives (Some q))) (λ q. Gives (with_peer s key q))) is.1.1

pub closed_get_no_mail : ClosedGetNoMail
closed_get_no_mail slot number p conn is = rw is refl

pub nobody_speaks_before_begin : NobodySpeaksBeforeBegin
nobody_speaks_before_begin s key p setting state is = (ap (serving_next s key) is.0 ∙ ap (next_at s key p) is.1, λ slot number. rw is.1 refl)

-- it is passed over
not_begun : (s : Standing) (key : ℕ) (p : Peer) (setting : Setting) (state : AuthState) → HasNotBegun s key p setting state → gathering [] s key (peer_at s key) ≡ gathering_of_none [] s
not_begun s key p setting state is = ap (gathering [] s key) is.0 ∙ ap (gathering_at [] s key p) is.1

pub nobody_has_a_turn_before_begin : NobodyHasATurnBeforeBegin
nobody_has_a_turn_before_begin s [] all = refl
nobody_has_a_turn_before_begin s (key ∷ keys) all =
    ap (λ (g : Script Gathered). and_then g (λ (r : Gathered). turning r.joints keys r.served r.standing)) (not_begun s key all.0.0 all.0.1 all.0.2 all.0.3) ∙ nobody_has_a_turn_before_begin s keys all.1

pub only_begin_begins : {V N R G : Type 0} (view : BusView V N R) (gate : Gate G) → OnlyBeginBegins view gate
only_begin_begins {N = N} {G = G} view gate p q key piece setting state privileged w v comes begun = by_grant comes.0 comes.1
  where
    said : Conversed
    said = conversed setting state [] (p.unread ++ piece)

    HasBegun : Type 0
    HasBegun = (identity : Identity) × (said.state.phase ≡ Done identity) × (privileged ≡ is_user identity)

    stays_closed : (conn : Option Conn) → q.stage ≡ Closing conn → HasBegun
    stays_closed conn is = let never : Closing conn ≡ Unnamed privileged = sym is ∙ begun in absurd (cc)

    goes_on : q.stage ≡ Authenticating setting said.state → HasBegun
    goes_on is = let never : Authenticating setting said.state ≡ Unnamed privileged = sym is ∙ begun in absurd (cc)

    by_phase : (phase : Phase) → said.state.phase ≡ phase → (m : World N G) → RunsTo view gate (after_conversing key setting said phase p) m q v → HasBegun
    by_phase (Done identity) is m came =
        let same : Unnamed (is_user identity) ≡ Unnamed privileged = sym (ap (λ (r : Peer). r.stage) came.0) ∙ begun in
        (identity, is, cc)
    by_phase (Closed fault) is m came = stays_closed _ (ap (λ (r : Peer). r.stage) came.2.0)
    by_phase WaitingForNul is m came = goes_on (ap (λ (r : Peer). r.stage) came.0)
    by_phase WaitingForAuth is m came = goes_on (ap (λ (r : Peer). r.stage) came.0)
    by_phase (WaitingForData due) is m came = goes_on (ap (λ (r : Peer). r.stage) came.0)
    by_phase (WaitingForBegin identity) is m came = goes_on (ap (λ (r : Peer). r.stage) came.0)

    by_sent : (sent : List ℕ) (m : World N G) → RunsTo view gate (answering key sent (after_conversing key setting said said.state.phase p)) m q v → HasBegun
    by_sent [] m came = by_phase said.state.phase refl m came
    by_sent (b ∷ bytes) m came = by_phase said.state.phase refl came.0 came.2

    by_grant : (granted : Bool) → RunsTo view gate (conversing_if key setting said p granted) w q v → HasBegun
    by_grant true came = by_sent said.sent w came
    by_grant false came = stays_closed _ (ap (λ (r : Peer). r.stage) came.2.0)

pub unknown_types_bring_nothing : UnknownTypesBringNothing
unknown_types_bring_nothing m sender unknown = rw unknown refl

pub only_hello_is_served : {V N R G : Type 0} (view : BusView V N R) (gate : Gate G) → OnlyHelloIsServed view gate
only_hello_is_served view gate s t key m p privileged w v other comes =
    let closed : RunsTo view gate (for_peer s key (Some p) (closing key NotHello)) w t v = subst (λ b. RunsTo view gate (if b then serving_hello s key m p privileged else for_peer s key (Some p) (closing key NotHello)) w t v) other comes in
    (closed.2.0, (closed.1.action, closed.1.done, closed.2.1 ∙ closed.1.rest))

pub monitors_send_nothing : {V N R G : Type 0} (view : BusView V N R) (gate : Gate G) → MonitorsSendNothing view gate
monitors_send_nothing view gate s t key m p conn w v watches comes =
    let closed : RunsTo view gate (for_peer s key (Some p) (closing key MonitorSent)) w t v = subst (λ b. RunsTo view gate (serving_named s key m p conn b) w t v) watches comes in
    (closed.2.0, (closed.1.action, closed.1.done, closed.2.1 ∙ closed.1.rest))
