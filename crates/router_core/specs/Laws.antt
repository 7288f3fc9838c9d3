-- Laws of what a router does.
use Rattle.std.specs.Prelude.{◌≡◌, ◌≢◌, ℕ, Bool, true, false, Option, Some, List, [], ◌∷◌, ◌++◌}
use Rattle.std.specs.List.{AllByRecursion}
use Rattle.match_rules.specs.Kinds.{kind_of}
use Rattle.seq_bus_core.specs.declared.connection.Conn.{Conn}
use Rattle.bus_view.specs.declared.view.BusView.{Ghosts as BusView}
use Rattle.sasl.specs.declared.identity.Identity.{Identity}
use Rattle.sasl.specs.declared.phase.Phase.TheVariants.{Done}
use Rattle.sasl.specs.Settings.{Setting}
use Rattle.sasl.specs.Conversations.{State as AuthState}
use Rattle.sasl.specs.Hearing.{conversed}
use Rattle.message_core.specs.Messages.{Message}
use Rattle.driver.specs.Calls.{is_hello}
use Rattle.router_core.specs.declared.cause.CloseCause.TheVariants.{NotHello, MonitorSent}
use Rattle.router_core.specs.declared.action.Action.{Action}
use Rattle.router_core.specs.declared.event.Event.{Event}
use Rattle.router_core.specs.declared.gate.Gate.{Ghosts as Gate}
use Rattle.router_core.specs.Acts.{State, BringsBy, IsServed}
use Rattle.router_core.specs.Deeds.{Deed, Closes, IsDoneBy, CarriesOwn}
use Rattle.router_core.specs.Events.{Occasion, Bytes, Next, Turn, Closed, hearing, is_user, script, serving_at}
use Rattle.router_core.specs.OneThread.{Rest, IsEffect, IsRun}
use Rattle.router_core.specs.Scripts.{Gives, World, having_done, RunsTo}
use Rattle.router_core.specs.Serving.{serving, is_unknown, staying_open}
use Rattle.router_core.specs.Standing.{Authenticating, Unnamed, Named, Closing, Peer, Standing, IsFree, peer_at, with_peer, with_newcomer, first_stage, newcomer, closing_peer, is_conn}

-- the bus closed the connection of this key, and it is not gone yet
abbrev pub IsClosing : Standing → ℕ → Peer → Type 0
IsClosing s key p = (peer_at s key ≡ Some p) × ((conn : Option Conn) × (p.stage ≡ Closing conn))

-- A connection that was closed is not served again.
abbrev pub ClosedAreNotServed : Type 0
ClosedAreNotServed = (s : Standing) (key : ℕ) (p : Peer) → IsClosing s key p → script s (Next key) ≡ Gives s

-- Nor is it in a turn.
abbrev pub ClosedHaveNoTurn : Type 0
ClosedHaveNoTurn = (s : Standing) (keys : List ℕ) → AllByRecursion (λ key. (p : Peer) × IsClosing s key p) keys → script s (Turn keys) ≡ Gives s

-- Its bytes are let go.
abbrev pub ClosedTakeNothing : Type 0
ClosedTakeNothing = (s : Standing) (key : ℕ) (piece : List ℕ) (p : Peer) → IsClosing s key p → script s (Bytes key piece) ≡ Gives (with_peer s key (Some p))

-- No mail is written to it.
abbrev pub ClosedGetNoMail : Type 0
ClosedGetNoMail = (slot number : ℕ) (p : Peer) (conn : Option Conn) → p.stage ≡ Closing conn → is_conn slot number (Some p) ≡ false

-- the connection of this key says who it is, and has not begun its messages
abbrev pub HasNotBegun : Standing → ℕ → Peer → Setting → AuthState → Type 0
HasNotBegun s key p setting state = (peer_at s key ≡ Some p) × (p.stage ≡ Authenticating setting state)

-- Before its BEGIN no message of a connection is served, and no mail is written to it.
abbrev pub NobodySpeaksBeforeBegin : Type 0
NobodySpeaksBeforeBegin = (s : Standing) (key : ℕ) (p : Peer) (setting : Setting) (state : AuthState) → HasNotBegun s key p setting state →
    (script s (Next key) ≡ Gives s) × ((slot number : ℕ) → is_conn slot number (Some p) ≡ false)

-- Nor is a message of it served in a turn.
abbrev pub NobodyHasATurnBeforeBegin : Type 0
NobodyHasATurnBeforeBegin = (s : Standing) (keys : List ℕ) → AllByRecursion (λ key. (p : Peer) × (setting : Setting) × (state : AuthState) × HasNotBegun s key p setting state) keys →
    script s (Turn keys) ≡ Gives s

-- It goes on to its messages only where its conversation is done, and it is the bus's own user only where it knows the cookie.
abbrev pub OnlyBeginBegins : {V N R G : Type 0} → BusView V N R → Gate G → Type 0
OnlyBeginBegins {N = N} {G = G} view gate = (p q : Peer) (key : ℕ) (piece : List ℕ) (setting : Setting) (state : AuthState) (privileged : Bool) (w v : World N G) →
    RunsTo view gate (hearing key piece p (Authenticating setting state)) w q v → q.stage ≡ Unnamed privileged →
    (identity : Identity) × ((conversed setting state [] (p.unread ++ piece)).state.phase ≡ Done identity) × (privileged ≡ is_user identity)

-- A message of a type that the standard does not define brings nothing.
abbrev pub UnknownTypesBringNothing : Type 0
UnknownTypesBringNothing = (m : Message) (sender : Conn) → is_unknown (kind_of m.kind) ≡ true → serving m sender ≡ staying_open

-- Before its Hello a connection is closed for anything else.
abbrev pub OnlyHelloIsServed : {V N R G : Type 0} → BusView V N R → Gate G → Type 0
OnlyHelloIsServed {N = N} {G = G} view gate = (s t : Standing) (key : ℕ) (m : Message) (p : Peer) (privileged : Bool) (w v : World N G) →
    is_hello m ≡ false → RunsTo view gate (serving_at s key m p (Unnamed privileged)) w t v →
    (t ≡ with_peer s key (Some (closing_peer p))) × ((action : Action N) × IsDoneBy action (Closes key NotHello) × (v ≡ having_done w (action ∷ [])))

-- A monitor that sends anything is closed for it, and nothing else is done.
abbrev pub MonitorsSendNothing : {V N R G : Type 0} → BusView V N R → Gate G → Type 0
MonitorsSendNothing {N = N} {G = G} view gate = (s t : Standing) (key : ℕ) (m : Message) (p : Peer) (conn : Conn) (w v : World N G) →
    p.watches ≡ true → RunsTo view gate (serving_at s key m p (Named conn)) w t v →
    (t ≡ with_peer s key (Some (closing_peer p))) × ((action : Action N) × IsDoneBy action (Closes key MonitorSent) × (v ≡ having_done w (action ∷ [])))

-- Who comes has its key, and all others have theirs still.
abbrev pub ComersHaveTheirKeys : Type 0
ComersHaveTheirKeys = (s : Standing) (key : ℕ) (challenge : Option (List ℕ)) →
    (peer_at (with_newcomer s key challenge) key ≡ Some (newcomer (first_stage s.login challenge)))
    × ((other : ℕ) → other ≢ key → peer_at (with_newcomer s key challenge) other ≡ peer_at s other)

-- The key of a connection that is gone is free at once, and all others have theirs still.
abbrev pub GoneKeysAreFree : {V N R G : Type 0} → BusView V N R → Gate G → Type 0
GoneKeysAreFree {N = N} {G = G} view gate = (s t : Standing) (key : ℕ) (w v : World N G) → RunsTo view gate (script s (Closed key)) w t v →
    IsFree t key × ((other : ℕ) → other ≢ key → peer_at t other ≡ peer_at s other)

-- What an event brings it brings for some answers that the bus may give, one after the other, and the gate is shown the calls among
-- them, each once.
abbrev pub AnswersAreLawful : {V N R G : Type 0} → BusView V N R → Gate G → Type 0
AnswersAreLawful {N = N} {G = G} view gate = (before after : State G) (event : Event N) (actions : List (Action N)) →
    BringsBy view gate before event actions after → IsServed view.told gate.passes view.alone before event actions after

-- An event leaves the view of the registry that it was of, and the notes that its actions carry are of that registry.
abbrev pub NotesAreOwn : {V N R G : Type 0} → BusView V N R → Gate G → Type 0
NotesAreOwn {N = N} {G = G} view gate = (before after : State G) (event : Event N) (actions : List (Action N)) →
    BringsBy view gate before event actions after →
    (after.view.registry ≡ before.view.registry) × AllByRecursion (CarriesOwn view.registry_of before.view.registry) actions

-- Over a bus of one thread, where nothing is refused, what an occasion brings is a function of it.
abbrev pub OneThreadIsAFunction : Type 0
OneThreadIsAFunction = (before after end : Rest) (occasion : Occasion) (deeds others : List Deed) →
    IsEffect before occasion deeds after → IsEffect before occasion others end → (deeds ≡ others) × (after ≡ end)

-- So for every list of occasions the bytes that go to each connection are a function of the occasions.
abbrev pub BytesAreAFunction : Type 0
BytesAreAFunction = (opening : ℕ) (keys : List ℕ) (before after end : Rest) (occasions : List Occasion) (bytes others : List ℕ) →
    IsRun opening keys before occasions bytes after → IsRun opening keys before occasions others end → (bytes ≡ others) × (after ≡ end)
