-- Who is let in: what a connection has said before it sends its messages.
use Rattle.std.specs.Prelude.{◌≡◌, ℕ, Bool, true, false, ◌==◌, Option, Some, None, option_map, List, [], ◌∷◌, ◌++◌, if◌then◌else◌}
use Rattle.sasl.specs.declared.identity.Identity.{Identity}
use Rattle.sasl.specs.Settings.{Login, Setting}
use Rattle.sasl.specs.Lines.{line_end, begin}
use Rattle.sasl.specs.Conversations.{State as AuthState, opening, Converses}
use Rattle.sasl.specs.Laws.{HasShown}
use Rattle.bus_view.specs.Views.{Knowledge}
use Rattle.seq_bus_core.specs.declared.change.Change.{Change}
use Rattle.seq_bus_core.specs.declared.change.Change.TheVariants.{Hello}
use Rattle.std.specs.List.{AllByRecursion}
use Rattle.router_core.specs.Acts.{Exchange, Changed, ChangedAll, Goes}
use Rattle.router_core.specs.Deeds.{Deed}
use Rattle.router_core.specs.Events.{Occasion, Opened, Bytes, Closed, gathering, gathering_of_none, is_user, script}
use Rattle.router_core.specs.Laws.{HasNotBegun, IsClosing}
use Rattle.router_core.specs.OneThread.{Rest}
use Rattle.router_core.specs.Standing.{Stage, Authenticating, Unnamed, Named, Closing, Peer, Standing, fresh, peer_at, with_newcomer}
use Rattle.router_core.specs.declared.joint.Joint.{Joint}
use Rattle.router_laws.specs.Turns.{AreServedBy, Turn}

-- ## What came for a connection

-- how a connection came, and its bytes since then
pub record Client : Type 0 where
  pub challenge : Option (List ℕ)
  pub text : List ℕ

abbrev pub comer : (challenge : Option (List ℕ)) → Client
comer challenge = record { challenge = challenge; text = [] }

abbrev pub with_piece : List ℕ → Client → Client
with_piece piece client = record client { text = client.text ++ piece }

-- the connection that has the key after an event
abbrev pub client_after : ℕ → Option Client → Occasion → Option Client
client_after key client (Opened other challenge) = if other == key then Some (comer challenge) else client
client_after key client (Bytes other piece) = if other == key then option_map (with_piece piece) client else client
client_after key client (Closed other) = if other == key then None else client
client_after key client occasion = client

-- the connection that has the key after these events
abbrev pub client_of : ℕ → Option Client → List Occasion → Option Client
client_of key client [] = client
client_of key client (occasion ∷ occasions) = client_of key (client_after key client occasion) occasions

-- ## What it has said

-- It has said the line BEGIN.
pub record HasBegun (text : List ℕ) : Type 0 where
  pub before : List ℕ
  pub behind : List ℕ
  pub text_is : text ≡ before ++ begin ++ line_end ++ behind

-- By this text it is let in, as the bus's own user or not: nobody asked it, or it has shown who it is, and has begun.
abbrev pub IsLetIn : Option Login → (challenge : Option (List ℕ)) → (text : List ℕ) → (privileged : Bool) → Type 0
IsLetIn login None text privileged = privileged ≡ true
IsLetIn None (Some challenge) text privileged = ⊥
IsLetIn (Some login) (Some challenge) text privileged =
    (identity : Identity) × HasShown (record { login = login; challenge = challenge }) text identity × HasBegun text × (privileged ≡ is_user identity)

-- A connection that has come so far has said this.
abbrev pub HasSaid : Option Login → Client → Peer → Stage → Type 0
HasSaid login client p (Authenticating setting state) =
    (login ≡ Some setting.login) × (client.challenge ≡ Some setting.challenge) × ((sent : List ℕ) × Converses setting opening client.text sent state p.unread)
HasSaid login client p (Unnamed privileged) = IsLetIn login client.challenge client.text privileged
HasSaid login client p (Named conn) = (privileged : Bool) × IsLetIn login client.challenge client.text privileged
HasSaid login client p (Closing conn) = Unit {0}

-- From the first event on: whoever is past authentication has shown, by the bytes that came for it since it came, who it is, or was not
-- asked. Who still says it is in one conversation over all these bytes.
abbrev pub EachHasShown : Type 0
EachHasShown =
    (alone : Bool) (login : Option Login) (view : Knowledge) (occasions : List Occasion) (turns : List Turn) (after : Rest) →
    AreServedBy alone (record { standing = fresh login; view = view }) occasions turns after →
    (key : ℕ) (p : Peer) → peer_at after.standing key ≡ Some p → (client : Client) × (client_of key None occasions ≡ Some client) × HasSaid login client p p.stage

-- ## One event

-- A connection that comes has said nothing.
abbrev pub ComersHaveSaidNothing : Type 0
ComersHaveSaidNothing =
    (s : Standing) (key : ℕ) (challenge : Option (List ℕ)) → (p : Peer) × (peer_at (with_newcomer s key challenge) key ≡ Some p) × HasSaid s.login (comer challenge) p p.stage

-- One that was to say who it is has said this text, and is so now: it says it still; it is let in, and what is left stands behind a line
-- BEGIN; or it was closed.
abbrev pub HasHeard : Setting → List ℕ → Peer → Stage → Type 0
HasHeard setting text p (Authenticating same state) = (same ≡ setting) × ((sent : List ℕ) × Converses setting opening text sent state p.unread)
HasHeard setting text p (Unnamed privileged) =
    (identity : Identity) × HasShown setting text identity × ((before : List ℕ) × (text ≡ before ++ begin ++ line_end ++ p.unread)) × (privileged ≡ is_user identity)
HasHeard setting text p (Named conn) = ⊥
HasHeard setting text p (Closing conn) = conn ≡ None

-- Bytes that come go on with its conversation.
abbrev pub HearingGoesOn : Type 0
HearingGoesOn =
    (s t : Standing) (key : ℕ) (piece text sent : List ℕ) (p : Peer) (setting : Setting) (state : AuthState) (asked : List Exchange) (deeds : List Deed) →
    HasNotBegun s key p setting state → Converses setting opening text sent state p.unread → Goes (script s (Bytes key piece)) asked deeds t →
    (q : Peer) × (peer_at t key ≡ Some q) × HasHeard setting (text ++ piece) q q.stage

-- by it the connection of the key comes, bytes of it come, or it is gone
abbrev pub is_of : ℕ → Occasion → Bool
is_of key (Opened other challenge) = other == key
is_of key (Bytes other piece) = other == key
is_of key (Closed other) = other == key
is_of key occasion = false

-- No other event does anything to it.
abbrev pub OthersLeaveItAlone : Type 0
OthersLeaveItAlone =
    (s t : Standing) (occasion : Occasion) (key : ℕ) (p : Peer) (setting : Setting) (state : AuthState) (asked : List Exchange) (deeds : List Deed) →
    is_of key occasion ≡ false → HasNotBegun s key p setting state → Goes (script s occasion) asked deeds t → peer_at t key ≡ Some p

-- Nor does any other event do anything to one that was closed, and is not gone yet.
abbrev pub ClosedStayClosed : Type 0
ClosedStayClosed =
    (s t : Standing) (occasion : Occasion) (key : ℕ) (p : Peer) (asked : List Exchange) (deeds : List Deed) →
    is_of key occasion ≡ false → IsClosing s key p → Goes (script s occasion) asked deeds t → peer_at t key ≡ Some p

-- ## Turns of several connections

-- Whoever still says who it is is passed over in a turn, whichever calls stand before it.
abbrev pub LinesArePassedOver : Type 0
LinesArePassedOver = (joints : List Joint) (s : Standing) (key : ℕ) (p : Peer) (setting : Setting) (state : AuthState) → HasNotBegun s key p setting state →
    gathering joints s key (peer_at s key) ≡ gathering_of_none joints s

-- So is whoever was closed.
abbrev pub ClosedArePassedOver : Type 0
ClosedArePassedOver = (joints : List Joint) (s : Standing) (key : ℕ) (p : Peer) → IsClosing s key p → gathering joints s key (peer_at s key) ≡ gathering_of_none joints s

-- ## Hello

-- If the change is a Hello, its privilege is such.
abbrev pub IsHelloOf : (Bool → Type 0) → Change → Type 0
IsHelloOf Such (Hello privileged) = Such privileged
IsHelloOf Such change = Unit {0}

-- Each Hello that was asked of the bus is such.
abbrev pub AsksHellosOf : (Bool → Type 0) → List Exchange → Type 0
AsksHellosOf Such [] = Unit {0}
AsksHellosOf Such (Changed change heard ∷ later) = IsHelloOf Such change × AsksHellosOf Such later
AsksHellosOf Such (ChangedAll changes heard ∷ later) = AllByRecursion (IsHelloOf Such) changes × AsksHellosOf Such later
AsksHellosOf Such (other ∷ later) = AsksHellosOf Such later

-- From the first event on: each Hello that an event asks of the bus is of a connection that its bytes until then have let in, and is as
-- privileged as they say.
abbrev pub HellosAreOfThoseLetIn : Type 0
HellosAreOfThoseLetIn =
    (alone : Bool) (login : Option Login) (view : Knowledge) (occasions : List Occasion) (turns : List Turn) (now : Rest) →
    AreServedBy alone (record { standing = fresh login; view = view }) occasions turns now →
    (occasion : Occasion) (asked : List Exchange) (deeds : List Deed) (t : Standing) → Goes (script now.standing occasion) asked deeds t →
    AsksHellosOf (λ privileged. (key : ℕ) × (client : Client) × (client_of key None occasions ≡ Some client) × IsLetIn login client.challenge client.text privileged) asked
