-- How the bytes of a connection are cut. Other events may stand before and behind.
use Rattle.std.specs.Prelude.{◌≡◌, ℕ, false, zero, suc, ◌==◌, Some, List, [], ◌∷◌, ◌++◌, if◌then◌else◌}
use Rattle.router_core.specs.Events.{Occasion, Bytes, Next, Turn}
use Rattle.router_core.specs.Incoming.{Incoming, Waits, Whole, Faulty, IsIncoming}
use Rattle.router_core.specs.OneThread.{Rest}
use Rattle.router_core.specs.Standing.{Peer, SpeaksDBus, peer_at}
use Rattle.router_laws.specs.Logins.{is_of}
use Rattle.router_laws.specs.Turns.{Turn as Served}
use Rattle.router_laws.specs.GrantedRuns.{ComeToTheSame, IsGrantedRun}

-- how many messages of the connection of the key a turn of these keys asks for
abbrev pub asked_of : ℕ → List ℕ → ℕ
asked_of key [] = 0
asked_of key (other ∷ keys) = if other == key then suc (asked_of key keys) else asked_of key keys

-- A message stands there, and this holds of the bytes behind it, or what is no message.
abbrev pub IsFollowed : (List ℕ → Type 0) → Incoming → Type 0
IsFollowed behind Waits = ⊥
IsFollowed behind (Whole message rest) = behind rest
IsFollowed behind (Faulty fault) = Unit {0}

-- The bytes begin with so many whole messages, or with fewer and what is no message.
abbrev pub BeginWith : ℕ → List ℕ → Type 0
BeginWith zero bytes = Unit {0}
BeginWith (suc count) bytes = (incoming : Incoming) × IsIncoming bytes incoming × IsFollowed (BeginWith count) incoming

-- They begin with all the messages of the connection of the key that the event asks for.
abbrev pub HaveAllOf : ℕ → Occasion → List ℕ → Type 0
HaveAllOf key (Next other) bytes = BeginWith (asked_of key (other ∷ [])) bytes
HaveAllOf key (Turn keys) bytes = BeginWith (asked_of key keys) bytes
HaveAllOf key occasion bytes = Unit {0}

-- Bytes that come one after the other, and bytes that come at once, are the same: those of messages, and those of the lines in which a
-- connection says who it is.
abbrev pub PiecesAreJoined : Type 0
PiecesAreJoined = (before : Rest) (earlier later : List Occasion) (key : ℕ) (first second : List ℕ) →
    ComeToTheSame before (earlier ++ Bytes key first ∷ Bytes key second ∷ later) (earlier ++ Bytes key (first ++ second) ∷ later)

-- After these events, in which nothing was refused, the connection of the key is there, and is so.
pub record HasCome (before : Rest) (events : List Occasion) (key : ℕ) : Type 0 where
  pub turns : List Served
  pub now : Rest
  pub run : IsGrantedRun before events turns now
  pub peer : Peer
  pub here : peer_at now.standing key ≡ Some peer

-- To serve a connection whose next message is not whole yet does nothing.
abbrev pub ShortMessagesWait : Type 0
ShortMessagesWait = (before : Rest) (earlier later : List Occasion) (key : ℕ) (come : HasCome before earlier key) →
    IsIncoming come.peer.unread Waits → ComeToTheSame before (earlier ++ Next key ∷ later) (earlier ++ later)

-- To serve a connection that still says who it is does nothing: its bytes are lines.
abbrev pub LinesAreNotServed : Type 0
LinesAreNotServed = (before : Rest) (earlier later : List Occasion) (key : ℕ) (come : HasCome before earlier key) →
    (SpeaksDBus come.peer.stage → ⊥) → ComeToTheSame before (earlier ++ Next key ∷ later) (earlier ++ later)

-- Bytes of a connection that has begun its messages may as well come earlier: before an event that is not of its coming, its bytes or its
-- end, and asks for no message of it that was not whole.
abbrev pub BytesComeWhenever : Type 0
BytesComeWhenever = (before : Rest) (earlier later : List Occasion) (key : ℕ) (piece : List ℕ) (occasion : Occasion) (come : HasCome before earlier key) →
    is_of key occasion ≡ false → HaveAllOf key occasion come.peer.unread → SpeaksDBus come.peer.stage →
    ComeToTheSame before (earlier ++ occasion ∷ Bytes key piece ∷ later) (earlier ++ Bytes key piece ∷ occasion ∷ later)

-- the keys without this one
abbrev pub without_key : ℕ → List ℕ → List ℕ
without_key key [] = []
without_key key (other ∷ keys) = if other == key then without_key key keys else other ∷ without_key key keys

-- A turn may as well leave out a connection whose next message is not whole yet, or that still says who it is.
abbrev pub TurnsLeaveOut : Type 0
TurnsLeaveOut = (before : Rest) (earlier later : List Occasion) (key : ℕ) (keys : List ℕ) (come : HasCome before earlier key) →
    (SpeaksDBus come.peer.stage → IsIncoming come.peer.unread Waits) → ComeToTheSame before (earlier ++ Turn keys ∷ later) (earlier ++ Turn (without_key key keys) ∷ later)
