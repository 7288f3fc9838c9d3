-- What a router keeps between events.
use Rattle.std.specs.Prelude.{◌≡◌, ℕ, zero, suc, ◌+◌, Bool, true, false, ◌==◌, ◌&&◌, Option, Some, None, List, [], ◌∷◌, slice_index_or, slice_set, if◌then◌else◌}
use Rattle.seq_bus_core.specs.declared.connection.Conn.{Conn}
use Rattle.sasl.specs.Settings.{Login, Setting}
use Rattle.sasl.specs.Conversations.{State as AuthState, opening as auth_opening}

-- How far a connection has come. It is privileged where it proved to be its user's.
pub data Stage : Type 0 where
  -- It says who it is: what the conversation is set up with, and how far it has come. Its unread bytes are a line that has no end yet.
  Authenticating : Setting → AuthState → Stage
  -- it has no name yet
  Unnamed : (privileged : Bool) → Stage
  Named : Conn → Stage
  -- the bus closed it, and it is not gone yet
  Closing : Option Conn → Stage

-- How far it has come; its bytes behind the messages that were served; the serial of the last message of the bus that was written to
-- it; and whether it is a monitor, which sends nothing any more.
pub record Peer : Type 0 where
  pub stage : Stage
  pub unread : List ℕ
  pub serial : ℕ
  pub watches : Bool

-- ## Places that may be vacant

module _ {A : Type 0} where
  -- before others
  abbrev pub before_all : Option A → List (Option A) → List (Option A)
  before_all None [] = []
  before_all None (o ∷ os) = None ∷ o ∷ os
  before_all (Some x) os = Some x ∷ os

  -- without the vacant ones behind the last that is not
  abbrev pub trimmed : List (Option A) → List (Option A)
  trimmed [] = []
  trimmed (o ∷ os) = before_all o (trimmed os)

  -- One is taken; it may stand beyond the others.
  abbrev pub placed : List (Option A) → ℕ → A → List (Option A)
  placed [] zero x = Some x ∷ []
  placed [] (suc key) x = None ∷ placed [] key x
  placed (o ∷ os) zero x = Some x ∷ os
  placed (o ∷ os) (suc key) x = o ∷ placed os key x

  -- One is vacant from now on.
  abbrev pub vacated : List (Option A) → ℕ → List (Option A)
  vacated os key = trimmed (slice_set os key None)

-- ## What a router keeps

-- The connections by their keys; the numbers of those that left, whose Leave is not made yet; and who may log in, if anyone may.
pub record Standing : Type 0 where
  pub peers : List (Option Peer)
  pub due_leaves : List ℕ
  pub login : Option Login

abbrev pub fresh : Option Login → Standing
fresh login = record { peers = []; due_leaves = []; login = login }

abbrev pub peer_at : Standing → ℕ → Option Peer
peer_at s key = slice_index_or s.peers key None

abbrev pub with_peer : Standing → ℕ → Option Peer → Standing
with_peer s key peer = record s { peers = slice_set s.peers key peer }

-- no connection has the key
abbrev pub IsFree : Standing → ℕ → Type 0
IsFree s key = peer_at s key ≡ None

-- The connection is gone, and its key is free.
abbrev pub without_peer : Standing → ℕ → Standing
without_peer s key = record s { peers = vacated s.peers key }

-- Whoever is challenged says who it is first. Nobody asks another: it counts as the bus's own user's. No one can answer a challenge where no
-- one may log in.
abbrev pub first_stage : Option Login → (challenge : Option (List ℕ)) → Stage
first_stage login None = Unnamed true
first_stage None (Some challenge) = Closing None
first_stage (Some login) (Some challenge) = Authenticating (record { login = login; challenge = challenge }) auth_opening

-- a connection that has sent nothing
abbrev pub newcomer : Stage → Peer
newcomer stage = record { stage = stage; unread = []; serial = 0; watches = false }

abbrev pub with_newcomer : Standing → ℕ → (challenge : Option (List ℕ)) → Standing
with_newcomer s key challenge = record s { peers = placed s.peers key (newcomer (first_stage s.login challenge)) }

-- the number and the slot that its Hello gave it
abbrev pub conn_of : Stage → Option Conn
conn_of (Authenticating setting state) = None
conn_of (Unnamed privileged) = None
conn_of (Named conn) = Some conn
conn_of (Closing conn) = conn

-- The bus numbers the messages that it sends from 1, and begins again after the greatest serial.
abbrev pub next_serial : ℕ → ℕ
next_serial serial = if serial == 4294967295 then 1 else serial + 1

-- A connection that was closed has no bytes left, and takes none.
abbrev pub closing_peer : Peer → Peer
closing_peer p = record p { stage = Closing (conn_of p.stage); unread = [] }

-- It has begun its messages.
abbrev pub SpeaksDBus : Stage → Type 0
SpeaksDBus (Authenticating setting state) = ⊥
SpeaksDBus (Unnamed privileged) = Unit {0}
SpeaksDBus (Named conn) = Unit {0}
SpeaksDBus (Closing conn) = Unit {0}

-- it has a name, and this slot
abbrev pub has_slot : ℕ → Option Peer → Bool
has_slot slot None = false
has_slot slot (Some p) = is_in p.stage
  where
    is_in : Stage → Bool
    is_in (Named conn) = conn.slot == slot
    is_in (Authenticating setting state) = false
    is_in (Unnamed privileged) = false
    is_in (Closing conn) = false

-- it is there, and has no name yet
abbrev pub is_unnamed : Option Peer → Bool
is_unnamed None = false
is_unnamed (Some p) = is_without p.stage
  where
    is_without : Stage → Bool
    is_without (Authenticating setting state) = true
    is_without (Unnamed privileged) = true
    is_without (Named conn) = false
    is_without (Closing conn) = false

-- it has a name, this slot and this number
abbrev pub is_conn : (slot number : ℕ) → Option Peer → Bool
is_conn slot number None = false
is_conn slot number (Some p) = is_it p.stage
  where
    is_it : Stage → Bool
    is_it (Named conn) = (conn.slot == slot) && (conn.number == number)
    is_it (Authenticating setting state) = false
    is_it (Unnamed privileged) = false
    is_it (Closing conn) = false
