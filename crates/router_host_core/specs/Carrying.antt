-- What becomes of the actions of an event.
use Rattle.std.specs.Prelude.{◌≡◌, ◌≤◌, ◌⊎◌, ℕ, nat_le, Bool, true, false, Option, Some, None, List, [], ◌∷◌, ◌++◌, slice_index_or, slice_set, if◌then◌else◌}
use Rattle.seq_bus_core.specs.declared.connection.Conn.{Conn}
use Rattle.outbox_core.specs.Deliveries.{deliveries_of}
use Rattle.outbox_core.specs.declared.content.Content.{Content}
use Rattle.outbox_core.specs.declared.envelope.Envelope.{Envelope}
use Rattle.router_core.specs.declared.action.Action.{Action}
use Rattle.router_core.specs.declared.action.Action.TheVariants.{Write, Put, Close, Run}
use Rattle.router_host_core.specs.declared.ending.EndCause.{EndCause}
use Rattle.router_host_core.specs.declared.post.StartRequest.{StartRequest}
use Rattle.router_host_core.specs.declared.put_out.FullConn.{FullConn}
use Rattle.router_host_core.specs.declared.put_out.Refusal.{Refusal}
use Rattle.router_host_core.specs.declared.put_out.Refusal.TheVariants as refusal
use Rattle.router_host_core.specs.declared.ending.EndCause.TheVariants.{Closed, NoMemory}
use Rattle.router_host_core.specs.States.{LineState, Carried, ended_by}

-- a step for each of these, one after the other
abbrev pub Each : {X S : Type 0} → (X → S → S → Type 0) → List X → S → S → Type 0
Each step [] before after = after ≡ before
Each {S = S} step (x ∷ xs) before after =
    (between : S) × step x before between × Each step xs between after

-- ## Connections

abbrev pub line_at : List (Option LineState) → ℕ → Option LineState
line_at lines key = slice_index_or lines key None

abbrev pub with_line : List (Option LineState) → ℕ → LineState → List (Option LineState)
with_line lines key l = slice_set lines key (Some l)

-- The bytes stand behind those that wait. Where bytes were lost before, nothing follows them; where there is no memory for these, they
-- are lost, and the connection is over.
abbrev pub IsWritten : LineState → List ℕ → LineState → Type 0
IsWritten before bytes after = written before.broken
  where
    written : Bool → Type 0
    written true = after ≡ before
    written false =
        (after ≡ record before { waits = before.waits ++ bytes })
        ⊎ (after ≡ ended_by NoMemory (record before { broken = true }))

-- what is written to the connection of a key is written to no other
abbrev pub IsWrittenAt : List (Option LineState) → ℕ → List ℕ → Option LineState →
    List (Option LineState) → Type 0
IsWrittenAt before key bytes None after = after ≡ before
IsWrittenAt before key bytes (Some l) after =
    (written : LineState) × IsWritten l bytes written × (after ≡ with_line before key written)

abbrev pub ended_at : List (Option LineState) → ℕ → EndCause → Option LineState →
    List (Option LineState)
ended_at lines key cause None = lines
ended_at lines key cause (Some l) = with_line lines key (ended_by cause l)

-- its socket took no more bytes
abbrev pub IsBlockedAt : List (Option LineState) → ℕ → Type 0
IsBlockedAt lines key = (l : LineState) × (line_at lines key ≡ Some l) × (l.blocked ≡ true)

-- nothing waits for the socket of the connection of a key, if there is one
abbrev pub IsDrained : List (Option LineState) → ℕ → Type 0
IsDrained lines key = (l : LineState) → line_at lines key ≡ Some l → l.waits ≡ []

-- ## Mail

abbrev pub envelope_for : {N : Type 0} → Option N → Content → Conn → Envelope N
envelope_for note content conn = record { number = conn.number; note = note; content = content }

-- the latest connection of this one's slot that took no more mail, if there was one
abbrev pub full_at : List (Option FullConn) → Conn → Option FullConn
full_at full conn = slice_index_or full conn.slot None

-- It is noted of the connection, or of a later one of its slot, that it took no more mail.
abbrev pub IsNotedFull : Conn → List (Option FullConn) → Type 0
IsNotedFull conn full =
    (noted : FullConn) × (full_at full conn ≡ Some noted) × (conn.number ≤ noted.conn.number)

-- why the connection took no more mail, if one is noted
abbrev pub refusal_of : Option FullConn → Option Refusal
refusal_of None = None
refusal_of (Some noted) = Some noted.refusal

-- a connection that took no more mail, for this reason, which the engine was not told yet
abbrev pub untold : Conn → Refusal → FullConn
untold conn why = record { conn = conn; refusal = why; told = false }

-- It is noted that the connection took no more mail, but where one of a greater number is noted, which is a later one.
abbrev pub noted_full : List (Option FullConn) → Conn → Refusal → Option FullConn → List (Option FullConn)
noted_full full conn why None = slice_set full conn.slot (Some (untold conn why))
noted_full full conn why (Some noted) =
    if nat_le conn.number noted.conn.number then full
    else slice_set full conn.slot (Some (untold conn why))

module _ {P N : Type 0} (puts : P → Conn → Envelope N → P → Type 0)
    (refuses : P → Conn → Type 0) where
  -- Why an envelope for a connection may be refused. The ways between routers know whether there is room, and not whether there is memory.
  abbrev pub MayRefuse : P → Conn → Refusal → Type 0
  MayRefuse post conn refusal.NoRoom = refuses post conn
  MayRefuse post conn refusal.NoMemory = Unit {0}

  -- An envelope for the connection is refused, and it is noted why.
  abbrev pub IsRefused : Conn → Refusal → Carried P → Carried P → Type 0
  IsRefused conn why before after =
      MayRefuse before.post conn why
      × (after ≡ record before
      { full = noted_full before.full conn why (full_at before.full conn) })

  -- An envelope for the connection is put, or it is refused; and nothing is where one was refused before.
  abbrev pub IsPut : Option N → Content → Conn → Carried P → Carried P → Type 0
  IsPut carried content conn before after =
      (IsNotedFull conn before.full × (after ≡ before))
      ⊎ ((IsNotedFull conn before.full → ⊥)
      × (((post : P) × puts before.post conn (envelope_for carried content conn) post
      × (after ≡ record before { post = post }))
      ⊎ ((why : Refusal) × IsRefused conn why before after)))

  -- to the monitors that are no recipients, and then to the recipients
  abbrev pub ArePut : Option N → Content → List Conn → List Conn → Carried P → Carried P → Type 0
  ArePut note content to monitors before after =
      Each (IsPut note content) (deliveries_of to monitors) before after

-- ## Actions

abbrev pub IsStart : {N : Type 0} → Action N → Type 0
IsStart (Run name start) = Unit {0}
IsStart other = ⊥

module _ {P N : Type 0} (puts : P → Conn → Envelope N → P → Type 0)
    (refuses : P → Conn → Type 0) (starts : P → StartRequest → P → Type 0) where
  abbrev pub IsCarriedOut : Action N → Carried P → Carried P → Type 0
  IsCarriedOut (Write key bytes) before after =
      (lines : List (Option LineState))
      × IsWrittenAt before.lines key bytes (line_at before.lines key) lines
      × (after ≡ record before { lines = lines })
  IsCarriedOut (Put to carried content) before after =
      ArePut puts refuses carried content to.to to.monitors before after
  IsCarriedOut (Close key cause) before after =
      after ≡ record before
      { lines = ended_at before.lines key (Closed cause) (line_at before.lines key) }
  IsCarriedOut (Run name start) before after =
      (post : P) × starts before.post (record { name = name.value; start = start }) post
      × (after ≡ record before { post = post })

  -- Each of the actions is carried out, in order, and nothing else is done.
  abbrev pub AreCarriedOut : List (Action N) → Carried P → Carried P → Type 0
  AreCarriedOut actions before after = Each IsCarriedOut actions before after

  -- nothing is left, or what is left begins with a start
  abbrev pub WaitsForRoom : List (Action N) → Type 0
  WaitsForRoom [] = Unit {0}
  WaitsForRoom (action ∷ actions) = IsStart action

  -- Of the actions that were left the first ones are carried out, in order, and the others are left; nothing else is done.
  pub record GoesOn (left : List (Action N)) (before : Carried P) (left_now : List (Action N))
      (after : Carried P) : Type 0 where
    pub done : List (Action N)
    pub all : left ≡ done ++ left_now
    pub carried : AreCarriedOut done before after
    pub waits : WaitsForRoom left_now
