-- All that a host does.
use Rattle.std.specs.Prelude.{◌≡◌, ◌⊎◌, ℕ, Bool, Some, None, Option, List}
use Rattle.seq_bus_core.specs.Histories.{History}
use Rattle.seq_bus_core.specs.declared.connection.Conn.{Conn}
use Rattle.bus_view.specs.declared.view.BusView.{Ghosts as BusView}
use Rattle.outbox_core.specs.declared.envelope.Envelope.{Envelope}
use Rattle.router_core.specs.declared.event.Event.{Event}
use Rattle.router_core.specs.declared.event.Event.TheVariants as event
use Rattle.router_core.specs.declared.gate.Gate.{Ghosts as Gate}
use Rattle.router_core.specs.Deeds.{GatedCall}
use Rattle.router.specs.Numbers.{number_at}
use Rattle.router_host_core.specs.declared.ending.EndCause.{EndCause}
use Rattle.router_host_core.specs.declared.post.StartRequest.{StartRequest}
use Rattle.router_host_core.specs.declared.post.Post.{Ghosts as Post}
use Rattle.router_host_core.specs.declared.put_out.FullConn.{FullConn}
use Rattle.router_host_core.specs.Carrying.{Each, IsDrained, full_at, line_at, with_line, ended_at}
use Rattle.router_host_core.specs.Sockets.{Gives, IsFlushedAt, IsReadToEnd, IsUntold, cause_of, let_go, told_full}
use Rattle.router_host_core.specs.States.{LineState}
use Rattle.router_host.specs.Happening.{CatchesUp, Happens, IsSlotBlocked}
use Rattle.router_host.specs.States.{Happening, Hosted, Piece, Waiting}

-- What a host does by itself.
pub data Task (N : Type 0) : Type 0 where
  -- What events before brought goes on.
  Catches : Task N
  -- What was kept happens, or is kept still.
  Resumes : Task N
  -- The socket of the connection of this key gives these bytes, which wait to be an event.
  Reads : ℕ → List ℕ → Task N
  -- Whole messages of a connection are an event.
  Hears : Event N → Task N
  -- An envelope of this slot is taken from the post, and is an event.
  Takes : ℕ → Envelope N → Task N
  -- The socket of the connection of this key can be read no more.
  Ends : ℕ → EndCause → Task N
  -- The socket of the connection of this key is given what waits for it.
  Flushes : ℕ → Task N
  -- The connection of this key is over, and let go of, which is an event.
  LetsGo : ℕ → Task N
  -- This connection took no more mail, which is an event that the engine was not told yet.
  PutsOut : Conn → Task N

-- an event of messages of connections
abbrev pub IsHeard : {N : Type 0} → Event N → Type 0
IsHeard (event.Next key) = Unit {0}
IsHeard (event.Turn keys) = Unit {0}
IsHeard other = ⊥

-- what waits is this event, or bytes that come by it
abbrev pub IsWaiting : {N : Type 0} → Option (Waiting N) → Event N → Type 0
IsWaiting (Some (Piece key bytes)) (event.Bytes other piece) =
    (other ≡ key) × (piece.items ≡ bytes)
IsWaiting (Some (Happening e)) other = e ≡ other
IsWaiting kept other = ⊥

module _ {P N G : Type 0} where
  abbrev pub with_lines : Hosted P G N → List (Option LineState) → Hosted P G N
  with_lines s lines = record s { carried = record s.carried { lines = lines } }

  abbrev pub with_post : Hosted P G N → P → Hosted P G N
  with_post s post = record s { carried = record s.carried { post = post } }

  abbrev pub with_full : Hosted P G N → List (Option FullConn) → Hosted P G N
  with_full s full = record s { carried = record s.carried { full = full } }

-- The socket of the connection of a key may be read: one without a name is read only where nothing waits for its socket.
abbrev pub MayBeRead : {P N G : Type 0} → Hosted P G N → ℕ → Type 0
MayBeRead s key = number_at s.engine.standing key ≡ None → IsDrained s.carried.lines key

module _ {P N G : Type 0} (told : N → History) (registry_of : N → ℕ) (passes : G → GatedCall → G → Type 0)
    (alone : Bool) (puts : P → Conn → Envelope N → P → Type 0)
    (refuses : P → Conn → Type 0) (starts : P → StartRequest → P → Type 0) where
  -- The event happens; or what events before brought goes on, and the event is kept.
  abbrev pub IsBrought : Hosted P G N → Event N → Hosted P G N → Type 0
  IsBrought before e after =
      Happens told registry_of passes alone puts refuses starts before e after
      ⊎ ((between : Hosted P G N) × CatchesUp puts refuses starts before between
      × (after ≡ record between { kept = Some (Happening e) }))

  -- It happens that the connection took no more mail, and the engine was told; or what events before brought goes on.
  abbrev pub IsPutOut : Hosted P G N → Conn → Hosted P G N → Type 0
  IsPutOut before conn after =
      ((between : Hosted P G N)
      × Happens told registry_of passes alone puts refuses starts before (event.Full conn.number) between
      × (after ≡ with_full between
      (told_full between.carried.full conn (full_at between.carried.full conn))))
      ⊎ CatchesUp puts refuses starts before after

module _ {P N G : Type 0} (told : N → History) (registry_of : N → ℕ) (passes : G → GatedCall → G → Type 0)
    (alone : Bool) (puts : P → Conn → Envelope N → P → Type 0)
    (refuses : P → Conn → Type 0) (starts : P → StartRequest → P → Type 0)
    (takes : P → ℕ → Envelope N → P → Type 0) where
  -- Nothing else is done. While something is kept, nothing else is served, no socket is read and no envelope is taken.
  abbrev pub IsDone : Task N → Hosted P G N → Hosted P G N → Type 0
  IsDone Catches before after = CatchesUp puts refuses starts before after
  IsDone Resumes before after =
      (e : Event N) × IsWaiting before.kept e
      × IsBrought told registry_of passes alone puts refuses starts (record before { kept = None }) e after
  IsDone (Reads key bytes) before after =
      (before.kept ≡ None) × MayBeRead before key
      × ((l : LineState) × (line_at before.carried.lines key ≡ Some l)
      × ((left : Option (List ℕ)) × Gives l bytes left
      × (after ≡ record (with_lines before
      (with_line before.carried.lines key (record l { left = left })))
      { kept = Some (Piece key bytes) })))
  IsDone (Hears e) before after =
      (before.kept ≡ None) × IsHeard e × IsBrought told registry_of passes alone puts refuses starts before e after
  IsDone (Takes slot envelope) before after =
      (before.kept ≡ None) × (IsSlotBlocked before slot → ⊥)
      × ((post : P) × takes before.carried.post slot envelope post
      × IsBrought told registry_of passes alone puts refuses starts (with_post before post)
      (event.Mail slot envelope) after)
  IsDone (Ends key cause) before after =
      MayBeRead before key
      × (l : LineState) × (line_at before.carried.lines key ≡ Some l) × IsReadToEnd l.left cause
      × (after ≡ with_lines before (ended_at before.carried.lines key cause (Some l)))
  IsDone (Flushes key) before after =
      (lines : List (Option LineState)) × IsFlushedAt key before.carried.lines lines
      × (after ≡ with_lines before lines)
  IsDone (LetsGo key) before after =
      (before.kept ≡ None)
      × ((cause : EndCause) × (cause_of (line_at before.carried.lines key) ≡ Some cause)
      × IsBrought told registry_of passes alone puts refuses starts
      (with_lines before (let_go before.carried.lines key (Some cause))) (event.Closed key) after)
  IsDone (PutsOut conn) before after =
      IsUntold conn before.carried.full
      × IsPutOut told registry_of passes alone puts refuses starts before conn after

  -- Such tasks are done, one after the other, and nothing else.
  pub record Does (before after : Hosted P G N) : Type 0 where
    pub tasks : List (Task N)
    pub done : Each IsDone tasks before after

-- the same by a view, a gate and a post
abbrev pub IsBroughtBy : {V N R G P : Type 0} → BusView V N R → Gate G → Post P V N R → Hosted P G N →
    Event N → Hosted P G N → Type 0
IsBroughtBy view gate post before e after =
    IsBrought view.told view.registry_of gate.passes view.alone post.puts post.refuses post.starts before e after

abbrev pub DoesBy : {V N R G P : Type 0} → BusView V N R → Gate G → Post P V N R → Hosted P G N →
    Hosted P G N → Type 0
DoesBy view gate post before after =
    Does view.told view.registry_of gate.passes view.alone post.puts post.refuses post.starts post.takes before after
