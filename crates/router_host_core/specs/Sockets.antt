-- What becomes of connections by their sockets, and of who took no more mail.
use Rattle.std.specs.Prelude.{◌≡◌, ◌≢◌, ◌≤◌, ◌⊎◌, ℕ, true, false, Option, Some, None, List, [], ◌++◌, length, take, ◌==◌, if◌then◌else◌, slice_set}
use Rattle.std.specs.Io.KnownBytes.{Appends, IsAtEnd, prepend_known}
use Rattle.seq_bus_core.specs.declared.connection.Conn.{Conn}
use Rattle.router_host_core.specs.declared.ending.EndCause.{EndCause}
use Rattle.router_host_core.specs.declared.ending.EndCause.TheVariants.{EndOfInput, HungUp, Unreadable, Unwritable}
use Rattle.router_host_core.specs.declared.line.Pulled.{Pulled}
use Rattle.router_host_core.specs.declared.line.Pulled.TheVariants.{Bytes, Nothing, Over}
use Rattle.router_host_core.specs.declared.put_out.FullConn.{FullConn}
use Rattle.router_host_core.specs.declared.put_out.Refusal.{Refusal}
use Rattle.router_host_core.specs.Carrying.{full_at, line_at, untold, with_line}
use Rattle.router_host_core.specs.States.{LineState, ended_by}

-- The socket gives these bytes, and has the others yet to give.
abbrev pub Gives : LineState → List ℕ → Option (List ℕ) → Type 0
Gives l bytes left = l.left ≡ prepend_known bytes left

-- A socket that has these bytes yet to give can be read no more, for this cause: it has none left at the end of the input; or a read fails.
abbrev pub IsReadToEnd : Option (List ℕ) → EndCause → Type 0
IsReadToEnd left EndOfInput = IsAtEnd left
IsReadToEnd left HungUp = Unit {0}
IsReadToEnd left Unreadable = Unit {0}
IsReadToEnd left other = ⊥

-- What a read came to: the first bytes of the room are those that the socket gave; or it gave none, now or for good.
abbrev pub IsPulled : LineState → Pulled → List ℕ → LineState → Type 0
IsPulled before (Bytes count) room after =
    (left : Option (List ℕ)) × (count ≤ length room) × Gives before (take count room) left
    × (after ≡ record before { left = left })
IsPulled before Nothing room after = after ≡ before
IsPulled before (Over cause) room after = IsReadToEnd before.left cause × (after ≡ before)

abbrev pub IsPulledIn : List (Option LineState) → ℕ → Option LineState → Pulled → List ℕ →
    List (Option LineState) → Type 0
IsPulledIn before key None pulled room after = (pulled ≡ Nothing) × (after ≡ before)
IsPulledIn before key (Some l) pulled room after =
    (read : LineState) × IsPulled l pulled room read × (after ≡ with_line before key read)

-- the connection of a key is read, if there is one, and no other
abbrev pub IsPulledAt : ℕ → List (Option LineState) → Pulled → List ℕ → List (Option LineState) →
    Type 0
IsPulledAt key before pulled room after =
    IsPulledIn before key (line_at before key) pulled room after

-- What becomes of a connection whose socket did not take all that waits: it took no more for now; or it failed, and no more may follow: then the
-- connection is over; but where the other side hung up, what waits is lost alone, and what came before is read to its end.
abbrev pub IsCutShort : LineState → LineState → Type 0
IsCutShort before after =
    (after ≡ record before { blocked = true })
    ⊎ (after ≡ ended_by Unwritable (record before { broken = true }))
    ⊎ (after ≡ record before { waits = []; blocked = false; broken = true })

-- The socket takes the first of the bytes that wait, and the rest waits. Where there is no rest, nothing else changes.
pub record IsFlushed (before after : LineState) : Type 0 where
  pub reached : List ℕ
  pub rest : List ℕ
  pub splits : before.waits ≡ reached ++ rest
  pub taken : Option (List ℕ)
  pub takes : Appends before.taken taken reached
  pub outcome :
      ((rest ≡ []) × (after ≡ record before { taken = taken; waits = rest }))
      ⊎ ((rest ≢ []) × IsCutShort (record before { taken = taken; waits = rest }) after)

abbrev pub IsFlushedIn : List (Option LineState) → ℕ → Option LineState →
    List (Option LineState) → Type 0
IsFlushedIn before key None after = after ≡ before
IsFlushedIn before key (Some l) after =
    (flushed : LineState) × IsFlushed l flushed × (after ≡ with_line before key flushed)

-- the connection of a key is flushed, if there is one, and no other
abbrev pub IsFlushedAt : ℕ → List (Option LineState) → List (Option LineState) → Type 0
IsFlushedAt key before after = IsFlushedIn before key (line_at before key) after

-- the socket of the connection of a key takes bytes again
abbrev pub unblocked_at : List (Option LineState) → ℕ → Option LineState → List (Option LineState)
unblocked_at lines key None = lines
unblocked_at lines key (Some l) =
    if l.blocked then with_line lines key (record l { blocked = false }) else lines

-- why the connection is over, if it is
abbrev pub cause_of : Option LineState → Option EndCause
cause_of None = None
cause_of (Some l) = l.ended

-- A connection that is over for this cause is let go of.
abbrev pub let_go : List (Option LineState) → ℕ → Option EndCause → List (Option LineState)
let_go lines key None = lines
let_go lines key (Some cause) = slice_set lines key None

-- It is noted that the connection took no more mail, and the engine was not told yet.
abbrev pub IsUntold : Conn → List (Option FullConn) → Type 0
IsUntold conn full = (why : Refusal) × (full_at full conn ≡ Some (untold conn why))

-- The engine was told that the connection took no more mail, if no later one of its slot is noted since.
abbrev pub told_full : List (Option FullConn) → Conn → Option FullConn → List (Option FullConn)
told_full full conn None = full
told_full full conn (Some noted) =
    if noted.conn.number == conn.number then
    slice_set full conn.slot (Some (record noted { told = true }))
    else full
