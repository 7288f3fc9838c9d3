-- Deeds, one after the other.
use Rattle.std.proofs.Common.{◌≡◌, ℕ, Bool, Option, List, [], ◌∷◌, ◌++◌, refl, ap, map}
use Rattle.seq_bus_core.specs.Histories.{History}
use Rattle.seq_bus_core.specs.declared.connection.Conn.{Conn}
use Rattle.outbox_core.specs.declared.envelope.Envelope.{Envelope}
use Rattle.router_core.specs.Deeds.{GatedCall}
use Rattle.router_host_core.specs.declared.post.StartRequest.{StartRequest}
use Rattle.router_host_core.specs.Carrying.{Each}
use Rattle.router_host_core.specs.Sockets.{IsFlushedAt}
use Rattle.router_host_core.specs.States.{LineState}
use Rattle.router_host_core.proofs.Steps.{each_then}
use Rattle.router_host.specs.Doing.{Does, Flushes, IsDone, Task, with_lines}
use Rattle.router_host.specs.States.{Hosted}

module _ {P N G : Type 0} (told : N → History) (registry_of : N → ℕ) (passes : G → GatedCall → G → Type 0)
    (alone : Bool) (puts : P → Conn → Envelope N → P → Type 0)
    (refuses : P → Conn → Type 0) (starts : P → StartRequest → P → Type 0) (takes : P → ℕ → Envelope N → P → Type 0) where
  flushed : (keys : List ℕ) (a : Hosted P G N) (lines : List (Option LineState)) → Each IsFlushedAt keys a.carried.lines lines →
      Each (IsDone told registry_of passes alone puts refuses starts takes) (map Flushes keys) a (with_lines a lines)
  flushed [] a lines is = ap (with_lines a) is
  flushed (key ∷ keys) a lines f =
      (with_lines a f.0, (f.0, f.1, refl), flushed keys (with_lines a f.0) lines f.2)

module _ {P N G : Type 0} {told : N → History} {registry_of : N → ℕ} {passes : G → GatedCall → G → Type 0}
    {alone : Bool} {puts : P → Conn → Envelope N → P → Type 0}
    {refuses : P → Conn → Type 0} {starts : P → StartRequest → P → Type 0} {takes : P → ℕ → Envelope N → P → Type 0} where
  pub does_nothing : {a : Hosted P G N} → Does told registry_of passes alone puts refuses starts takes a a
  does_nothing {a = a} = record { tasks = []; done = refl }

  pub does_one : {a b : Hosted P G N} (task : Task N) → IsDone told registry_of passes alone puts refuses starts takes task a b → Does told registry_of passes alone puts refuses starts takes a b
  does_one {b = b} task f = record { tasks = task ∷ []; done = (b, f, refl) }

  pub does_then : {a b c : Hosted P G N} → Does told registry_of passes alone puts refuses starts takes a b → Does told registry_of passes alone puts refuses starts takes b c → Does told registry_of passes alone puts refuses starts takes a c
  does_then {a = a} {b = b} {c = c} f g = record {
    tasks = f.tasks ++ g.tasks;
    done = each_then (IsDone told registry_of passes alone puts refuses starts takes) f.tasks g.tasks a b c f.done g.done;
  }

  -- The sockets of these connections are given what waits for them.
  pub does_flush : {a : Hosted P G N} (keys : List ℕ) {lines : List (Option LineState)} → Each IsFlushedAt keys a.carried.lines lines → Does told registry_of passes alone puts refuses starts takes a (with_lines a lines)
  does_flush {a = a} keys {lines = lines} f =
      record { tasks = map Flushes keys; done = flushed told registry_of passes alone puts refuses starts takes keys a lines f }

  pub does_same : {a b : Hosted P G N} → b ≡ a → Does told registry_of passes alone puts refuses starts takes a b
  does_same is = record { tasks = []; done = is }
