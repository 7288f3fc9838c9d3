-- A connection that owns or waits for 64 names.
use Rattle.std.specs.Prelude.{◌≡◌, ℕ, ◌+◌, ◌/◌, ◌%◌, true, false, None, [], ◌∷◌, ◌++◌, map, codes}
use Rattle.std.specs.List.{range_with_len}
use Rattle.names.specs.Texts.{Text}
use Rattle.owner_queues.specs.declared.owner.QueuedOwner.{QueuedOwner}
use Rattle.owner_queues.specs.declared.reply.Reply.TheVariants.{InQueue, Exists, AlreadyOwner}
use Rattle.owner_queues.specs.declared.request.Profile.TheVariants.{One}
use Rattle.owner_queues.specs.declared.request.RequestFlags.{RequestFlags}
use Rattle.seq_bus_core.specs.BusState.{BusState, Connection}
use Rattle.seq_bus_core.specs.Steps.{step}
use Rattle.seq_bus_core.specs.Histories.{opening}
use Rattle.seq_bus_core.specs.declared.change.Change.TheVariants.{Request}
use Rattle.seq_bus_core.specs.declared.outcome.Reply.{Reply}
use Rattle.seq_bus_core.specs.declared.outcome.Reply.TheVariants.{LimitsExceeded, OfQueue}
use Rattle.test_rows.specs.Runs.{flags, plain_request}

abbrev pub waits_plainly : ℕ → QueuedOwner
waits_plainly n = record { connection = n; allow_replacement = false; do_not_queue = false }

abbrev pub connection : ℕ → Connection
connection n = record { number = n; router = 1; slot = n; privileged = true; monitor = None }

-- a.aa, a.ab and so on
abbrev pub small_name : ℕ → Text
small_name n = codes "a." ++ (97 + n / 26) ∷ (97 + n % 26) ∷ []

-- The first connection owns 63 names, and waits for one that the second owns.
abbrev pub with_64_names : BusState
with_64_names = record (opening One 1 []) {
  connections = connection 1 ∷ connection 2 ∷ [];
  names = record { name = codes "a.A"; queue = waits_plainly 2 ∷ waits_plainly 1 ∷ [] } ∷ map (λ n. record { name = small_name n; queue = waits_plainly 1 ∷ [] }) (range_with_len 0 63);
  next_number = 3;
}

abbrev pub reply_to_request : Text → RequestFlags → Reply
reply_to_request name asked = (step with_64_names 1 (Request 1 name asked)).1.reply

-- Another name is refused. Requests that take no further place are answered as ever.
abbrev pub No65thName : Type 0
No65thName =
    (reply_to_request (codes "z.z") plain_request ≡ LimitsExceeded)
    × (reply_to_request (codes "a.A") (flags false true false) ≡ OfQueue InQueue)
    × (reply_to_request (codes "a.A") (flags false false true) ≡ OfQueue Exists)
    × (reply_to_request (small_name 0) plain_request ≡ OfQueue AlreadyOwner)
