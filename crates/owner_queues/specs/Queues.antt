-- The queue of a name: the owner first, then those who wait, in order.
-- (D-Bus Specification: "org.freedesktop.DBus.RequestName", "org.freedesktop.DBus.ReleaseName")
use Rattle.std.specs.Prelude.{◌≡◌, ◌<◌, ℕ, Bool, true, false, not, ◌&&◌, ◌==◌, Option, Some, None, List, [], ◌∷◌, ◌++◌, length, map, filter, if◌then◌else◌}
use Rattle.std.specs.List.{list_any}
use Rattle.owner_queues.specs.declared.owner.QueuedOwner.{QueuedOwner}
use Rattle.owner_queues.specs.declared.request.RequestFlags.{RequestFlags}
use Rattle.owner_queues.specs.declared.request.Profile.{Profile}
use Rattle.owner_queues.specs.declared.request.Profile.TheVariants.{One, Two}
use Rattle.owner_queues.specs.declared.reply.Reply.{Reply}
use Rattle.owner_queues.specs.declared.reply.Reply.TheVariants.{PrimaryOwner, InQueue, Exists, AlreadyOwner, Released, NonExistent, NotOwner}

abbrev pub Queue : Type 0
Queue = List QueuedOwner

-- the owner's connection; none where nobody owns the name
abbrev pub queue_head : Queue → Option ℕ
queue_head [] = None
queue_head (owner ∷ waiting) = Some owner.connection

abbrev pub is_in : ℕ → Queue → Bool
is_in connection queue = list_any (λ o. o.connection == connection) queue

-- each connection stands in a queue once
abbrev pub IsQueue : Queue → Type 0
IsQueue [] = Unit {0}
IsQueue (entry ∷ behind) = (is_in entry.connection behind ≡ false) × IsQueue behind

-- the most places of one queue
abbrev pub max_places : ℕ
max_places = 256

-- A connection that is in the queue needs no other place; any other does.
abbrev pub HasRoom : ℕ → Queue → Type 0
HasRoom connection queue = is_in connection queue ≡ false → length queue < max_places

-- the queue without a connection, the others in order
abbrev pub without : ℕ → Queue → Queue
without connection queue = filter (λ o. not (o.connection == connection)) queue

-- the entry of a connection that requests a name with these flags
abbrev pub entry_of : ℕ → RequestFlags → QueuedOwner
entry_of connection flags = record { connection = connection; allow_replacement = flags.allow_replacement; do_not_queue = flags.do_not_queue }

-- the queue with a new entry in the place that its connection has
abbrev pub renewed : QueuedOwner → Queue → Queue
renewed entry queue = map (λ o. if o.connection == entry.connection then entry else o) queue

-- Who lost the name waits next, unless it asked not to wait.
abbrev pub demoted : QueuedOwner → Queue
demoted owner = if owner.do_not_queue then [] else owner ∷ []

-- those who wait, once this entry waits among them
abbrev pub joined : QueuedOwner → Queue → Queue
joined entry waiting = if is_in entry.connection waiting then renewed entry waiting else waiting ++ entry ∷ []

-- the same where the entry would replace the owner, if that allowed it
abbrev pub joined_to_replace : Profile → QueuedOwner → Queue → Queue
joined_to_replace One entry waiting = joined entry waiting
joined_to_replace Two entry waiting = entry ∷ without entry.connection waiting

-- a request of the name: the queue after it, and the reply
abbrev pub requested : Profile → ℕ → RequestFlags → Queue → Queue × Reply
requested profile connection flags [] = (entry_of connection flags ∷ [], PrimaryOwner)
requested profile connection flags (owner ∷ waiting) =
    let entry = entry_of connection flags in
    if owner.connection == connection then (entry ∷ waiting, AlreadyOwner)
    else if owner.allow_replacement && flags.replace_existing then (entry ∷ demoted owner ++ without connection waiting, PrimaryOwner)
    else if flags.do_not_queue then (owner ∷ without connection waiting, Exists)
    else if flags.replace_existing then (owner ∷ joined_to_replace profile entry waiting, InQueue)
    else (owner ∷ joined entry waiting, InQueue)

-- a connection gives up its place, if it has one
abbrev pub left : ℕ → Queue → Queue
left connection queue = without connection queue

abbrev pub is_free : Queue → Bool
is_free [] = true
is_free (owner ∷ waiting) = false

-- a release of the name: the queue after it, and the reply
abbrev pub released : ℕ → Queue → Queue × Reply
released connection queue =
    if is_in connection queue then (left connection queue, Released)
    else if is_free queue then (queue, NonExistent)
    else (queue, NotOwner)
