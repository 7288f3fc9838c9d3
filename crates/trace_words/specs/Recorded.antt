-- Which words stand behind the arrow of a line: those of its own kind, whether or not the bus would say them.
use Rattle.std.specs.Prelude.{ℕ, nat_lt, Bool, true, false, ◌&&◌, ◌||◌, Option, Some, None, List, [], ◌∷◌, codes, if◌then◌else◌}
use Rattle.std.specs.List.{list_all}
use Rattle.names.specs.Texts.{Text, text_eq}
use Rattle.seq_bus_core.specs.declared.change.Change.{Change}
use Rattle.seq_bus_core.specs.declared.change.Change.TheVariants.{Hello, Leave, Request, Release, AddMatch, RemoveMatch, BecomeMonitor, Start, Hold, ChildEnded, StartTimedOut}
use Rattle.seq_bus_core.specs.declared.query.Query.{Query}
use Rattle.seq_bus_core.specs.declared.query.Query.TheVariants.{GetNameOwner, NameHasOwner, ListNames, ListActivatableNames, ListQueuedOwners}
use Rattle.trace_words.specs.Words.{exclamation, plus, comma, slash, equals, parts, dash, number_of, is_number, is_bus_name}

abbrev pub is_number_or_none : Text → Bool
is_number_or_none text = text_eq text dash || is_number text

-- ## Recipients

abbrev pub rises : Option ℕ → Option ℕ → Bool
rises last None = false
rises None (Some number) = true
rises (Some last) (Some number) = nat_lt last number

-- numbers, each above the one before it
abbrev pub are_rising : Option ℕ → List Text → Bool
are_rising last [] = true
are_rising last (number ∷ numbers) = rises last (number_of number) && are_rising (number_of number) numbers

abbrev pub is_recipients : Text → Bool
is_recipients text = text_eq text dash || are_rising None (parts plus text)

-- ## Signals

-- NAME/OLD/NEW/TO/MON
abbrev pub is_owner_change : List Text → Bool
is_owner_change (name ∷ old ∷ new ∷ to ∷ monitors ∷ []) =
    is_bus_name name && is_number_or_none old && is_number_or_none new && is_recipients to && is_recipients monitors
is_owner_change other = false

-- NAME/TO/MON
abbrev pub is_name_told : List Text → Bool
is_name_told (name ∷ to ∷ monitors ∷ []) = is_bus_name name && is_recipients to && is_recipients monitors
is_name_told other = false

abbrev pub is_signal_of : List Text → Bool
is_signal_of [] = false
is_signal_of (kind ∷ told) =
    if text_eq kind (codes "noc") then is_owner_change told
    else if text_eq kind (codes "lost") then is_name_told told
    else if text_eq kind (codes "acq") then is_name_told told
    else false

abbrev pub is_signal : Text → Bool
is_signal text = is_signal_of (parts slash text)

abbrev pub is_signals : Text → Bool
is_signals text = text_eq text dash || list_all is_signal (parts comma text)

-- ## Tickets

-- a word and a number, as in held/7
abbrev pub is_numbered : Text → List Text → Bool
is_numbered word (front ∷ number ∷ []) = text_eq front word && is_number number
is_numbered word other = false

-- a ticket that was released, or one that failed: a number behind a sign
abbrev pub is_ticket : Text → Bool
is_ticket text = is_numbered [] (parts plus text) || is_numbered [] (parts exclamation text)

abbrev pub is_tickets : Text → Bool
is_tickets text = text_eq text dash || list_all is_ticket (parts comma text)

-- ## Replies

abbrev pub is_held : Text → Bool
is_held text = is_numbered (codes "held") (parts slash text)

abbrev pub is_passed : Text → Bool
is_passed text = is_numbered (codes "pass") (parts slash text)

-- the replies of a change of this kind
abbrev pub is_reply : Change → Text → Bool
is_reply (Hello privileged) text = text_eq text (codes "limits") || is_number text
is_reply (Leave connection) text = text_eq text (codes "ok") || text_eq text (codes "gone")
is_reply (Request connection name flags) text =
    text_eq text (codes "1") || text_eq text (codes "2") || text_eq text (codes "3") || text_eq text (codes "4")
    || text_eq text (codes "limits") || text_eq text (codes "invalid") || text_eq text (codes "gone")
is_reply (Release connection name) text =
    text_eq text (codes "1") || text_eq text (codes "2") || text_eq text (codes "3")
    || text_eq text (codes "invalid") || text_eq text (codes "gone")
is_reply (AddMatch connection rule) text = text_eq text (codes "ok") || text_eq text (codes "limits") || text_eq text (codes "gone")
is_reply (RemoveMatch connection rule) text = text_eq text (codes "ok") || text_eq text (codes "notfound") || text_eq text (codes "gone")
is_reply (BecomeMonitor connection rules) text = text_eq text (codes "ok") || text_eq text (codes "denied") || text_eq text (codes "gone")
is_reply (Start connection name call) text =
    text_eq text (codes "2") || text_eq text (codes "unknown") || text_eq text (codes "limits") || text_eq text (codes "gone")
    || is_held text
is_reply (Hold connection name call message) text =
    text_eq text (codes "unknown") || text_eq text (codes "limits") || text_eq text (codes "gone")
    || is_held text || is_passed text
is_reply (ChildEnded name start how) text = text_eq text (codes "ok") || text_eq text (codes "ignored")
is_reply (StartTimedOut name start) text = text_eq text (codes "ok") || text_eq text (codes "ignored")

-- ## What is recorded

-- a key, = and a value
abbrev pub value_of : Text → List Text → Option Text
value_of key (front ∷ value ∷ []) = if text_eq front key then Some value else None
value_of key other = None

abbrev pub holds_in : (Text → Bool) → Option Text → Bool
holds_in test None = false
holds_in test (Some value) = test value

abbrev pub has_value : Text → (Text → Bool) → Text → Bool
has_value key test word = holds_in test (value_of key (parts equals word))

-- r=REPLY g=SIGNALS t=TICKETS b=START
abbrev pub is_outcome : Change → List Text → Bool
is_outcome change (reply ∷ signals ∷ tickets ∷ start ∷ []) =
    has_value (codes "r") (is_reply change) reply && has_value (codes "g") is_signals signals
    && has_value (codes "t") is_tickets tickets && has_value (codes "b") is_number_or_none start
is_outcome change other = false

abbrev pub are_names : Text → Bool
are_names text = list_all is_bus_name (parts comma text)

abbrev pub is_answer : Query → Text → Bool
is_answer (GetNameOwner name) text = text_eq text (codes "none") || is_bus_name text
is_answer (NameHasOwner name) text = text_eq text (codes "0") || text_eq text (codes "1")
is_answer ListNames text = are_names text
is_answer ListActivatableNames text = are_names text
is_answer (ListQueuedOwners name) text = text_eq text (codes "none") || are_names text

abbrev pub is_kind : Text → Bool
is_kind text =
    text_eq text (codes "plain") || text_eq text (codes "bus") || text_eq text (codes "start") || text_eq text (codes "nobody")
    || text_eq text (codes "absent")

-- KIND TO MON
abbrev pub is_verdict : List Text → Bool
is_verdict (kind ∷ to ∷ monitors ∷ []) = is_kind kind && is_recipients to && is_recipients monitors
is_verdict other = false
