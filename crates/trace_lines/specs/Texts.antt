-- How a line is written.
use Rattle.std.specs.Prelude.{ℕ, ◌+◌, Bool, true, false, Option, Some, None, List, [], ◌∷◌, ◌++◌, codes, decimal, if◌then◌else◌}
use Rattle.std.specs.List.{flat_map}
use Rattle.hex.specs.Hex.{encode_lower}
use Rattle.names.specs.Texts.{Text}
use Rattle.match_rules.specs.Kinds.{kind_number}
use Rattle.match_rules.specs.Rules.{Rule}
use Rattle.match_rules.specs.CanonicalTexts.{rule_text}
use Rattle.match_rules.specs.Facts.{Facts, Argument, StringArgument, PathArgument, OtherArgument}
use Rattle.owner_queues.specs.Replies.{code_of}
use Rattle.owner_queues.specs.declared.request.RequestFlags.{RequestFlags}
use Rattle.owner_queues.specs.declared.request.TheConstants.{ALLOW_REPLACEMENT, REPLACE_EXISTING, DO_NOT_QUEUE}
use Rattle.owner_queues.specs.declared.request.Profile.{Profile}
use Rattle.owner_queues.specs.declared.request.Profile.TheVariants.{One, Two}
use Rattle.seq_bus_core.specs.Answers.{Answer, OneName, HasOwner, NameList}
use Rattle.seq_bus_core.specs.declared.change.Change.{Change}
use Rattle.seq_bus_core.specs.declared.change.Change.TheVariants.{Hello, Leave, Request, Release, AddMatch, RemoveMatch, BecomeMonitor, Start, Hold, ChildEnded, StartTimedOut}
use Rattle.seq_bus_core.specs.declared.change.Ending.{Ending}
use Rattle.seq_bus_core.specs.declared.change.Ending.TheVariants.{Exit, Killed, NotRun}
use Rattle.seq_bus_core.specs.declared.connection.Conn.{Conn}
use Rattle.seq_bus_core.specs.declared.outcome.NumberedOutcome.{NumberedOutcome}
use Rattle.seq_bus_core.specs.declared.outcome.Reply.{Reply}
use Rattle.seq_bus_core.specs.declared.outcome.Reply.TheVariants.{Gone, LimitsExceeded, Done, Welcome, OfQueue, InvalidName, RuleNotFound, AccessDenied, AlreadyRunning, Held, ServiceUnknown, Pass, Ignored}
use Rattle.seq_bus_core.specs.declared.query.Query.{Query}
use Rattle.seq_bus_core.specs.declared.query.Query.TheVariants.{GetNameOwner, NameHasOwner, ListNames, ListActivatableNames, ListQueuedOwners}
use Rattle.seq_bus_core.specs.declared.signal.AddressedSignal.{AddressedSignal}
use Rattle.seq_bus_core.specs.declared.signal.BusSignal.{BusSignal}
use Rattle.seq_bus_core.specs.declared.signal.BusSignal.TheVariants.{NameOwnerChanged, NameLost, NameAcquired}
use Rattle.seq_bus_core.specs.declared.ticket.Fate.{Fate}
use Rattle.seq_bus_core.specs.declared.ticket.Fate.TheVariants.{Served, Failed}
use Rattle.seq_bus_core.specs.declared.ticket.SettledNumber.{SettledNumber}
use Rattle.seq_bus_core.specs.declared.verdict.Verdict.{Verdict}
use Rattle.seq_bus_core.specs.declared.verdict.VerdictKind.{VerdictKind}
use Rattle.seq_bus_core.specs.declared.verdict.VerdictKind.TheVariants.{Plain, Bus, Start as StartKind, Nobody, Absent}
use Rattle.trace_words.specs.Words.{dash}

-- what each item is written as, with a separator between each two
abbrev pub separated : {A : Type 0} → Text → (A → Text) → List A → Text
separated separator text [] = []
separated separator text (first ∷ others) = text first ++ flat_map (λ other. separator ++ text other) others

-- the same, and a dash for no item
abbrev pub listed : {A : Type 0} → Text → (A → Text) → List A → Text
listed separator text [] = dash
listed separator text (first ∷ others) = separated separator text (first ∷ others)

abbrev pub number_or_dash : Option ℕ → Text
number_or_dash None = dash
number_or_dash (Some number) = decimal number

abbrev pub text_or_dash : Option Text → Text
text_or_dash None = dash
text_or_dash (Some text) = text

abbrev pub bit_text : Bool → Text
bit_text true = codes "1"
bit_text false = codes "0"

abbrev pub hex_text : Text → Text
hex_text text = codes "x" ++ encode_lower text

-- ## What a change is told

abbrev pub conn_text : Conn → Text
conn_text conn = decimal conn.number

abbrev pub recipients_text : List Conn → Text
recipients_text conns = listed (codes "+") conn_text conns

abbrev pub reply_text : Reply → Text
reply_text Gone = codes "gone"
reply_text LimitsExceeded = codes "limits"
reply_text Done = codes "ok"
reply_text (Welcome conn) = decimal conn.number
reply_text (OfQueue reply) = decimal (code_of reply)
reply_text InvalidName = codes "invalid"
reply_text RuleNotFound = codes "notfound"
reply_text AccessDenied = codes "denied"
reply_text AlreadyRunning = codes "2"
reply_text (Held ticket) = codes "held/" ++ decimal ticket
reply_text ServiceUnknown = codes "unknown"
reply_text (Pass conn) = codes "pass/" ++ decimal conn.number
reply_text Ignored = codes "ignored"

-- a signal, up to its recipients
abbrev pub bus_signal_text : BusSignal → Text
bus_signal_text (NameOwnerChanged name old new) =
    codes "noc/" ++ name ++ codes "/" ++ number_or_dash old ++ codes "/" ++ number_or_dash new
bus_signal_text (NameLost name owner) = codes "lost/" ++ name
bus_signal_text (NameAcquired name owner) = codes "acq/" ++ name

abbrev pub signal_text : AddressedSignal → Text
signal_text s = bus_signal_text s.signal ++ codes "/" ++ recipients_text s.to ++ codes "/" ++ recipients_text s.monitors

abbrev pub fate_text : Fate → Text
fate_text Served = codes "+"
fate_text Failed = codes "!"

abbrev pub ticket_text : SettledNumber → Text
ticket_text ticket = fate_text ticket.fate ++ decimal ticket.number

abbrev pub outcome_text : NumberedOutcome → Text
outcome_text o =
    codes "r=" ++ reply_text o.reply ++ codes " g=" ++ listed (codes ",") signal_text o.signals
    ++ codes " t=" ++ listed (codes ",") ticket_text o.tickets ++ codes " b=" ++ number_or_dash o.start

-- ## What a query is answered

abbrev pub answer_of : Answer → Text
answer_of (OneName name) = name
answer_of (HasOwner has) = bit_text has
answer_of (NameList names) = separated (codes ",") (λ name. name) names

abbrev pub answer_text : Option Answer → Text
answer_text None = codes "none"
answer_text (Some answer) = answer_of answer

-- ## Where a message goes

abbrev pub kind_text : VerdictKind → Text
kind_text Plain = codes "plain"
kind_text Bus = codes "bus"
kind_text StartKind = codes "start"
kind_text Nobody = codes "nobody"
kind_text Absent = codes "absent"

abbrev pub verdict_text : Verdict → Text
verdict_text v = kind_text v.kind ++ codes " " ++ recipients_text v.to ++ codes " " ++ recipients_text v.monitors

-- ## What stands before the arrow

abbrev pub rule_word : Rule → Text
rule_word rule = hex_text (rule_text rule)

abbrev pub ending_text : Ending → Text
ending_text (Exit status) = codes "exit/" ++ decimal status
ending_text Killed = codes "killed"
ending_text NotRun = codes "exec"

-- the number of flags
abbrev pub flag_bits : RequestFlags → ℕ
flag_bits f =
    (if f.allow_replacement then ALLOW_REPLACEMENT else 0) + (if f.replace_existing then REPLACE_EXISTING else 0)
    + (if f.do_not_queue then DO_NOT_QUEUE else 0)

abbrev pub named_text : ℕ → Text → Text
named_text connection name = decimal connection ++ codes " " ++ name

abbrev pub ruled_text : Text → ℕ → Rule → Text
ruled_text verb connection rule = verb ++ codes " " ++ decimal connection ++ codes " " ++ rule_word rule

abbrev pub change_text : Change → Text
change_text (Hello privileged) = codes "hello " ++ bit_text privileged
change_text (Leave connection) = codes "leave " ++ decimal connection
change_text (Request connection name flags) = codes "request " ++ named_text connection name ++ codes " " ++ decimal (flag_bits flags)
change_text (Release connection name) = codes "release " ++ named_text connection name
change_text (AddMatch connection rule) = ruled_text (codes "addmatch") connection rule
change_text (RemoveMatch connection rule) = ruled_text (codes "removematch") connection rule
change_text (BecomeMonitor connection rules) = codes "monitor " ++ decimal connection ++ codes " " ++ listed (codes ",") rule_word rules
change_text (Start connection name call) = codes "start " ++ named_text connection name
change_text (Hold connection name call message) = codes "hold " ++ named_text connection name
change_text (ChildEnded name start how) = codes "ended " ++ name ++ codes " " ++ decimal start ++ codes " " ++ ending_text how
change_text (StartTimedOut name start) = codes "timeout " ++ name ++ codes " " ++ decimal start

abbrev pub query_text : Query → Text
query_text (GetNameOwner name) = codes "owner " ++ name
query_text (NameHasOwner name) = codes "has " ++ name
query_text ListNames = codes "names"
query_text ListActivatableNames = codes "activatable"
query_text (ListQueuedOwners name) = codes "queued " ++ name

abbrev pub argument_text : Argument → Text
argument_text (StringArgument text) = codes "s" ++ hex_text text
argument_text (PathArgument text) = codes "o" ++ hex_text text
argument_text OtherArgument = dash

abbrev pub arguments_text : List Argument → Text
arguments_text [] = codes "."
arguments_text (first ∷ others) = separated (codes ",") argument_text (first ∷ others)

abbrev pub facts_text : Facts → Text
facts_text f =
    decimal f.sender ++ codes " " ++ decimal (kind_number f.kind) ++ codes " " ++ bit_text f.auto_start
    ++ codes " " ++ text_or_dash f.path ++ codes " " ++ text_or_dash f.interface ++ codes " " ++ text_or_dash f.member
    ++ codes " " ++ text_or_dash f.destination ++ codes " " ++ arguments_text f.arguments

-- ## Lines, each without its line feed

-- the line of a change of these words
abbrev pub change_line_text : ℕ → ℕ → ℕ → Text → NumberedOutcome → Text
change_line_text place seat number change outcome =
    codes "c " ++ decimal place ++ codes " " ++ decimal seat ++ codes " " ++ decimal number ++ codes " " ++ change
    ++ codes " => " ++ outcome_text outcome

abbrev pub query_line_text : ℕ → ℕ → Query → Option Answer → Text
query_line_text place seat query answer =
    codes "q " ++ decimal place ++ codes " " ++ decimal seat ++ codes " " ++ query_text query ++ codes " => " ++ answer_text answer

abbrev pub route_line_text : ℕ → ℕ → Facts → Verdict → Text
route_line_text place seat facts verdict =
    codes "m " ++ decimal place ++ codes " " ++ decimal seat ++ codes " " ++ facts_text facts ++ codes " => " ++ verdict_text verdict

abbrev pub profile_line_text : Profile → Text
profile_line_text One = codes "dbus-trace 1"
profile_line_text Two = codes "dbus-trace 2"

abbrev pub routers_line_text : ℕ → Text
routers_line_text routers = codes "routers " ++ decimal routers

abbrev pub service_line_text : Text → Text
service_line_text name = codes "service " ++ name
