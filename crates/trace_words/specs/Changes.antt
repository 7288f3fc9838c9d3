-- The words of changes.
use Rattle.std.specs.Prelude.{ℕ, ◌^◌, nat_lt, ◌==◌, Option, Some, None, is_none, option_map, option_and_then, List, [], ◌∷◌, ◌++◌, length, codes, if◌then◌else◌}
use Rattle.names.specs.Texts.{Text, text_eq}
use Rattle.match_rules.specs.Rules.{Rule}
use Rattle.match_rules.specs.RuleFaults.{Outside, items_from, rule_fault}
use Rattle.match_rules.specs.Reading.{with_items}
use Rattle.owner_queues.specs.Requests.{flags_of}
use Rattle.seq_bus_core.specs.Changes.{no_call}
use Rattle.seq_bus_core.specs.declared.change.Change.{Change}
use Rattle.seq_bus_core.specs.declared.change.Change.TheVariants.{Hello, Leave, Request, Release, AddMatch, RemoveMatch, BecomeMonitor, Start, Hold, ChildEnded, StartTimedOut}
use Rattle.seq_bus_core.specs.declared.change.Ending.{Ending}
use Rattle.seq_bus_core.specs.declared.change.Ending.TheVariants.{Exit, Killed, NotRun}
use Rattle.seq_bus_core.specs.declared.limits.TheConstants.{MAX_RULES_OF_MONITOR}
use Rattle.trace_words.specs.Hex.{bytes_of, utf8_of}
use Rattle.trace_words.specs.Words.{comma, slash, parts, dash, bit_of, number_of, name_of}

-- ## Rules

-- the rule of a text that is one
abbrev pub rule_said : Text → Rule
rule_said text = if text_eq text [] then [] else with_items [] (items_from Outside text)

abbrev pub rule_in : Text → Option Rule
rule_in text = if is_none (rule_fault text) then Some (rule_said text) else None

abbrev pub rule_of_bytes : List ℕ → Option Rule
rule_of_bytes bytes = option_and_then rule_in (utf8_of bytes)

abbrev pub rule_of : Text → Option Rule
rule_of word = option_and_then rule_of_bytes (bytes_of word)

-- rules, and the words behind them
abbrev pub rules_from : List Rule → List Text → Option (List Rule)
rules_from rules [] = Some rules
rules_from rules (word ∷ words) =
    if length rules == MAX_RULES_OF_MONITOR then None
    else option_and_then (λ rule. rules_from (rules ++ rule ∷ []) words) (rule_of word)

abbrev pub rules_of : Text → Option (List Rule)
rules_of word = if text_eq word dash then Some [] else rules_from [] (parts comma word)

-- ## Other words

abbrev pub flags_bound : ℕ
flags_bound = 2 ^ 32

abbrev pub is_exit : List Text → Option Ending
is_exit (front ∷ status ∷ []) = if text_eq front (codes "exit") then option_map Exit (number_of status) else None
is_exit other = None

abbrev pub ending_of : Text → Option Ending
ending_of word =
    if text_eq word (codes "killed") then Some Killed
    else if text_eq word (codes "exec") then Some NotRun
    else is_exit (parts slash word)

-- ## Changes

-- a change, and the words behind it
abbrev pub Read : Type 0
Read = Option (Change × List Text)

abbrev pub hello_from : List Text → Read
hello_from (privileged ∷ words) = option_map (λ p. (Hello p, words)) (bit_of privileged)
hello_from other = None

abbrev pub leave_from : List Text → Read
leave_from (connection ∷ words) = option_map (λ c. (Leave c, words)) (number_of connection)
leave_from other = None

-- a connection and a name
abbrev pub named_from : (ℕ → Text → Change) → List Text → Read
named_from change (connection ∷ name ∷ words) =
    option_and_then (λ c. option_map (λ n. (change c n, words)) (name_of name)) (number_of connection)
named_from change other = None

abbrev pub requested : ℕ → Text → List Text → ℕ → Read
requested connection name words flags = if nat_lt flags flags_bound then Some (Request connection name (flags_of flags), words) else None

abbrev pub request_from : List Text → Read
request_from (connection ∷ name ∷ flags ∷ words) =
    option_and_then (λ c. option_and_then (λ n. option_and_then (requested c n words) (number_of flags)) (name_of name)) (number_of connection)
request_from other = None

-- a connection and a rule, and the words behind them
abbrev pub ruled_from : List Text → Option ((ℕ × Rule) × List Text)
ruled_from (connection ∷ rule ∷ words) =
    option_and_then (λ c. option_map (λ r. ((c, r), words)) (rule_of rule)) (number_of connection)
ruled_from other = None

abbrev pub monitor_from : List Text → Read
monitor_from (connection ∷ rules ∷ words) =
    option_and_then (λ c. option_map (λ r. (BecomeMonitor c r, words)) (rules_of rules)) (number_of connection)
monitor_from other = None

abbrev pub ended_from : List Text → Read
ended_from (name ∷ start ∷ how ∷ words) =
    option_and_then (λ n. option_and_then (λ s. option_map (λ h. (ChildEnded n s h, words)) (ending_of how)) (number_of start)) (name_of name)
ended_from other = None

abbrev pub timeout_from : List Text → Read
timeout_from (name ∷ start ∷ words) =
    option_and_then (λ n. option_map (λ s. (StartTimedOut n s, words)) (number_of start)) (name_of name)
timeout_from other = None

-- a change that has no rule
abbrev pub plain_change_of : Text → List Text → Read
plain_change_of verb words =
    if text_eq verb (codes "hello") then hello_from words
    else if text_eq verb (codes "leave") then leave_from words
    else if text_eq verb (codes "request") then request_from words
    else if text_eq verb (codes "release") then named_from Release words
    else if text_eq verb (codes "start") then named_from (λ c n. Start c n no_call) words
    else if text_eq verb (codes "ended") then ended_from words
    else if text_eq verb (codes "timeout") then timeout_from words
    else None

abbrev pub change_of : Text → List Text → Read
change_of verb words =
    if text_eq verb (codes "addmatch") then option_map (λ r. (AddMatch r.0.0 r.0.1, r.1)) (ruled_from words)
    else if text_eq verb (codes "removematch") then option_map (λ r. (RemoveMatch r.0.0 r.0.1, r.1)) (ruled_from words)
    else if text_eq verb (codes "monitor") then monitor_from words
    else if text_eq verb (codes "hold") then named_from (λ c n. Hold c n no_call []) words
    else plain_change_of verb words

-- The change that words say. What a ticket carries is not in a trace.
abbrev pub change_from : List Text → Read
change_from (verb ∷ words) = change_of verb words
change_from other = None
