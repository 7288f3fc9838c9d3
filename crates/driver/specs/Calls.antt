-- Calls of the methods of the bus. (D-Bus Specification: "Message Bus Messages")
use Rattle.std.specs.Prelude.{◌≡◌, ◌⊎◌, ℕ, nat_lt, Bool, true, false, ◌&&◌, not, ◌==◌, bit_and, Option, Some, None, is_none, is_some, Result, Ok, Err, List, [], ◌∷◌, if◌then◌else◌}
use Rattle.std.specs.List.{list_any}
use Rattle.names.specs.Texts.{Text}
use Rattle.names.specs.BusName.{is_bus, bus_name_fault}
use Rattle.owner_queues.specs.Requests.{flags_of}
use Rattle.marshal_core.specs.Values.{Vals}
use Rattle.match_rules.specs.declared.kind.MessageKind.TheVariants.{MethodCall}
use Rattle.match_rules.specs.Kinds.{kind_number}
use Rattle.match_rules.specs.Rules.{Rule}
use Rattle.match_rules.specs.RuleTexts.{IsRuleText}
use Rattle.match_rules.specs.RuleFaults.{rule_fault}
use Rattle.seq_bus_core.specs.declared.error_kind.ErrorKind.{ErrorKind}
use Rattle.seq_bus_core.specs.declared.error_kind.ErrorKind.TheVariants as error
use Rattle.seq_bus_core.specs.declared.limits.TheConstants.{MAX_RULES_OF_MONITOR}
use Rattle.message_core.specs.declared.header.TheConstants.{NO_REPLY_EXPECTED}
use Rattle.message_core.specs.declared.header_field.HeaderField.TheVariants as field
use Rattle.message_core.specs.HeaderFields.{text_field}
use Rattle.message_core.specs.Messages.{Message}
use Rattle.driver.specs.declared.call.Call.{Call}
use Rattle.driver.specs.declared.call.Call.TheVariants as call
use Rattle.driver.specs.declared.fault.DriverFault.{DriverFault}
use Rattle.driver.specs.declared.fault.DriverFault.TheVariants.{UnknownMethod, UnknownInterface, InvalidArgs, MatchRuleInvalid, LimitsExceeded, NoMemory}
use Rattle.driver.specs.declared.method.Method.{Method}
use Rattle.driver.specs.declared.method.Method.TheVariants.{Hello, RequestName, ReleaseName, GetNameOwner, NameHasOwner, ListNames, ListActivatableNames, ListQueuedOwners, AddMatch, RemoveMatch, StartServiceByName, BecomeMonitor}
use Rattle.driver.specs.Methods.{method_of}
use Rattle.driver.specs.Arguments.{only_text, text_and_number, elements_and_number, count_of, texts_of}

-- ## Which messages are calls to the bus

-- a call without a destination is to the bus
abbrev pub is_to_bus : Option Text → Bool
is_to_bus None = true
is_to_bus (Some destination) = is_bus destination

abbrev pub is_call_to_bus : Message → Bool
is_call_to_bus m = (m.kind == kind_number MethodCall) && is_to_bus (text_field field.Destination m.fields)

abbrev pub expects_reply : Message → Bool
expects_reply m = bit_and m.flags NO_REPLY_EXPECTED == 0

abbrev pub is_hello_method : Result Method DriverFault → Bool
is_hello_method (Ok Hello) = true
is_hello_method other = false

-- the call by which a connection gets its unique name
abbrev pub is_hello : Message → Bool
is_hello m = is_call_to_bus m && is_hello_method (method_of m)

-- ## What their arguments say

abbrev pub Reading : Type 0 → Type 0
Reading A = Result A DriverFault

abbrev pub is_bus_name : Text → Bool
is_bus_name text = is_none (bus_name_fault text)

abbrev pub name_in : Option Text → Reading Text
name_in None = Err InvalidArgs
name_in (Some text) = if is_bus_name text then Ok text else Err InvalidArgs

abbrev pub name_and_number_in : Option (Text × ℕ) → Reading (Text × ℕ)
name_and_number_in None = Err InvalidArgs
name_and_number_in (Some (text, n)) = if is_bus_name text then Ok (text, n) else Err InvalidArgs

abbrev pub IsRuleOf : Option Text → Reading Rule → Type 0
IsRuleOf None reading = reading ≡ Err InvalidArgs
IsRuleOf (Some text) (Ok rule) = IsRuleText text rule
IsRuleOf (Some text) (Err fault) = (is_some (rule_fault text) ≡ true) × (fault ≡ MatchRuleInvalid)

-- each text is that of the rule in its place
abbrev pub AreRuleTexts : List Text → List Rule → Type 0
AreRuleTexts [] [] = Unit {0}
AreRuleTexts (text ∷ texts) (rule ∷ rules) = IsRuleText text rule × AreRuleTexts texts rules
AreRuleTexts texts rules = ⊥

-- one of the texts is that of no rule
abbrev pub has_rule_fault : List Text → Bool
has_rule_fault texts = list_any (λ text. is_some (rule_fault text)) texts

abbrev pub AreRulesOfTexts : List Text → Reading (List Rule) → Type 0
AreRulesOfTexts texts (Ok rules) = AreRuleTexts texts rules
AreRulesOfTexts texts (Err fault) = (has_rule_fault texts ≡ true) × (fault ≡ MatchRuleInvalid)

-- the most rules of a monitor
abbrev pub max_monitor_rules : ℕ
max_monitor_rules = MAX_RULES_OF_MONITOR

-- The flags come first, which are none today, then the number of rules.
abbrev pub monitor_fault : Vals → ℕ → Option DriverFault
monitor_fault elements flags =
    if not (flags == 0) then Some InvalidArgs
    else if nat_lt max_monitor_rules (count_of elements) then Some LimitsExceeded
    else None

abbrev pub AreRulesUnless : Option DriverFault → List Text → Reading (List Rule) → Type 0
AreRulesUnless (Some fault) texts reading = reading ≡ Err fault
AreRulesUnless None texts reading = AreRulesOfTexts texts reading

abbrev pub AreMonitorRulesOf : Option (Vals × ℕ) → Reading (List Rule) → Type 0
AreMonitorRulesOf None reading = reading ≡ Err InvalidArgs
AreMonitorRulesOf (Some (elements, flags)) reading = AreRulesUnless (monitor_fault elements flags) (texts_of elements) reading

-- ## The calls

abbrev pub calling : {A : Type 0} → (A → Call) → Reading A → Reading Call
calling make (Err fault) = Err fault
calling make (Ok x) = Ok (make x)

abbrev pub IsOfRule : (Rule → Call) → Option Text → Reading Call → Type 0
IsOfRule make text reading = (rule : Reading Rule) × IsRuleOf text rule × (reading ≡ calling make rule)

abbrev pub IsOfMonitor : Option (Vals × ℕ) → Reading Call → Type 0
IsOfMonitor arguments reading = (rules : Reading (List Rule)) × AreMonitorRulesOf arguments rules × (reading ≡ calling call.BecomeMonitor rules)

-- A call of the method with these arguments is read so. The number in StartServiceByName is ignored.
abbrev pub IsReadBy : Method → Vals → Reading Call → Type 0
IsReadBy Hello arguments reading = reading ≡ Ok call.Hello
IsReadBy RequestName arguments reading = reading ≡ calling (λ x. call.RequestName x.0 (flags_of x.1)) (name_and_number_in (text_and_number arguments))
IsReadBy ReleaseName arguments reading = reading ≡ calling call.ReleaseName (name_in (only_text arguments))
IsReadBy GetNameOwner arguments reading = reading ≡ calling call.GetNameOwner (name_in (only_text arguments))
IsReadBy NameHasOwner arguments reading = reading ≡ calling call.NameHasOwner (name_in (only_text arguments))
IsReadBy ListNames arguments reading = reading ≡ Ok call.ListNames
IsReadBy ListActivatableNames arguments reading = reading ≡ Ok call.ListActivatableNames
IsReadBy ListQueuedOwners arguments reading = reading ≡ calling call.ListQueuedOwners (name_in (only_text arguments))
IsReadBy AddMatch arguments reading = IsOfRule call.AddMatch (only_text arguments) reading
IsReadBy RemoveMatch arguments reading = IsOfRule call.RemoveMatch (only_text arguments) reading
IsReadBy StartServiceByName arguments reading = reading ≡ calling (λ x. call.StartServiceByName x.0) (name_and_number_in (text_and_number arguments))
IsReadBy BecomeMonitor arguments reading = IsOfMonitor (elements_and_number arguments) reading

abbrev pub IsReadAs : Reading Method → Vals → Reading Call → Type 0
IsReadAs (Err fault) arguments reading = reading ≡ Err fault
IsReadAs (Ok method) arguments reading = IsReadBy method arguments reading

-- The message, which is a call to the bus, is this call, or has this fault.
abbrev pub IsCall : Message → Reading Call → Type 0
IsCall m reading = IsReadAs (method_of m) m.body reading

-- The same, or there was no memory.
abbrev pub IsCallOrWants : Message → Reading Call → Type 0
IsCallOrWants m reading = IsCall m reading ⊎ (reading ≡ Err NoMemory)

-- ## What a call is answered that has a fault

abbrev pub error_of : DriverFault → ErrorKind
error_of UnknownMethod = error.UnknownMethod
error_of UnknownInterface = error.UnknownInterface
error_of InvalidArgs = error.InvalidArgs
error_of MatchRuleInvalid = error.MatchRuleInvalid
error_of LimitsExceeded = error.LimitsExceeded
error_of NoMemory = error.NoMemory
