-- What is wrong with a text that is no match rule. (D-Bus Specification: "Match Rules")
use Rattle.std.specs.Prelude.{ℕ, nat_lt, Bool, true, false, ◌||◌, ◌==◌, Option, Some, None, is_none, option_map, option_to_list, List, [], ◌∷◌, ◌++◌, length, find, codes, if◌then◌else◌}
use Rattle.std.specs.List.{list_any, before_first, after_first, onto_first}
use Rattle.std.specs.Option.{option_or}
use Rattle.names.specs.Texts.{Text, text_eq}
use Rattle.names.specs.BusName.{bus_name_fault}
use Rattle.names.specs.UniqueName.{unique_name_fault}
use Rattle.names.specs.WellKnown.{namespace_fault}
use Rattle.names.specs.Interface.{interface_fault}
use Rattle.names.specs.Member.{member_fault}
use Rattle.names.specs.ObjectPath.{object_path_fault}
use Rattle.match_rules.specs.declared.fault.RuleFault.{RuleFault}
use Rattle.match_rules.specs.declared.fault.RuleFault.TheVariants.{Key as KeyFault, Twice, Both, Quote, Value, TooLong}
use Rattle.match_rules.specs.declared.key.Key.{Key}
use Rattle.match_rules.specs.declared.key.Key.TheVariants.{«Type» as MessageType, Sender, Interface, Member, Path, PathNamespace, Destination, Argument, ArgumentPath, Argument0Namespace, Eavesdrop}
use Rattle.match_rules.specs.declared.room.TheConstants.{MAX_RULE_LENGTH}
use Rattle.match_rules.specs.Keys.{key_text, same_key, all_keys}
use Rattle.match_rules.specs.RuleTexts.{apostrophe, comma, equals, backslash}

abbrev pub fault_code : RuleFault → ℕ
fault_code KeyFault = 40
fault_code Twice = 41
fault_code Value = 42
fault_code Quote = 43
fault_code Both = 44
fault_code TooLong = 45

-- where a byte of an item stands
pub data Quoting : Type 0 where
  Outside : Quoting
  AfterBackslash : Quoting
  Inside : Quoting

-- where the byte after it stands
abbrev pub next : Quoting → ℕ → Quoting
next Outside b = if b == apostrophe then Inside else if b == backslash then AfterBackslash else Outside
next AfterBackslash b = if b == apostrophe then Outside else if b == backslash then AfterBackslash else Outside
next Inside b = if b == apostrophe then Outside else Inside

-- Commas outside apostrophes part the items.
abbrev pub ends_item : Quoting → ℕ → Bool
ends_item Outside b = b == comma
ends_item AfterBackslash b = b == comma
ends_item Inside b = false

abbrev pub items_from : Quoting → Text → List Text
items_from quoting [] = [] ∷ []
items_from quoting (b ∷ bytes) = if ends_item quoting b then [] ∷ items_from Outside bytes else onto_first b (items_from (next quoting b) bytes)

-- the bytes of the value that are known once a byte is read
abbrev pub meant : Quoting → ℕ → Text
meant Outside b = if b == apostrophe || b == backslash then [] else b ∷ []
meant AfterBackslash b = if b == apostrophe then apostrophe ∷ [] else if b == backslash then backslash ∷ [] else backslash ∷ b ∷ []
meant Inside b = if b == apostrophe then [] else b ∷ []

-- the value that is written; none where an apostrophe is open at the end
abbrev pub value_from : Quoting → Text → Option Text
value_from Outside [] = Some []
value_from AfterBackslash [] = Some (backslash ∷ [])
value_from Inside [] = None
value_from quoting (b ∷ bytes) = option_map (λ value. meant quoting b ++ value) (value_from (next quoting b) bytes)

abbrev pub is_equals : ℕ → Bool
is_equals b = b == equals

abbrev pub item_value : Text → Option Text
item_value item = value_from Outside (after_first is_equals item)

-- the key that stands before the first equals sign
abbrev pub item_key : Text → Option Key
item_key item = if list_any is_equals item then find (λ key. text_eq (key_text key) (before_first is_equals item)) all_keys else None

abbrev pub takes : Key → Text → Bool
takes MessageType value = text_eq value (codes "signal") || text_eq value (codes "method_call") || text_eq value (codes "method_return") || text_eq value (codes "error")
takes Sender value = is_none (bus_name_fault value)
takes Interface value = is_none (interface_fault value)
takes Member value = is_none (member_fault value)
takes Path value = is_none (object_path_fault value)
takes PathNamespace value = is_none (object_path_fault value)
takes Destination value = is_none (unique_name_fault value)
takes (Argument number) value = true
takes (ArgumentPath number) value = true
takes Argument0Namespace value = is_none (namespace_fault value)
takes Eavesdrop value = text_eq value (codes "true") || text_eq value (codes "false")

abbrev pub is_among : Key → List Key → Bool
is_among key keys = list_any (λ k. same_key k key) keys

-- whether a key may not stand beside one of these
abbrev pub is_excluded : Key → List Key → Bool
is_excluded Path keys = is_among PathNamespace keys
is_excluded PathNamespace keys = is_among Path keys
is_excluded key keys = false

abbrev pub value_fault : Key → Option Text → Option RuleFault
value_fault key None = Some Quote
value_fault key (Some value) = if takes key value then None else Some Value

-- the fault of an item behind items with these keys
abbrev pub item_fault : List Key → Text → Option Key → Option RuleFault
item_fault before item None = Some KeyFault
item_fault before item (Some key) =
    if is_among key before then Some Twice
    else if is_excluded key before then Some Both
    else value_fault key (item_value item)

-- the fault of the first item that has one
abbrev pub items_fault : List Key → List Text → Option RuleFault
items_fault before [] = None
items_fault before (item ∷ items) = option_or (item_fault before item (item_key item)) (items_fault (option_to_list (item_key item) ++ before) items)

-- The length is looked at first. The empty text has no item.
abbrev pub rule_fault : Text → Option RuleFault
rule_fault [] = None
rule_fault (b ∷ bytes) = if nat_lt MAX_RULE_LENGTH (length (b ∷ bytes)) then Some TooLong else items_fault [] (items_from Outside (b ∷ bytes))
