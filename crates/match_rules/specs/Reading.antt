-- How a rule is read from a text, item by item.
use Rattle.std.specs.Prelude.{ℕ, ◌+◌, ◌-◌, ◌*◌, nat_lt, ◌==◌, ◌&&◌, Option, Some, None, List, [], ◌∷◌, map, drop, length, codes, if◌then◌else◌}
use Rattle.names.specs.Texts.{Text, text_eq}
use Rattle.names.specs.Elements.{is_digit}
use Rattle.match_rules.specs.declared.quoting.Quoting.{Quoting as Lent}
use Rattle.match_rules.specs.declared.quoting.Quoting.TheVariants.{Outside as LentOutside, AfterBackslash as LentAfterBackslash, Inside as LentInside}
use Rattle.match_rules.specs.declared.key.Key.{Key}
use Rattle.match_rules.specs.declared.key.Key.TheVariants.{«Type» as MessageType, Sender, Interface, Member, Path, PathNamespace, Destination, Argument, ArgumentPath, Argument0Namespace, Eavesdrop}
use Rattle.match_rules.specs.Keys.{key_place, max_arguments}
use Rattle.match_rules.specs.Rules.{Rule}
use Rattle.match_rules.specs.Fitting.{begins}
use Rattle.match_rules.specs.RuleFaults.{Quoting, Outside, AfterBackslash, Inside, next, ends_item, item_key, item_value}

-- how contracts see where a byte stands
abbrev pub quoting_of : Lent → Quoting
quoting_of LentOutside = Outside
quoting_of LentAfterBackslash = AfterBackslash
quoting_of LentInside = Inside

-- how far an item goes from a place on
abbrev pub item_length : Quoting → Text → ℕ
item_length quoting [] = 0
item_length quoting (b ∷ bytes) = if ends_item quoting b then 0 else 1 + item_length (next quoting b) bytes

-- how many bytes are read whose meaning hangs on the next
abbrev pub held_back : Quoting → ℕ
held_back Outside = 0
held_back AfterBackslash = 1
held_back Inside = 0

-- the key of an argument, by what stands behind its number
abbrev pub numbered : ℕ → Text → Option Key
numbered number text =
    if text_eq text [] then Some (Argument number)
    else if text_eq text (codes "path") then Some (ArgumentPath number)
    else if (number == 0) && text_eq text (codes "namespace") then Some Argument0Namespace
    else None

-- by what stands behind the first digit of its number
abbrev pub number_named : ℕ → Text → Option Key
number_named first [] = numbered first []
number_named first (b ∷ bytes) =
    if is_digit b && (nat_lt 0 first && nat_lt (10 * first + (b - 48)) max_arguments) then numbered (10 * first + (b - 48)) bytes
    else numbered first (b ∷ bytes)

abbrev pub argument_named : Text → Option Key
argument_named [] = None
argument_named (b ∷ bytes) = if is_digit b then number_named (b - 48) bytes else None

-- the key that is written so
abbrev pub key_named : Text → Option Key
key_named text =
    if text_eq text (codes "type") then Some MessageType
    else if text_eq text (codes "sender") then Some Sender
    else if text_eq text (codes "interface") then Some Interface
    else if text_eq text (codes "member") then Some Member
    else if text_eq text (codes "path") then Some Path
    else if text_eq text (codes "path_namespace") then Some PathNamespace
    else if text_eq text (codes "destination") then Some Destination
    else if text_eq text (codes "eavesdrop") then Some Eavesdrop
    else if begins (codes "arg") text then argument_named (drop 3 text)
    else None

abbrev pub keys_of : Rule → List Key
keys_of rule = map (λ entry. entry.0) rule

-- An entry is put where its key belongs.
abbrev pub put : Key × Text → Rule → Rule
put entry [] = entry ∷ []
put entry (first ∷ rule) = if nat_lt (key_place entry.0) (key_place first.0) then entry ∷ first ∷ rule else first ∷ put entry rule

-- how many bytes of a rule stand before a place
abbrev pub bytes_before : ℕ → Rule → ℕ
bytes_before place [] = 0
bytes_before place (entry ∷ rule) = if nat_lt place (key_place entry.0) then 0 else 3 + length entry.1 + bytes_before place rule

abbrev pub with_entry : Rule → Option Key → Option Text → Rule
with_entry rule None value = rule
with_entry rule (Some key) None = rule
with_entry rule (Some key) (Some value) = put (key, value) rule

-- a rule, and what an item adds to it
abbrev pub with_item : Rule → Text → Rule
with_item rule item = with_entry rule (item_key item) (item_value item)

abbrev pub with_items : Rule → List Text → Rule
with_items rule [] = rule
with_items rule (item ∷ items) = with_items (with_item rule item) items
