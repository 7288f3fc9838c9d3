-- Texts of rules and messages, computed from the definitions.
use Rattle.std.proofs.Common.{◌≡◌, ℕ, Bool, true, false, Option, Some, None, [], ◌∷◌, ◌++◌, refl, codes, arith, lit<, lit≤, inl, if◌then◌else◌}
use Rattle.std.specs.Fmt.{digits}
use Rattle.std.proofs.lemmas.List.Sorted.{IsPermutation-refl}
use Rattle.names.specs.Texts.{Text, text_eq}
use Rattle.match_rules.specs.declared.fault.RuleFault.{RuleFault}
use Rattle.match_rules.specs.declared.fault.RuleFault.TheVariants.{Key as KeyFault, Twice, Both, Quote, Value}
use Rattle.match_rules.specs.declared.kind.MessageKind.TheVariants.{Signal}
use Rattle.match_rules.specs.declared.key.Key.{Key}
use Rattle.match_rules.specs.declared.key.Key.TheVariants.{«Type» as MessageType, Sender, Interface, Member, Path, PathNamespace, Destination, Argument, ArgumentPath, Argument0Namespace, Eavesdrop}
use Rattle.match_rules.specs.Rules.{Rule, IsRule}
use Rattle.match_rules.specs.RuleTexts.{Quoted, Escaped, Plain, IsRuleText}
use Rattle.match_rules.specs.RuleFaults.{rule_fault}
use Rattle.match_rules.specs.Facts.{Facts, StringArgument, PathArgument, OtherArgument}
use Rattle.match_rules.specs.Fitting.{Heads, holds, fits}

-- Faults, in the order in which they are looked for.
abbrev pub FaultOf : Text → Option RuleFault → Type 0
FaultOf text fault = rule_fault text ≡ fault

pub both_paths : FaultOf (codes "path='/a',path_namespace='/a'") (Some Both)
unfolding digits
both_paths = refl

pub argument_twice : FaultOf (codes "arg0='a',arg0='b'") (Some Twice)
unfolding digits
argument_twice = refl

pub argument_64 : FaultOf (codes "arg64='a'") (Some KeyFault)
unfolding digits
argument_64 = refl

pub unknown_type : FaultOf (codes "type='x'") (Some Value)
unfolding digits
unknown_type = refl

pub open_apostrophe : FaultOf (codes "member='M") (Some Quote)
unfolding digits
open_apostrophe = refl

pub no_items : FaultOf [] None
no_items = refl

pub empty_item : FaultOf (codes "member='M',") (Some KeyFault)
unfolding digits
empty_item = refl

pub key_alone : FaultOf (codes "member") (Some KeyFault)
unfolding digits
key_alone = refl

pub space_before_key : FaultOf (codes "member='M', path='/a'") (Some KeyFault)
unfolding digits
space_before_key = refl

pub leading_zero : FaultOf (codes "arg00='a'") (Some KeyFault)
unfolding digits
leading_zero = refl

-- The first item that has a fault tells it, and the value is looked at last.
pub first_item_first : FaultOf (codes "type='x',nokey='a'") (Some Value)
unfolding digits
first_item_first = refl

pub twice_before_quote : FaultOf (codes "type='signal',type='x") (Some Twice)
unfolding digits
twice_before_quote = refl

pub quote_before_value : FaultOf (codes "type='x") (Some Quote)
unfolding digits
quote_before_value = refl

-- The example of the standard.
pub standard_example : FaultOf (codes "type='signal',sender='org.freedesktop.DBus',interface='org.freedesktop.DBus',member='Foo',path='/bar/foo',destination=':452345.34',arg2='bar'") None
unfolding digits
standard_example = refl

-- The standard's two spellings of one rule, whose values are an apostrophe, a backslash, a comma and two backslashes.
abbrev pub quoting_rule : Rule
quoting_rule = (Argument 0, 39 ∷ []) ∷ (Argument 1, 92 ∷ []) ∷ (Argument 2, 44 ∷ []) ∷ (Argument 3, 92 ∷ 92 ∷ []) ∷ []

pub quoting_rule_is_rule : IsRule quoting_rule
quoting_rule_is_rule = (
  ((lit< tt, (lit< tt, (lit< tt, tt))), ((lit< tt, (lit< tt, tt)), ((lit< tt, tt), (tt, tt)))),
  ((lit< tt, tt), ((lit< tt, tt), ((lit< tt, tt), ((lit< tt, tt), tt)))),
  inl refl,
)

-- `arg0=''\''',arg1='\',arg2=',',arg3='\\'`
pub quoted_spelling : IsRuleText (codes "arg0=''" ++ 92 ∷ codes "''',arg1='" ++ 92 ∷ codes "',arg2=',',arg3='" ++ 92 ∷ 92 ∷ codes "'") quoting_rule
unfolding digits
quoted_spelling = (
  quoting_rule_is_rule,
  lit≤ tt,
  (
    record { key = Argument 0; parts = Quoted [] ∷ Escaped ∷ Quoted [] ∷ [] }
        ∷ record { key = Argument 1; parts = Quoted (92 ∷ []) ∷ [] }
        ∷ record { key = Argument 2; parts = Quoted (44 ∷ []) ∷ [] }
        ∷ record { key = Argument 3; parts = Quoted (92 ∷ 92 ∷ []) ∷ [] } ∷ [],
    ((tt, (tt, tt)), (((omega arith, tt), tt), (((omega arith, tt), tt), (((omega arith, (omega arith, tt)), tt), tt)))),
    IsPermutation-refl quoting_rule,
    refl,
  ),
)

-- `arg0=\',arg1=\,arg2=',',arg3=\\`
pub plain_spelling : IsRuleText (codes "arg0=" ++ 92 ∷ codes "',arg1=" ++ 92 ∷ codes ",arg2=',',arg3=" ++ 92 ∷ 92 ∷ []) quoting_rule
unfolding digits
plain_spelling = (
  quoting_rule_is_rule,
  lit≤ tt,
  (
    record { key = Argument 0; parts = Escaped ∷ [] }
        ∷ record { key = Argument 1; parts = Plain 92 ∷ [] }
        ∷ record { key = Argument 2; parts = Quoted (44 ∷ []) ∷ [] }
        ∷ record { key = Argument 3; parts = Plain 92 ∷ Plain 92 ∷ [] } ∷ [],
    (
      tt,
      (
        (omega arith, omega arith, (λ e b. b), tt),
        (
          ((omega arith, tt), tt),
          ((omega arith, omega arith, (λ e b. b), (omega arith, omega arith, (λ e b. b), tt)), tt),
        ),
      ),
    ),
    IsPermutation-refl quoting_rule,
    refl,
  ),
)

-- A signal, and names that connections own.
abbrev pub signal : Facts
signal = record {
  kind = Signal;
  auto_start = true;
  sender = 1;
  path = Some (codes "/com/example/foo/bar");
  interface = Some (codes "org.freedesktop.Hal.Manager");
  member = Some (codes "NameOwnerChanged");
  destination = None;
  arguments = StringArgument (codes "com.example.backend1.foo") ∷ PathArgument (codes "/aa/bb/") ∷ OtherArgument ∷ [];
}

abbrev pub owned_by : ℕ → Heads
owned_by number name = if text_eq name (codes "com.example.A") then Some number else if text_eq name (codes ":1.1") then Some 1 else if text_eq name (codes ":1.2") then Some 2 else None

-- A key with a value that holds of the signal, and one that doesn't.
abbrev pub Tells : Key → Text → Text → Type 0
Tells key value other = (holds (owned_by 1) key value signal ≡ true) × (holds (owned_by 1) key other signal ≡ false)

pub type_key : Tells MessageType (codes "signal") (codes "method_call")
type_key = (refl, refl)

pub sender_key : Tells Sender (codes "com.example.A") (codes "com.example.B")
unfolding digits
sender_key = (refl, refl)

pub sender_by_unique_name : Tells Sender (codes ":1.1") (codes ":1.2")
unfolding digits
sender_by_unique_name = (refl, refl)

pub sender_is_not_the_bus : Tells Sender (codes ":1.1") (codes "org.freedesktop.DBus")
unfolding digits
sender_is_not_the_bus = (refl, refl)

pub interface_key : Tells Interface (codes "org.freedesktop.Hal.Manager") (codes "org.freedesktop.Hal.Manage")
interface_key = (refl, refl)

pub member_key : Tells Member (codes "NameOwnerChanged") (codes "NameOwnerChange")
member_key = (refl, refl)

pub path_key : Tells Path (codes "/com/example/foo/bar") (codes "/com/example/foo")
path_key = (refl, refl)

pub path_namespace_key : Tells PathNamespace (codes "/com/example/foo") (codes "/com/example/fo")
path_namespace_key = (refl, refl)

pub argument_key : Tells (Argument 0) (codes "com.example.backend1.foo") (codes "com.example.backend1")
argument_key = (refl, refl)

-- `arg1` holds of no argument that is an object path.
pub argument_key_of_path : holds (owned_by 1) (Argument 1) (codes "/aa/bb/") signal ≡ false
argument_key_of_path = refl

pub argument_path_key : Tells (ArgumentPath 1) (codes "/aa/bb/cc") (codes "/aa/b")
argument_path_key = (refl, refl)

pub argument_namespace_key : Tells Argument0Namespace (codes "com.example.backend1") (codes "com.example.backend")
argument_namespace_key = (refl, refl)

-- `eavesdrop` holds of every message.
pub eavesdrop_key : (holds (owned_by 1) Eavesdrop (codes "true") signal ≡ true) × (holds (owned_by 1) Eavesdrop (codes "false") signal ≡ true)
eavesdrop_key = (refl, refl)

-- A message to a name goes to the unique name of its owner.
pub destination_key :
    (holds (owned_by 2) Destination (codes ":1.2") (record signal { destination = Some (codes "com.example.A") }) ≡ true)
    × (holds (owned_by 2) Destination (codes ":1.1") (record signal { destination = Some (codes "com.example.A") }) ≡ false)
    × (holds (owned_by 2) Destination (codes ":1.2") signal ≡ false)
destination_key = (refl, refl, refl)

-- A namespace of paths has the path itself and what lies below it; the root has all.
abbrev pub within : Text → Text → Bool
within namespace path = holds (owned_by 1) PathNamespace namespace (record signal { path = Some path })

pub path_namespaces :
    (within (codes "/a") (codes "/a") ≡ true) × (within (codes "/a") (codes "/a/b") ≡ true) × (within (codes "/a") (codes "/ab") ≡ false) × (within (codes "/") (codes "/a") ≡ true)
path_namespaces = (refl, refl, refl, refl)

-- The standard's example of `arg0path`.
abbrev pub at_path : Text → Bool
at_path argument = holds (owned_by 1) (ArgumentPath 0) (codes "/aa/bb/") (record signal { arguments = StringArgument argument ∷ [] })

pub argument_paths :
    (at_path (codes "/") ≡ true) × (at_path (codes "/aa/") ≡ true) × (at_path (codes "/aa/bb/") ≡ true) × (at_path (codes "/aa/bb/cc/") ≡ true)
    × (at_path (codes "/aa/bb/cc") ≡ true) × (at_path (codes "/aa/b") ≡ false) × (at_path (codes "/aa") ≡ false) × (at_path (codes "/aa/bb") ≡ false)
argument_paths = (refl, refl, refl, refl, refl, refl, refl, refl)

-- A rule by a well-known name follows the name from one owner to the next.
pub sender_follows_owner :
    (fits (owned_by 1) ((Sender, codes "com.example.A") ∷ []) signal ≡ true) × (fits (owned_by 2) ((Sender, codes "com.example.A") ∷ []) signal ≡ false)
unfolding digits
sender_follows_owner = (refl, refl)

-- No unique name is the bus.
pub bus_has_no_unique_name :
    (fits (λ name. None) ((Sender, codes ":1.0") ∷ []) (record signal { sender = 0 }) ≡ false) × (fits (λ name. None) ((Sender, codes "org.freedesktop.DBus") ∷ []) (record signal { sender = 0 }) ≡ true)
unfolding digits
bus_has_no_unique_name = (refl, refl)
