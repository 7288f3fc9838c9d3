-- Buckets of rules that ask for the same type, interface, member, first argument and sender.
use Rattle.std.specs.Prelude.{ℕ, ◌+◌, ◌*◌, ◌/◌, ◌%◌, ◌^◌, ◌==◌, Bool, Option, Some, None, is_some, take, slice_get, if◌then◌else◌}
use Rattle.std.specs.List.{fold}
use Rattle.names.specs.Texts.{Text}
use Rattle.names.specs.BusName.{is_unique}
use Rattle.names.specs.UniqueName.{unique_text}
use Rattle.match_rules.specs.Facts.{Facts, Argument as Value, StringArgument}
use Rattle.match_rules.specs.Kinds.{kind_number}
use Rattle.match_rules.specs.Rules.{Rule, value_at}
use Rattle.match_rules.specs.declared.kind.MessageKind.{MessageKind}
use Rattle.match_rules.specs.declared.key.Key.TheVariants.{Argument, Sender, Interface, Member}
use Rattle.match_index.specs.Near.{kind_asked}
use Rattle.match_index.specs.declared.buckets.Bucket.{Bucket}
use Rattle.match_index.specs.declared.buckets.Parts.{Parts}

-- a number goes into a code
unfoldable pub mixed : ℕ → ℕ → ℕ
mixed code number = ((code * 1099511628211) % 2 ^ 64 + number) % 2 ^ 64

abbrev pub text_part : Text → ℕ
text_part text = fold mixed 14695981039346656037 text

-- what stands for a part that is not there
abbrev pub part_of : Option Text → ℕ
part_of None = 0
part_of (Some text) = text_part text

-- Only the front of an argument goes into its code, since an argument may be very long.
abbrev pub max_coded : ℕ
max_coded = 64

abbrev pub front_part : Text → ℕ
front_part text = text_part (take max_coded text)

abbrev pub argument_part : Option Text → ℕ
argument_part None = 0
argument_part (Some text) = front_part text

-- of a message's argument: no rule asks for one that is no string
abbrev pub value_part : Option Value → ℕ
value_part (Some (StringArgument text)) = front_part text
value_part argument = 0

abbrev pub kind_part : Option MessageKind → ℕ
kind_part None = 0
kind_part (Some kind) = kind_number kind + 1

-- the well-known names and the bus are one class
abbrev pub sender_part : Option Text → ℕ
sender_part None = 0
sender_part (Some name) = if is_unique name then text_part name else 1

abbrev pub code_of : Parts → ℕ
code_of parts = mixed (mixed (mixed (mixed parts.kind parts.interface) parts.member) parts.argument) parts.sender

abbrev pub rule_parts : Rule → Parts
rule_parts rule = record {
  kind = kind_part (kind_asked rule);
  interface = part_of (value_at Interface rule);
  member = part_of (value_at Member rule);
  argument = argument_part (value_at (Argument 0) rule);
  sender = sender_part (value_at Sender rule);
}

abbrev pub message_parts : Facts → Parts
message_parts facts = record {
  kind = kind_part (Some facts.kind);
  interface = part_of facts.interface;
  member = part_of facts.member;
  argument = value_part (slice_get facts.arguments 0);
  sender = text_part (unique_text facts.sender);
}

-- ## Shapes: which parts a rule asks for

abbrev pub bit : Bool → ℕ
bit b = if b then 1 else 0

-- none, a well-known name or the bus, a unique name
abbrev pub sender_class : Option Text → ℕ
sender_class None = 0
sender_class (Some name) = if is_unique name then 2 else 1

abbrev pub shape_number : Bool → Bool → Bool → Bool → ℕ → ℕ
shape_number kind interface member argument sender = bit kind + 2 * bit interface + 4 * bit member + 8 * bit argument + 16 * sender

abbrev pub shapes : ℕ
shapes = 48

abbrev pub shape_of : Rule → ℕ
shape_of rule = shape_number (is_some (kind_asked rule)) (is_some (value_at Interface rule)) (is_some (value_at Member rule)) (is_some (value_at (Argument 0) rule)) (sender_class (value_at Sender rule))

abbrev pub part_if : Bool → ℕ → ℕ
part_if asked part = if asked then part else 0

abbrev pub sender_if : ℕ → ℕ → ℕ
sender_if class part = if class == 2 then part else class

-- the parts of a message that a rule of this shape asks for, if the rule is near
abbrev pub asked : ℕ → Parts → Parts
asked shape parts = record {
  kind = part_if (shape % 2 == 1) parts.kind;
  interface = part_if (shape / 2 % 2 == 1) parts.interface;
  member = part_if (shape / 4 % 2 == 1) parts.member;
  argument = part_if (shape / 8 % 2 == 1) parts.argument;
  sender = sender_if (shape / 16) parts.sender;
}

abbrev pub bucket_of : Rule → Bucket
bucket_of rule = record { shape = shape_of rule; code = code_of (rule_parts rule) }
