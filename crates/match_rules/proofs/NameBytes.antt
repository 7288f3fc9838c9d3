-- The names that keys take are UTF-8.
use Rattle.std.proofs.Common.{◌≡◌, inl, inr, Bool, IsTrue, ◌↔◌, true, false, sym, refl}
use Rattle.std.specs.Str.{IsUtf8}
use Rattle.std.proofs.lemmas.Bool.{cases_Bool, true≢false}
use Rattle.std.proofs.lemmas.Str.{IsUtf8-from_ascii}
use Rattle.names.specs.Texts.{Text}
use Rattle.names.specs.WellKnown.{IsNamespace}
use Rattle.names.proofs.Plain.{bus_name_plain, interface_plain, member_plain, namespace_plain, object_path_plain}
use Rattle.match_rules.specs.declared.key.Key.{Key}
use Rattle.match_rules.specs.declared.key.Key.TheVariants.{«Type» as MessageType, Sender, Interface, Member, Path, PathNamespace, Destination, Argument, ArgumentPath, Argument0Namespace, Eavesdrop}
use Rattle.match_rules.specs.Keys.{Takes, TakesNames}
use Rattle.match_rules.specs.RuleFaults.{takes}
use Rattle.match_rules.proofs.KeyTexts.{takes_tested, tested_takes}

named_utf8 : (key : Key) (value : Text) → TakesNames key → Takes key value → IsUtf8 value
named_utf8 MessageType value named h = absurd named
named_utf8 Sender value named h = IsUtf8-from_ascii value (bus_name_plain value h).1.0
named_utf8 Interface value named h = IsUtf8-from_ascii value (interface_plain value h).1.0
named_utf8 Member value named h = IsUtf8-from_ascii value (member_plain value h).1.0
named_utf8 Path value named h = IsUtf8-from_ascii value (object_path_plain value h).0
named_utf8 PathNamespace value named h = IsUtf8-from_ascii value (object_path_plain value h).0
named_utf8 Destination value named h = IsUtf8-from_ascii value (bus_name_plain value (inl h)).1.0
named_utf8 (Argument number) value named h = absurd named
named_utf8 (ArgumentPath number) value named h = absurd named
named_utf8 Argument0Namespace value named h = IsUtf8-from_ascii value (namespace_plain value h).1.0
named_utf8 Eavesdrop value named h = absurd named

pub names_utf8 : (key : Key) (value : Text) → TakesNames key → takes key value ≡ true → IsUtf8 value
names_utf8 key value named h = named_utf8 key value named (tested_takes key value h)

pub names_not_taken : (key : Key) (value : Text) → TakesNames key → ¬ IsUtf8 value → false ≡ takes key value
names_not_taken key value named other = elim (cases_Bool (takes key value)) [ inl taken ↦ absurd (other (names_utf8 key value named taken)) | inr not_taken ↦ sym not_taken ]

pub namespace_taken : (b : Bool) (value : Text) → (IsTrue b ↔ IsNamespace value) → b ≡ takes Argument0Namespace value
namespace_taken true value h = sym (takes_tested Argument0Namespace value (h.0 refl))
namespace_taken false value h = elim (cases_Bool (takes Argument0Namespace value)) [ inl taken ↦ absurd (true≢false (sym (h.1 (tested_takes Argument0Namespace value taken)))) | inr not_taken ↦ sym not_taken ]
