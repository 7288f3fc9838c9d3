-- Which rules a message may be for, and how many connections rules have.
use Rattle.std.specs.Prelude.{◌≡◌, ◌≤◌, ◌==◌, ℕ, true, false, Some, List, length, slice_get}
use Rattle.std.specs.List.{AllByRecursion}
use Rattle.names.specs.Texts.{Text}
use Rattle.match_rules.specs.Facts.{Facts}
use Rattle.match_rules.specs.Fitting.{Heads, fits, is_string_argument, is_text}
use Rattle.match_rules.specs.Kinds.{kind_number}
use Rattle.match_rules.specs.Rules.{Rule, value_at}
use Rattle.match_rules.specs.declared.kind.MessageKind.{MessageKind}
use Rattle.match_rules.specs.declared.key.Key.TheVariants.{Argument, Interface, Member}
use Rattle.match_rules.specs.OwnedRules.{OwnedRule}
use Rattle.match_index.specs.Collecting.{connections_of}
use Rattle.match_index.specs.Near.{is_near, kind_asked, near_by_header, near_rules}
use Rattle.match_index.specs.Sets.{AreRising, is_in}

abbrev pub WhatFitsIsNear : Type 0
WhatFitsIsNear = (heads : Heads) (rule : Rule) (facts : Facts) → fits heads rule facts ≡ true → is_near facts rule ≡ true

abbrev pub OtherMembersAreNotNear : Type 0
OtherMembersAreNotNear = (rule : Rule) (facts : Facts) (name : Text) → value_at Member rule ≡ Some name → is_text name facts.member ≡ false → is_near facts rule ≡ false

abbrev pub OtherInterfacesAreNotNear : Type 0
OtherInterfacesAreNotNear = (rule : Rule) (facts : Facts) (name : Text) → value_at Interface rule ≡ Some name → is_text name facts.interface ≡ false → is_near facts rule ≡ false

abbrev pub OtherKindsAreNotNear : Type 0
OtherKindsAreNotNear = (rule : Rule) (facts : Facts) (kind : MessageKind) → kind_asked rule ≡ Some kind → (kind_number kind == kind_number facts.kind) ≡ false → is_near facts rule ≡ false

abbrev pub OtherArgumentsAreNotNear : Type 0
OtherArgumentsAreNotNear = (rule : Rule) (facts : Facts) (text : Text) → value_at (Argument 0) rule ≡ Some text → is_string_argument text (slice_get facts.arguments 0) ≡ false → is_near facts rule ≡ false

abbrev pub NearRulesAreFew : Type 0
NearRulesAreFew = (facts : Facts) (rules : List OwnedRule) → near_rules facts rules ≤ near_by_header facts rules

-- where each rule's connection is one of some that rise
abbrev pub ConnectionsAreFew : Type 0
ConnectionsAreFew = (members : List ℕ) (rules : List OwnedRule) → AreRising members → AllByRecursion (λ r. is_in r.connection members ≡ true) rules → length (connections_of rules) ≤ length members
