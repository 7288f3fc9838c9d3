-- The laws of near rules.
use Rattle.std.proofs.Common.{◌≡◌, ℕ, ◌≤◌, Bool, true, false, cond, ◌&&◌, List, [], ◌∷◌, refl, ap, ◌∙◌, arith}
use Rattle.std.specs.List.{AllByRecursion as Each}
use Rattle.std.proofs.lemmas.List.Sums.{sum_by-cons}
use Rattle.names.specs.UniqueName.{unique_text}
use Rattle.match_rules.specs.Rules.{value_at}
use Rattle.match_rules.specs.declared.key.Key.TheVariants.{Argument, Interface, Member, Sender}
use Rattle.match_rules.specs.OwnedRules.{OwnedRule}
use Rattle.match_index.specs.Collecting.{connections_of}
use Rattle.match_index.specs.Laws.{ConnectionsAreFew, NearRulesAreFew, OtherArgumentsAreNotNear, OtherInterfacesAreNotNear, OtherKindsAreNotNear, OtherMembersAreNotNear}
use Rattle.match_index.specs.Near.{agrees, argument_agrees, is_kind, is_near, is_near_by_header, is_near_sender, kind_asked}
use Rattle.match_index.specs.Sets.{is_in}
use Rattle.match_index.proofs.CollectLemmas.{rising_connections, rising_few}
use Rattle.match_index.proofs.SetLemmas.{each_with}

first_no : (a b c d e : Bool) → a ≡ false → ((a && b && c && d) && e) ≡ false
first_no a b c d e no_a = rw no_a refl

second_no : (a b c d e : Bool) → b ≡ false → ((a && b && c && d) && e) ≡ false
second_no true b c d e no_b = rw no_b refl
second_no false b c d e no_b = refl

third_no : (a b c d e : Bool) → c ≡ false → ((a && b && c && d) && e) ≡ false
third_no true true c d e no_c = rw no_c refl
third_no true false c d e no_c = refl
third_no false b c d e no_c = refl

last_no : (header e : Bool) → e ≡ false → (header && e) ≡ false
last_no true e no_e = no_e
last_no false e no_e = refl

pub other_members : OtherMembersAreNotNear
other_members rule facts name is other =
    third_no (is_kind (kind_asked rule) facts.kind) (agrees (value_at Interface rule) facts.interface) (agrees (value_at Member rule) facts.member) (is_near_sender (value_at Sender rule) (unique_text facts.sender))
    (argument_agrees (value_at (Argument 0) rule) facts.arguments) (ap (λ v. agrees v facts.member) is ∙ other)

pub other_interfaces : OtherInterfacesAreNotNear
other_interfaces rule facts name is other =
    second_no (is_kind (kind_asked rule) facts.kind) (agrees (value_at Interface rule) facts.interface) (agrees (value_at Member rule) facts.member) (is_near_sender (value_at Sender rule) (unique_text facts.sender))
    (argument_agrees (value_at (Argument 0) rule) facts.arguments) (ap (λ v. agrees v facts.interface) is ∙ other)

pub other_kinds : OtherKindsAreNotNear
other_kinds rule facts kind is other =
    first_no (is_kind (kind_asked rule) facts.kind) (agrees (value_at Interface rule) facts.interface) (agrees (value_at Member rule) facts.member) (is_near_sender (value_at Sender rule) (unique_text facts.sender))
    (argument_agrees (value_at (Argument 0) rule) facts.arguments) (ap (λ k. is_kind k facts.kind) is ∙ other)

pub other_arguments : OtherArgumentsAreNotNear
other_arguments rule facts text is other = last_no (is_near_by_header facts rule) (argument_agrees (value_at (Argument 0) rule) facts.arguments) (ap (λ v. argument_agrees v facts.arguments) is ∙ other)

pub few_near : NearRulesAreFew
few_near facts [] = omega arith
few_near facts (r ∷ rules) =
    let near = sum_by-cons (λ y. cond (is_near facts y.rule) 1 0) r rules in
    let header = sum_by-cons (λ y. cond (is_near_by_header facts y.rule) 1 0) r rules in
    let here = fewer (is_near_by_header facts r.rule) (argument_agrees (value_at (Argument 0) r.rule) facts.arguments) in
    let rest = few_near facts rules in
    omega (arith, near, header, here, rest)
  where
    fewer : (a b : Bool) → cond (a && b) 1 0 ≤ cond a 1 0
    fewer true true = omega arith
    fewer true false = omega arith
    fewer false b = omega arith

each_member : (members : List ℕ) (rules : List OwnedRule) → Each (λ r. is_in r.connection members ≡ true) rules → Each (λ n. is_in n members ≡ true) (connections_of rules)
each_member members [] h = tt
each_member members (r ∷ rules) h = each_with (λ n. is_in n members ≡ true) r.connection (connections_of rules) h.0 (each_member members rules h.1)

pub few_connections : ConnectionsAreFew
few_connections members rules rising h = rising_few (connections_of rules) members (rising_connections rules) rising (each_member members rules h)
