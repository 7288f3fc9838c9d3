-- Which rules a message is tested by, and where they are filed.
use Rattle.std.proofs.Common.{◌≡◌, ℕ, zero, suc, ◌+◌, ◌/◌, ◌%◌, ◌<◌, ◌==◌, Bool, true, false, ◌&&◌, Option, Some, None, is_some, List, [], ◌∷◌, slice_get, get_or, codes, refl, sym, ap, ◌∙◌, subst, arith, if◌then◌else◌}
use Rattle.std.specs.Option.{option_and_then}
use Rattle.std.proofs.lemmas.Bool.{and_parts, eqb-true, true≢false}
use Rattle.names.specs.Texts.{Text, text_eq}
use Rattle.names.specs.BusName.{is_bus, is_unique, bus_text}
use Rattle.names.specs.UniqueName.{unique_text}
use Rattle.match_rules.specs.Facts.{Facts, bus_number, Argument as Value, StringArgument, PathArgument, OtherArgument}
use Rattle.match_rules.specs.Fitting.{Heads, fits, holds, is_number, is_sender, is_string_argument, is_text}
use Rattle.match_rules.specs.Keys.{all_keys, key_place, same_key}
use Rattle.match_rules.specs.Kinds.{kind_named, kind_number, kind_word}
use Rattle.match_rules.specs.Rules.{Rule, value_at}
use Rattle.match_rules.specs.declared.key.Key.{Key}
use Rattle.match_rules.specs.declared.key.Key.TheVariants.{«Type» as MessageType, Sender, Interface, Member, Path, PathNamespace, Destination, Argument, ArgumentPath, Argument0Namespace, Eavesdrop}
use Rattle.match_rules.specs.declared.kind.MessageKind.{MessageKind}
use Rattle.match_rules.specs.declared.kind.MessageKind.TheVariants.{MethodCall, MethodReturn, Error, Signal, Unknown}
use Rattle.match_rules.proofs.RuleLemmas.{text_eq-true}
use Rattle.match_index.specs.Buckets.{argument_part, asked, bit, front_part, kind_part, message_parts, part_if, part_of, rule_parts, sender_class, sender_if, sender_part, shape_number, shape_of, text_part, value_part}
use Rattle.match_index.specs.Near.{agrees, argument_agrees, is_kind, is_near, is_near_by_header, is_near_sender, kind_asked}
use Rattle.match_index.specs.declared.buckets.Parts.{Parts}

-- ## What fits is near

early_key : (key : Key) → key_place key < 8 → key ≡ get_or all_keys (key_place key) Eavesdrop
early_key MessageType lt = refl
early_key Member lt = refl
early_key Interface lt = refl
early_key Path lt = refl
early_key PathNamespace lt = refl
early_key Sender lt = refl
early_key Destination lt = refl
early_key (Argument zero) lt = refl
early_key (Argument (suc number)) lt = absurd (omega (arith, lt))
early_key (ArgumentPath number) lt = absurd (omega (arith, lt))
early_key Argument0Namespace lt = absurd (omega (arith, lt))
early_key Eavesdrop lt = absurd (omega (arith, lt))

same_is : (a b : Key) → same_key a b ≡ true → key_place b < 8 → a ≡ b
same_is a b same early =
    let place : key_place a ≡ key_place b = eqb-true (key_place a) (key_place b) same in
    early_key a (subst (λ p. p < 8) (sym place) early) ∙ ap (λ p. get_or all_keys p Eavesdrop) place ∙ sym (early_key b early)

-- the value of a key of a rule that fits holds
value_holds : (heads : Heads) (facts : Facts) (key : Key) → key_place key < 8 → (rule : Rule) (value : Text) → value_at key rule ≡ Some value → fits heads rule facts ≡ true → holds heads key value facts ≡ true
value_holds heads facts key early [] value is fit = cc
value_holds heads facts key early (entry ∷ rule) value is fit = by_test (same_key entry.0 key) refl is (λ found. value_holds heads facts key early rule value found parts.1)
  where
    parts : (holds heads entry.0 entry.1 facts ≡ true) × (fits heads rule facts ≡ true)
    parts = and_parts (holds heads entry.0 entry.1 facts) (fits heads rule facts) fit

    some_is : {a b : Text} → ◌≡◌ {A = Option Text} (Some a) (Some b) → a ≡ b
    some_is e = cc

    by_test : (b : Bool) → same_key entry.0 key ≡ b → (if b then Some entry.1 else value_at key rule) ≡ Some value → (value_at key rule ≡ Some value → holds heads key value facts ≡ true) → holds heads key value facts ≡ true
    by_test true same found rest = ap (λ k. holds heads k value facts) (sym (same_is entry.0 key same early)) ∙ ap (λ v. holds heads entry.0 v facts) (sym (some_is found)) ∙ parts.0
    by_test false same found rest = rest found

kind_fits : (word : Text) (kind : MessageKind) → is_text word (kind_word kind) ≡ true → is_kind (kind_named word) kind ≡ true
kind_fits word MethodCall h = subst (λ w. is_kind (kind_named w) MethodCall ≡ true) (text_eq-true (codes "method_call") word h) refl
kind_fits word MethodReturn h = subst (λ w. is_kind (kind_named w) MethodReturn ≡ true) (text_eq-true (codes "method_return") word h) refl
kind_fits word Error h = subst (λ w. is_kind (kind_named w) Error ≡ true) (text_eq-true (codes "error") word h) refl
kind_fits word Signal h = subst (λ w. is_kind (kind_named w) Signal ≡ true) (text_eq-true (codes "signal") word h) refl
kind_fits word (Unknown number) h = absurd (true≢false (sym h))

kind_near : (value : Option Text) (kind : MessageKind) → ((word : Text) → value ≡ Some word → is_text word (kind_word kind) ≡ true) → is_kind (option_and_then kind_named value) kind ≡ true
kind_near None kind h = refl
kind_near (Some word) kind h = kind_fits word kind (h word refl)

text_near : (value text : Option Text) → ((word : Text) → value ≡ Some word → is_text word text ≡ true) → agrees value text ≡ true
text_near None text h = refl
text_near (Some word) text h = h word refl

bus_is_no_unique : (name : Text) → is_bus name ≡ true → is_unique name ≡ false
bus_is_no_unique name h = ap is_unique (text_eq-true name bus_text h)

sender_fits : (heads : Heads) (name : Text) (sender : ℕ) → is_sender heads name sender ≡ true → is_near_sender (Some name) (unique_text sender) ≡ true
sender_fits heads name sender h = by_bus (is_bus name) refl h
  where
    by_unique : (u : Bool) → (if u then text_eq name (unique_text sender) else is_number sender (heads name)) ≡ true → (if u then text_eq name (unique_text sender) else true) ≡ true
    by_unique true fit = fit
    by_unique false fit = refl

    by_number : (n : Bool) → (if n then false else if is_unique name then text_eq name (unique_text sender) else is_number sender (heads name)) ≡ true → is_near_sender (Some name) (unique_text sender) ≡ true
    by_number true fit = absurd (true≢false (sym fit))
    by_number false fit = by_unique (is_unique name) fit

    by_bus : (b : Bool) → is_bus name ≡ b →
        (if b then sender == bus_number else if sender == bus_number then false else if is_unique name then text_eq name (unique_text sender) else is_number sender (heads name)) ≡ true → is_near_sender (Some name) (unique_text sender) ≡ true
    by_bus true is fit = let other = bus_is_no_unique name is in rw other refl
    by_bus false is fit = by_number (sender == bus_number) fit

sender_near : (heads : Heads) (value : Option Text) (sender : ℕ) → ((name : Text) → value ≡ Some name → is_sender heads name sender ≡ true) → is_near_sender value (unique_text sender) ≡ true
sender_near heads None sender h = refl
sender_near heads (Some name) sender h = sender_fits heads name sender (h name refl)

argument_near : (value : Option Text) (arguments : List Value) → ((text : Text) → value ≡ Some text → is_string_argument text (slice_get arguments 0) ≡ true) → argument_agrees value arguments ≡ true
argument_near None arguments h = refl
argument_near (Some text) arguments h = h text refl

all_hold : (a b c d e : Bool) → a ≡ true → b ≡ true → c ≡ true → d ≡ true → e ≡ true → ((a && b && c && d) && e) ≡ true
all_hold a b c d e p q r s t = rw (p, q, r, s, t) refl

pub fits_near : (heads : Heads) (rule : Rule) (facts : Facts) → fits heads rule facts ≡ true → is_near facts rule ≡ true
fits_near heads rule facts fit = all_hold _ _ _ _ _ (kind_near (value_at MessageType rule) facts.kind (λ word is. value_holds heads facts MessageType (omega arith) rule word is fit))
    (text_near (value_at Interface rule) facts.interface (λ word is. value_holds heads facts Interface (omega arith) rule word is fit))
    (text_near (value_at Member rule) facts.member (λ word is. value_holds heads facts Member (omega arith) rule word is fit))
    (sender_near heads (value_at Sender rule) facts.sender (λ name is. value_holds heads facts Sender (omega arith) rule name is fit))
    (argument_near (value_at (Argument 0) rule) facts.arguments (λ text is. value_holds heads facts (Argument 0) (omega arith) rule text is fit))

-- ## Shapes

bit_few : (b : Bool) → bit b < 2
bit_few true = omega arith
bit_few false = omega arith

class_few : (value : Option Text) → sender_class value < 3
class_few None = omega arith
class_few (Some name) = by_test (is_unique name)
  where
    by_test : (u : Bool) → (if u then 2 else 1) < 3
    by_test true = omega arith
    by_test false = omega arith

pub shape_few : (rule : Rule) → shape_of rule < 48
shape_few rule =
    let a = bit_few (is_some (kind_asked rule)) in
    let b = bit_few (is_some (value_at Interface rule)) in
    let c = bit_few (is_some (value_at Member rule)) in
    let d = bit_few (is_some (value_at (Argument 0) rule)) in
    let e = class_few (value_at Sender rule) in
    omega (arith, a, b, c, d, e)

-- the parts that a shape asks for
abbrev IsDecoded : Bool → Bool → Bool → Bool → ℕ → Type 0
IsDecoded a b c d e =
    let shape = shape_number a b c d e in
    ((shape % 2 == 1) ≡ a) × ((shape / 2 % 2 == 1) ≡ b) × ((shape / 4 % 2 == 1) ≡ c) × ((shape / 8 % 2 == 1) ≡ d) × (shape / 16 ≡ e)

bit_is : (b : Bool) (n : ℕ) → n ≡ bit b → (n == 1) ≡ b
bit_is true n is = ap (λ m. m == 1) is
bit_is false n is = ap (λ m. m == 1) is

decoded : (a b c d : Bool) (e : ℕ) → IsDecoded a b c d e
decoded a b c d e =
    let p = bit_few a in
    let q = bit_few b in
    let r = bit_few c in
    let s = bit_few d in
    (bit_is a _ (omega (arith, p)), bit_is b _ (omega (arith, p, q)), bit_is c _ (omega (arith, p, q, r)), bit_is d _ (omega (arith, p, q, r, s)), omega (arith, p, q, r, s))

-- ## Where near rules are filed

near_kind : (value : Option MessageKind) (kind : MessageKind) → is_kind value kind ≡ true → kind_part value ≡ part_if (is_some value) (kind_part (Some kind))
near_kind None kind h = refl
near_kind (Some other) kind h = ap (λ n. n + 1) (eqb-true (kind_number other) (kind_number kind) h)

near_text : (value text : Option Text) → agrees value text ≡ true → part_of value ≡ part_if (is_some value) (part_of text)
near_text None text h = refl
near_text (Some word) None h = absurd (true≢false (sym h))
near_text (Some word) (Some text) h = ap text_part (sym (text_eq-true text word h))

near_sender : (value : Option Text) (sender : Text) → is_near_sender value sender ≡ true → sender_part value ≡ sender_if (sender_class value) (text_part sender)
near_sender None sender h = refl
near_sender (Some name) sender h = by_test (is_unique name) h
  where
    by_test : (u : Bool) → (if u then text_eq name sender else true) ≡ true → (if u then text_part name else 1) ≡ sender_if (if u then 2 else 1) (text_part sender)
    by_test true same = ap text_part (text_eq-true name sender same)
    by_test false same = refl

-- an argument that agrees is a string
near_argument : (value : Option Text) (arguments : List Value) → argument_agrees value arguments ≡ true → argument_part value ≡ part_if (is_some value) (value_part (slice_get arguments 0))
near_argument None arguments h = refl
near_argument (Some text) arguments h = by_value (slice_get arguments 0) h
  where
    by_value : (value : Option Value) → is_string_argument text value ≡ true → front_part text ≡ value_part value
    by_value (Some (StringArgument other)) same = ap front_part (sym (text_eq-true other text same))
    by_value (Some (PathArgument other)) same = absurd (true≢false (sym same))
    by_value (Some OtherArgument) same = absurd (true≢false (sym same))
    by_value None same = absurd (true≢false (sym same))

five_same : (a b c d e v w x y z : ℕ) → a ≡ v → b ≡ w → c ≡ x → d ≡ y → e ≡ z →
    ◌≡◌ {A = Parts} (record { kind = a; interface = b; member = c; argument = d; sender = e }) (record { kind = v; interface = w; member = x; argument = y; sender = z })
five_same a b c d e v w x y z p q r s t = rw (p, q, r, s, t) refl

pub near_parts : (facts : Facts) (rule : Rule) → is_near facts rule ≡ true → rule_parts rule ≡ asked (shape_of rule) (message_parts facts)
near_parts facts rule near =
    let a = is_kind (kind_asked rule) facts.kind in
    let b = agrees (value_at Interface rule) facts.interface in
    let c = agrees (value_at Member rule) facts.member in
    let d = is_near_sender (value_at Sender rule) (unique_text facts.sender) in
    let four : (is_near_by_header facts rule ≡ true) × (argument_agrees (value_at (Argument 0) rule) facts.arguments ≡ true) = and_parts (is_near_by_header facts rule) _ near in
    let three : ((a && b && c) ≡ true) × (d ≡ true) = and_parts (a && b && c) d four.0 in
    let two : ((a && b) ≡ true) × (c ≡ true) = and_parts (a && b) c three.0 in
    let one : (a ≡ true) × (b ≡ true) = and_parts a b two.0 in
    let shape = decoded (is_some (kind_asked rule)) (is_some (value_at Interface rule)) (is_some (value_at Member rule)) (is_some (value_at (Argument 0) rule)) (sender_class (value_at Sender rule)) in
    let parts = message_parts facts in
    five_same _ _ _ _ _ _ _ _ _ _ (near_kind (kind_asked rule) facts.kind one.0 ∙ ap (λ t. part_if t parts.kind) (sym shape.0)) (near_text (value_at Interface rule) facts.interface one.1 ∙ ap (λ t. part_if t parts.interface) (sym shape.1))
    (near_text (value_at Member rule) facts.member two.1 ∙ ap (λ t. part_if t parts.member) (sym shape.2)) (near_argument (value_at (Argument 0) rule) facts.arguments four.1 ∙ ap (λ t. part_if t parts.argument) (sym shape.3))
    (near_sender (value_at Sender rule) (unique_text facts.sender) three.1 ∙ ap (λ n. sender_if n parts.sender) (sym shape.4))
