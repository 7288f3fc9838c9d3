-- Lemmas on rules and on the bytes in which they are kept.
use Rattle.std.proofs.Common.{◌≡◌, ℕ, zero, suc, ◌+◌, ◌*◌, ◌/◌, ◌%◌, ◌≤◌, true, ◌&&◌, List, [], ◌∷◌, ◌++◌, map, length, take, drop, get_or, sum_by, codes, lit≤, decimal, refl, ap, ◌∙◌, arith, inl, inr, subst, sym}
use Rattle.std.specs.List.{AllByRecursion, flat_map}
use Rattle.std.proofs.lemmas.Bool.{eqb-true, eq-eqb, and_parts, and_from, cases_Bool, true≢false}
use Rattle.std.proofs.lemmas.Slice.Eq.{bytes_eq-Decides}
use Rattle.std.proofs.lemmas.List.{length-append}
use Rattle.std.proofs.Math.Seq.{take-append_seam, drop-append_seam}
use Rattle.std.proofs.lemmas.List.Sums.{sum_by-cons}
use Rattle.std.proofs.lemmas.List.Sorted.{sum_by-IsPermutation}
use Rattle.std.specs.List.Sorted.{IsPermutation}
use Rattle.std.specs.Str.{bytes_eq}
use Rattle.names.specs.Texts.{Text, text_eq}
use Rattle.match_rules.specs.declared.key.Key.{Key}
use Rattle.match_rules.specs.declared.key.Key.TheVariants.{«Type» as MessageType, Sender, Interface, Member, Path, PathNamespace, Destination, Argument, ArgumentPath, Argument0Namespace, Eavesdrop}
use Rattle.match_rules.specs.Keys.{key_text, key_place, same_key, all_keys}
use Rattle.match_rules.specs.Rules.{Rule, IsEntry, same_rule, IsRule}
use Rattle.match_rules.specs.RuleBytes.{rule_bytes, entries_in, rule_in}
use Rattle.match_rules.specs.RuleTexts.{apostrophe, comma, equals, Part, Quoted, Escaped, Plain, part_text, part_value, Item, item_text, entry_of, joined}
use Rattle.match_rules.proofs.KeyLemmas.{key_again, key_by_place}

pub text_eq-true : (a b : Text) → text_eq a b ≡ true → a ≡ b
text_eq-true a b h = (bytes_eq-Decides a b).0 h

pub text_eq-same : (a : Text) → text_eq a a ≡ true
text_eq-same a = (bytes_eq-Decides a a).1 refl

-- The test of rules.
pub same_rule-true : (a b : Rule) → AllByRecursion IsEntry a → AllByRecursion IsEntry b → same_rule a b ≡ true → a ≡ b
same_rule-true [] [] ha hb h = refl
same_rule-true [] (y ∷ b) ha hb h = absurd cc
same_rule-true (x ∷ a) [] ha hb h = absurd cc
same_rule-true (x ∷ a) (y ∷ b) ha hb h =
    let outer : ((same_key x.0 y.0 && text_eq x.1 y.1) ≡ true) × (same_rule a b ≡ true) = and_parts (same_key x.0 y.0 && text_eq x.1 y.1) (same_rule a b) h in
    let inner : (same_key x.0 y.0 ≡ true) × (text_eq x.1 y.1 ≡ true) = and_parts (same_key x.0 y.0) (text_eq x.1 y.1) outer.0 in
    let keys : x.0 ≡ y.0 = key_by_place x.0 y.0 ha.0.0 hb.0.0 (eqb-true (key_place x.0) (key_place y.0) inner.0) in
    let values : x.1 ≡ y.1 = text_eq-true x.1 y.1 inner.1 in
    let heads : x ≡ y = ap (λ k. (k, x.1)) keys ∙ ap (λ v. (y.0, v)) values in
    ap (λ e. e ∷ a) heads ∙ ap (λ r. y ∷ r) (same_rule-true a b ha.1 hb.1 outer.1)

pub same_rule-same : (a : Rule) → same_rule a a ≡ true
same_rule-same [] = refl
same_rule-same (x ∷ a) =
    and_from (same_key x.0 x.0 && text_eq x.1 x.1) (same_rule a a)
    (and_from (same_key x.0 x.0) (text_eq x.1 x.1) (eq-eqb (key_place x.0) (key_place x.0) refl) (text_eq-same x.1)) (same_rule-same a)

-- What is read from the bytes of a rule.
pub entries_in-rule_bytes : (more : ℕ) (rule : Rule) → AllByRecursion IsEntry rule → length (rule_bytes rule) ≤ more → entries_in more (rule_bytes rule) ≡ rule
entries_in-rule_bytes zero [] h fits = refl
entries_in-rule_bytes (suc more) [] h fits = refl
entries_in-rule_bytes zero (x ∷ rule) h fits = absurd (omega (arith, fits))
entries_in-rule_bytes (suc more) (x ∷ rule) h fits =
    let size : length x.1 % 256 + 256 * (length x.1 / 256) ≡ length x.1 = omega arith in
    let whole : length (x.1 ++ rule_bytes rule) ≡ length x.1 + length (rule_bytes rule) = length-append x.1 (rule_bytes rule) in
    let key : get_or all_keys (key_place x.0) Eavesdrop ≡ x.0 = key_again x.0 h.0.0 in
    let value : take (length x.1 % 256 + 256 * (length x.1 / 256)) (x.1 ++ rule_bytes rule) ≡ x.1 = rw size (take-append_seam x.1 (rule_bytes rule)) in
    let rest : drop (length x.1 % 256 + 256 * (length x.1 / 256)) (x.1 ++ rule_bytes rule) ≡ rule_bytes rule = rw size (drop-append_seam x.1 (rule_bytes rule)) in
    let others : entries_in more (rule_bytes rule) ≡ rule = entries_in-rule_bytes more rule h.1 (omega (arith, fits, whole)) in
    ap (λ k. (k, take (length x.1 % 256 + 256 * (length x.1 / 256)) (x.1 ++ rule_bytes rule)) ∷ entries_in more (drop (length x.1 % 256 + 256 * (length x.1 / 256)) (x.1 ++ rule_bytes rule))) key
    ∙ ap (λ v. (x.0, v) ∷ entries_in more (drop (length x.1 % 256 + 256 * (length x.1 / 256)) (x.1 ++ rule_bytes rule))) value
    ∙ ap (λ bytes. x ∷ entries_in more bytes) rest
    ∙ ap (λ r. x ∷ r) others

pub rule_in-rule_bytes : (rule : Rule) → AllByRecursion IsEntry rule → rule_in (rule_bytes rule) ≡ rule
rule_in-rule_bytes rule h = entries_in-rule_bytes (length (rule_bytes rule)) rule h (omega arith)

-- How long a rule is in bytes, and how long its text is at least.
pub length-rule_bytes : (rule : Rule) → length (rule_bytes rule) ≡ sum_by (λ e. 3 + length e.1) rule
length-rule_bytes [] = refl
length-rule_bytes (x ∷ rule) =
    let whole : length (x.1 ++ rule_bytes rule) ≡ length x.1 + length (rule_bytes rule) = length-append x.1 (rule_bytes rule) in
    let rest : length (rule_bytes rule) ≡ sum_by (λ e. 3 + length e.1) rule = length-rule_bytes rule in
    let more : sum_by (λ e. 3 + length e.1) (x ∷ rule) ≡ 3 + length x.1 + sum_by (λ e. 3 + length e.1) rule = sum_by-cons (λ e. 3 + length e.1) x rule in
    omega (arith, whole, rest, more)

pub length-key_text : (key : Key) → 2 ≤ length (key_text key)
length-key_text MessageType = lit≤ tt
length-key_text Sender = lit≤ tt
length-key_text Interface = lit≤ tt
length-key_text Member = lit≤ tt
length-key_text Path = lit≤ tt
length-key_text PathNamespace = lit≤ tt
length-key_text Destination = lit≤ tt
length-key_text (Argument n) = omega (arith, length-append (codes "arg") (decimal n))
length-key_text (ArgumentPath n) = omega (arith, length-append (codes "arg") (decimal n), length-append (codes "arg" ++ decimal n) (codes "path"))
length-key_text Argument0Namespace = lit≤ tt
length-key_text Eavesdrop = lit≤ tt

length-parts : (parts : List Part) → length (flat_map part_value parts) ≤ length (flat_map part_text parts)
length-parts [] = omega arith
length-parts (Quoted bytes ∷ parts) =
    let rest : length (flat_map part_value parts) ≤ length (flat_map part_text parts) = length-parts parts in
    omega (
      arith,
      rest,
      length-append bytes (flat_map part_value parts),
      length-append bytes (apostrophe ∷ []),
      length-append (bytes ++ apostrophe ∷ []) (flat_map part_text parts),
    )
length-parts (Escaped ∷ parts) = let rest : length (flat_map part_value parts) ≤ length (flat_map part_text parts) = length-parts parts in omega (arith, rest)
length-parts (Plain b ∷ parts) = let rest : length (flat_map part_value parts) ≤ length (flat_map part_text parts) = length-parts parts in omega (arith, rest)

pub length-item : (item : Item) → 3 + length (entry_of item).1 ≤ length (item_text item)
length-item item =
    omega (
      arith,
      length-key_text item.key,
      length-parts item.parts,
      length-append (key_text item.key) (equals ∷ flat_map part_text item.parts),
    )

length-others : (items : List Item) → sum_by (λ e. 3 + length e.1) (map entry_of items) ≤ length (flat_map (λ item. comma ∷ item_text item) items)
length-others [] = omega arith
length-others (item ∷ items) =
    let rest : sum_by (λ e. 3 + length e.1) (map entry_of items) ≤ length (flat_map (λ i. comma ∷ item_text i) items) = length-others items in
    omega (
      arith,
      rest,
      length-item item,
      sum_by-cons (λ e. 3 + length e.1) (entry_of item) (map entry_of items),
      length-append (item_text item) (flat_map (λ i. comma ∷ item_text i) items),
    )

length-joined : (items : List Item) → sum_by (λ e. 3 + length e.1) (map entry_of items) ≤ length (joined items)
length-joined [] = omega arith
length-joined (item ∷ items) =
    omega (
      arith,
      length-others items,
      length-item item,
      sum_by-cons (λ e. 3 + length e.1) (entry_of item) (map entry_of items),
      length-append (item_text item) (flat_map (λ i. comma ∷ item_text i) items),
    )

pub rule_has_room : (items : List Item) (rule : Rule) → IsPermutation (map entry_of items) rule → length (rule_bytes rule) ≤ length (joined items)
rule_has_room items rule same =
    omega (arith, length-rule_bytes rule, length-joined items, sum_by-IsPermutation (λ e. 3 + length e.1) (map entry_of items) rule same)

-- Bytes are compared in place of the rules that are kept in them.
pub bytes_compare :
    (x y : Text) → IsRule (rule_in x) → x ≡ rule_bytes (rule_in x) → IsRule (rule_in y) → y ≡ rule_bytes (rule_in y) → bytes_eq x y ≡ same_rule (rule_in x) (rule_in y)
bytes_compare x y hx ex hy ey =
    elim (cases_Bool (bytes_eq x y)) [
      | inl same ↦ same ∙ sym (subst (λ bytes. same_rule (rule_in x) (rule_in bytes) ≡ true) ((bytes_eq-Decides x y).0 same) (same_rule-same (rule_in x)))
      | inr other ↦ elim (cases_Bool (same_rule (rule_in x) (rule_in y))) [
        | inl same ↦
            let one : x ≡ y = ex ∙ ap (λ rule. rule_bytes rule) (same_rule-true (rule_in x) (rule_in y) hx.1 hy.1 same) ∙ sym ey in
            absurd (true≢false (sym ((bytes_eq-Decides x y).1 one) ∙ other))
        | inr differ ↦ other ∙ sym differ
      ]
    ]
