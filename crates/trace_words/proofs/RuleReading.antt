-- Texts that are read as rules.
use Rattle.std.proofs.Common.{◌≡◌, ℕ, ◌<◌, inl, Bool, true, false, List, [], ◌∷◌, length, Option, Some, None, refl, sym, ap, ◌∙◌, arith}
use Rattle.std.specs.Prelude.{is_none, if◌then◌else◌}
use Rattle.std.specs.Str.{IsUtf8, is_utf8}
use Rattle.std.proofs.lemmas.Str.{IsUtf8-from_is_utf8, is_utf8-from_IsUtf8}
use Rattle.std.proofs.lemmas.List.Sorted.{IsPermutation-refl}
use Rattle.names.specs.Texts.{Text}
use Rattle.match_rules.specs.declared.fault.RuleFault.{RuleFault}
use Rattle.match_rules.specs.Rules.{Rule}
use Rattle.match_rules.specs.RuleTexts.{IsRuleText}
use Rattle.match_rules.specs.RuleFaults.{rule_fault}
use Rattle.match_rules.proofs.RuleTextLaws.{text_has_no_fault, texts_have_one_rule}
use Rattle.match_rules.proofs.ParseLemmas.{whole_fault, read_is_text}
use Rattle.trace_words.specs.Changes.{rule_said, rule_in}

-- a fact of a text that is UTF-8
pub when_text : {A : Type 0} (bytes : List ℕ) (x y : Option A) → IsUtf8 bytes → x ≡ y → x ≡ (if is_utf8 bytes then y else None)
when_text bytes x y h e = e ∙ sym (ap (λ (b : Bool). if b then y else None) (is_utf8-from_IsUtf8 bytes h))

-- and of one that is none
pub when_no_text : {A : Type 0} (bytes : List ℕ) (y : Option A) → ¬ (IsUtf8 bytes) → None ≡ (if is_utf8 bytes then y else None)
when_no_text bytes y h = go (is_utf8 bytes) (λ e. h (IsUtf8-from_is_utf8 bytes e))
  where
    go : (b : Bool) → ¬ (b ≡ true) → None ≡ (if b then y else None)
    go true none = absurd (none refl)
    go false none = refl

said_whole : (b : ℕ) (bytes : Text) (rule : Rule) → IsRuleText (b ∷ bytes) rule → rule ≡ rule_said (b ∷ bytes)
said_whole b bytes rule h =
    let some : 0 < length (b ∷ bytes) = omega (arith) in
    let good = sym (whole_fault (b ∷ bytes) some h.1) ∙ text_has_no_fault (b ∷ bytes) rule h in
    texts_have_one_rule (b ∷ bytes) rule (rule_said (b ∷ bytes)) h (read_is_text (b ∷ bytes) some h.1 good)

no_items : IsRuleText [] []
no_items = ((tt, tt, inl refl), omega arith, ([], tt, IsPermutation-refl [], refl))

said : (text : Text) (rule : Rule) → IsRuleText text rule → rule ≡ rule_said text
said [] rule h = texts_have_one_rule [] rule [] h no_items
said (b ∷ bytes) rule h = said_whole b bytes rule h

-- the rule of a text
pub rule_reads : (text : Text) (rule : Rule) → IsRuleText text rule → Some rule ≡ rule_in text
rule_reads text rule h =
    ap (λ (r : Rule). Some r) (said text rule h) ∙ sym (ap (λ (f : Option RuleFault). if is_none f then Some (rule_said text) else None) (text_has_no_fault text rule h))

-- a text with a fault is none
pub fault_reads : (text : Text) (fault : RuleFault) → rule_fault text ≡ Some fault → None ≡ rule_in text
fault_reads text fault e = sym (ap (λ (f : Option RuleFault). if is_none f then Some (rule_said text) else None) e)
