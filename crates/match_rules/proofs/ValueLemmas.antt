-- The values of keys in a rule whose keys rise.
use Rattle.std.proofs.Common.{◌≡◌, ℕ, ◌<◌, true, Option, Some, None, [], ◌∷◌, refl, sym, ap, subst, ◌∙◌, arith}
use Rattle.std.specs.List.{AllByRecursion}
use Rattle.std.proofs.Math.Logic.{∥∥₁_elim}
use Rattle.std.proofs.lemmas.Grind.{merely}
use Rattle.std.proofs.Props.{props}
use Rattle.std.proofs.lemmas.Bool.{eq-eqb, ne_eqb, and_parts}
use Rattle.names.specs.Texts.{Text}
use Rattle.match_rules.specs.declared.key.Key.{Key}
use Rattle.match_rules.specs.Keys.{IsKey, key_place}
use Rattle.match_rules.specs.Rules.{Rule, IsRising, value_at}
use Rattle.match_rules.specs.RuleBytes.{rule_in}
use Rattle.match_rules.specs.RuleFaults.{takes}
use Rattle.match_rules.specs.EntryView.{all_taken}
use Rattle.match_rules.proofs.KeyLemmas.{key_by_place}
use Rattle.match_rules.proofs.EntryLemmas.{rule_in-keys}

value_here : (key : Key) (entry : Key × Text) (rule : Rule) → key_place entry.0 ≡ key_place key → value_at key (entry ∷ rule) ≡ Some entry.1
value_here key entry rule same = rw (eq-eqb (key_place entry.0) (key_place key) same) refl

value_later : (key : Key) (entry : Key × Text) (rule : Rule) → (key_place entry.0 ≡ key_place key → ⊥) → value_at key (entry ∷ rule) ≡ value_at key rule
value_later key entry rule other = rw (ne_eqb (key_place entry.0) (key_place key) other) refl

value_above : (key : Key) (place : ℕ) (rule : Rule) → key_place key < place → AllByRecursion (λ later. place < key_place later.0) rule → value_at key rule ≡ None
value_above key place [] below above = refl
value_above key place (entry ∷ rule) below above = value_later key entry rule (λ e. omega (arith, below, above.0, e)) ∙ value_above key place rule below above.1

-- What the walk to a key's value knows at an entry.
pub found_value : (key : Key) (entry : Key × Text) (rule left whole : Rule) → left ≡ entry ∷ rule → value_at key left ≡ value_at key whole → key_place entry.0 ≡ key_place key → Some entry.1 ≡ value_at key whole
found_value key entry rule left whole steps h same = sym (ap (λ r. value_at key r) steps ∙ value_here key entry rule same) ∙ h

pub taken_value :
    (key : Key) (entry : Key × Text) (rule : Rule) (bytes : Text) → IsKey key → rule_in bytes ≡ entry ∷ rule → all_taken (rule_in bytes) ≡ true → key_place entry.0 ≡ key_place key → takes key entry.1 ≡ true
taken_value key entry rule bytes is_key steps taken same =
    let keys : AllByRecursion (λ e. IsKey e.0) (entry ∷ rule) = subst (λ r. AllByRecursion (λ e. IsKey e.0) r) steps (rule_in-keys bytes) in
    let each : all_taken (entry ∷ rule) ≡ true = ap (λ r. all_taken r) (sym steps) ∙ taken in
    subst (λ k. takes k entry.1 ≡ true) (key_by_place entry.0 key keys.0 is_key same) (and_parts (takes entry.0 entry.1) (all_taken rule) each).0

pub no_value :
    (key : Key) (entry : Key × Text) (rule left whole : Rule) → left ≡ entry ∷ rule → ∥ IsRising left ∥₁ → value_at key left ≡ value_at key whole → key_place key < key_place entry.0 →
    ◌≡◌ {A = Option Text} None (value_at key whole)
no_value key entry rule left whole steps rising h below =
    let none : value_at key left ≡ None =
    ∥∥₁_elim rising (hlevel props) (λ r. let both : IsRising (entry ∷ rule) = subst (λ l. IsRising l) steps r in
    ap (λ l. value_at key l) steps ∙ value_later key entry rule (λ e. omega (arith, below, e)) ∙ value_above key (key_place entry.0) rule below both.0)
    in sym none ∙ h

pub behind_rises : (entry : Key × Text) (rule left : Rule) → left ≡ entry ∷ rule → ∥ IsRising left ∥₁ → ∥ IsRising rule ∥₁
behind_rises entry rule left steps rising = ∥∥₁_elim rising (hlevel props) (λ r. let both : IsRising (entry ∷ rule) = subst (λ l. IsRising l) steps r in merely both.1)

pub behind_taken : (entry : Key × Text) (rule left : Rule) → left ≡ entry ∷ rule → all_taken left ≡ true → all_taken rule ≡ true
behind_taken entry rule left steps taken = (and_parts (takes entry.0 entry.1) (all_taken rule) (ap (λ r. all_taken r) (sym steps) ∙ taken)).1

pub behind_value : (key : Key) (entry : Key × Text) (rule left whole : Rule) → left ≡ entry ∷ rule → value_at key left ≡ value_at key whole → (key_place entry.0 ≡ key_place key → ⊥) → value_at key rule ≡ value_at key whole
behind_value key entry rule left whole steps h other = sym (ap (λ r. value_at key r) steps ∙ value_later key entry rule other) ∙ h
