-- The laws of `same_rule`, which `==` of rules computes.
use Rattle.std.specs.Prelude.{◌≡◌, true, ◌&&◌, ◌==◌, [], ◌∷◌, refl}
use Rattle.std.specs.Cmp.{IsPartialEquivalence, IsEquivalence, partial_equiv_from_equiv}
use Rattle.std.proofs.Common.{sym, ap, ◌∙◌, inl, inr}
use Rattle.std.proofs.lemmas.Bool.{eqb-true, eq-eqb, cases_Bool, and_parts, and_from}
use Rattle.std.proofs.lemmas.Slice.Eq.{bytes_eq-Decides}
use Rattle.names.specs.Texts.{text_eq}
use Rattle.match_rules.specs.Keys.{key_place, same_key}
use Rattle.match_rules.specs.Rules.{Rule, same_rule}

same_rule_refl : (a : Rule) → same_rule a a ≡ true
same_rule_refl [] = refl
same_rule_refl (x ∷ a) =
    and_from (same_key x.0 x.0 && text_eq x.1 x.1) (same_rule a a)
    (and_from (same_key x.0 x.0) (text_eq x.1 x.1) (eq-eqb (key_place x.0) (key_place x.0) refl) ((bytes_eq-Decides x.1 x.1).1 refl)) (same_rule_refl a)

-- Of two rules that are the same, each is compared with a third alike.
same_rule_alike : (a b c : Rule) → same_rule a b ≡ true → same_rule a c ≡ same_rule b c
same_rule_alike [] [] c h = refl
same_rule_alike [] (y ∷ b) c h = absurd cc
same_rule_alike (x ∷ a) [] c h = absurd cc
same_rule_alike (x ∷ a) (y ∷ b) [] h = refl
same_rule_alike (x ∷ a) (y ∷ b) (z ∷ c) h =
    let outer : ((same_key x.0 y.0 && text_eq x.1 y.1) ≡ true) × (same_rule a b ≡ true) = and_parts (same_key x.0 y.0 && text_eq x.1 y.1) (same_rule a b) h in
    let inner : (same_key x.0 y.0 ≡ true) × (text_eq x.1 y.1 ≡ true) = and_parts (same_key x.0 y.0) (text_eq x.1 y.1) outer.0 in
    ap (λ place. (place == key_place z.0) && text_eq x.1 z.1 && same_rule a c) (eqb-true (key_place x.0) (key_place y.0) inner.0)
    ∙ ap (λ value. same_key y.0 z.0 && text_eq value z.1 && same_rule a c) ((bytes_eq-Decides x.1 y.1).0 inner.1)
    ∙ ap (λ rest. same_key y.0 z.0 && text_eq y.1 z.1 && rest) (same_rule_alike a b c outer.1)

same_rule_swapped : (a b : Rule) → same_rule a b ≡ same_rule b a
same_rule_swapped a b =
    elim (cases_Bool (same_rule a b)) [
      | inl same ↦ same ∙ sym (sym (same_rule_alike a b a same) ∙ same_rule_refl a)
      | inr other ↦ elim (cases_Bool (same_rule b a)) [
        | inl same ↦ sym (same_rule_alike b a b same) ∙ same_rule_refl b ∙ sym same
        | inr both ↦ other ∙ sym both
      ]
    ]

pub same_rule_equivalence : IsEquivalence same_rule
same_rule_equivalence = record { refl = same_rule_refl; symm = same_rule_swapped; congr = same_rule_alike }

pub same_rule_partial : IsPartialEquivalence same_rule
same_rule_partial = partial_equiv_from_equiv same_rule_equivalence
