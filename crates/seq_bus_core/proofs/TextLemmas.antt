-- How texts are compared.
use Rattle.std.proofs.Common.{inl, inr, ◌≡◌, true, false, Ordering, refl, sym, ap, ◌∙◌}
use Rattle.std.specs.Ordering.{nat_cmp, is_lt, is_eq, ordering_reverse}
use Rattle.std.specs.declared.cmp.Ordering.TheVariants.{Less, Equal, Greater}
use Rattle.std.specs.Cmp.Lexicographic.{slice_cmp, same_text}
use Rattle.std.proofs.lemmas.Bool.{true≢false, cases_Bool}
use Rattle.std.proofs.lemmas.Cmp.{nat_list_cmp_total, nat_list_eq_equiv, tied_itself, tied_back}
use Rattle.std.proofs.lemmas.Map.Text.{is_eq-slice_cmp}
use Rattle.names.specs.Texts.{Text, text_eq, text_lt}

less_from_is_lt : (o : Ordering) → is_lt o ≡ true → o ≡ Less
less_from_is_lt Less e = refl
less_from_is_lt Equal e = absurd (true≢false (sym e))
less_from_is_lt Greater e = absurd (true≢false (sym e))

pub text_lt-trans : (a b c : Text) → text_lt a b ≡ true → text_lt b c ≡ true → text_lt a c ≡ true
text_lt-trans a b c h k = ap is_lt (nat_list_cmp_total.trans a b c (less_from_is_lt (slice_cmp nat_cmp a b) h) (less_from_is_lt (slice_cmp nat_cmp b c) k))

pub text_eq-true : (a b : Text) → text_eq a b ≡ true → a ≡ b
text_eq-true a b h = same_text a b (sym h)

pub text_eq-swapped : (a b : Text) → text_eq a b ≡ false → text_eq b a ≡ false
text_eq-swapped a b h = nat_list_eq_equiv.symm b a ∙ h

pub text_lt-itself : (a : Text) → text_lt a a ≡ false
text_lt-itself a = ap is_lt (tied_itself nat_list_cmp_total a)

pub text_lt-back : (a b : Text) → text_lt a b ≡ true → text_lt b a ≡ false
text_lt-back a b h = ap is_lt (nat_list_cmp_total.antisymm b a ∙ ap ordering_reverse (less_from_is_lt (slice_cmp nat_cmp a b) h))

pub text_eq-tied : (a b : Text) → slice_cmp nat_cmp a b ≡ Equal → text_eq a b ≡ true
text_eq-tied a b e = sym (is_eq-slice_cmp a b) ∙ ap is_eq e

-- of two texts that differ, one comes first
pub text_lt-other : (a b : Text) → text_lt a b ≡ false → text_eq b a ≡ false → text_lt b a ≡ true
text_lt-other a b not_below differ = by_order (slice_cmp nat_cmp a b) refl not_below
  where
    by_order : (o : Ordering) → slice_cmp nat_cmp a b ≡ o → is_lt o ≡ false → text_lt b a ≡ true
    by_order Less e h = absurd (true≢false h)
    by_order Equal e h = absurd (true≢false (sym (text_eq-tied b a (tied_back nat_list_cmp_total a b e)) ∙ differ))
    by_order Greater e h = ap is_lt (nat_list_cmp_total.antisymm b a ∙ ap ordering_reverse e)

pub text_lt-differs : (a b : Text) → text_lt a b ≡ true → text_eq a b ≡ false
text_lt-differs a b h = elim (cases_Bool (text_eq a b)) [ inl same ↦ absurd (true≢false (sym h ∙ ap (text_lt a) (sym (text_eq-true a b same)) ∙ text_lt-itself a)) | inr other ↦ other ]
