-- Letters in names.
use Rattle.std.proofs.Common.{◌≡◌, ℕ, ◌+◌, Bool, true, false, eqb, ◌∷◌, Option, Some, None, IfSome, refl, subst, arith}
use Rattle.std.proofs.lemmas.Bool.{eqb-true}
use Rattle.std.proofs.lemmas.Bool.Decides.{nat_tests}
use Rattle.names.specs.Texts.{Text}
use Rattle.names.specs.Elements.{Style, IsNoLetter, is_letter, is_digit, is_separator, elements_fault}

-- Bytes that differ in a test are two.
apart : (b s : ℕ) (t : Bool) → eqb b s ≡ t → is_letter b ≡ true → IsNoLetter s → t ≡ false
apart b s true e letter apart_from = let f : is_letter s ≡ true = subst (λ (k : ℕ). is_letter k ≡ true) (eqb-true b s e) letter in absurd cc
apart b s false e letter apart_from = refl

-- No letter separates elements.
no_letter_separates : (separator : Option ℕ) (b : ℕ) → IfSome separator IsNoLetter → is_letter b ≡ true → is_separator separator b ≡ false
no_letter_separates None b apart_from letter = refl
no_letter_separates (Some s) b apart_from letter = apart b s (eqb b s) refl letter apart_from

letter_is_no_digit : (b : ℕ) → is_letter b ≡ true → is_digit b ≡ false
letter_is_no_digit b letter = grind (arith, nat_tests)

-- A letter goes on with an element, or begins one.
pub letters_stay : (style : Style) (begins enough : Bool) (place b : ℕ) (bytes : Text) → IfSome style.separator IsNoLetter → is_letter b ≡ true → elements_fault style begins enough place (b ∷ bytes) ≡ elements_fault style false enough (place + 1) bytes
letters_stay style begins enough place b bytes apart_from letter = let s : is_separator style.separator b ≡ false = no_letter_separates style.separator b apart_from letter in let d : is_digit b ≡ false = letter_is_no_digit b letter in grind arith
