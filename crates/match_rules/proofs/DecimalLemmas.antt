-- Texts that are compared with the digits of a number from the last digit on.
use Rattle.std.proofs.Common.{◌≡◌, inl, inr, ℕ, ◌+◌, ◌/◌, ◌%◌, ◌^◌, ◌<◌, ◌≤◌, Bool, true, false, ◌&&◌, ◌==◌, [], ◌∷◌, ◌++◌, decimal, length, refl, sym, ap, ◌∙◌, arith}
use Rattle.std.proofs.lemmas.Bool.{cases_lt, eq-eqb, ne_eqb}
use Rattle.std.proofs.lemmas.Fmt.{decimal_digit, decimal_step}
use Rattle.names.specs.Texts.{Text, text_eq}

and_true : (b : Bool) → (b && true) ≡ b
and_true true = refl
and_true false = refl

and_false : (b : Bool) → (b && false) ≡ false
and_false true = refl
and_false false = refl

and_grouped : (a b c : Bool) → (a && (b && c)) ≡ ((a && b) && c)
and_grouped true b c = refl
and_grouped false b c = refl

empty_differs : (digits : Text) (d : ℕ) → text_eq [] (digits ++ d ∷ []) ≡ false
empty_differs [] d = refl
empty_differs (x ∷ digits) d = refl

differs_from_empty : (front : Text) (x : ℕ) → text_eq (front ++ x ∷ []) [] ≡ false
differs_from_empty [] x = refl
differs_from_empty (y ∷ front) x = refl

by_last : (front digits : Text) (x d : ℕ) → text_eq (front ++ x ∷ []) (digits ++ d ∷ []) ≡ (text_eq front digits && (x == d))
by_last [] [] x d = and_true (x == d)
by_last [] (y ∷ digits) x d = ap (λ b. (x == y) && b) (empty_differs digits d) ∙ and_false (x == y)
by_last (y ∷ front) [] x d = ap (λ b. (y == d) && b) (differs_from_empty front x) ∙ and_false (y == d)
by_last (y ∷ front) (z ∷ digits) x d = ap (λ b. (y == z) && b) (by_last front digits x d) ∙ and_grouped (y == z) (text_eq front digits) (x == d)

-- The digits of a number with what stands before the last.
digits_of : (n : ℕ) → n < 2 ^ 64 → (front : Text) × (decimal n ≡ front ++ (48 + n % 10) ∷ [])
digits_of n fits =
    elim (cases_lt n 10) [
      | inl low ↦ ([], decimal_digit n low ∙ ap (λ d. (48 + d) ∷ []) (omega (arith, low)))
      | inr high ↦ (decimal (n / 10), decimal_step n high fits)
    ]

pub nothing_written : (digits : Text) (n : ℕ) → n < 2 ^ 64 → length digits ≡ 0 → false ≡ text_eq digits (decimal n)
nothing_written [] n fits none = let d = digits_of n fits in sym (ap (λ t. text_eq [] t) d.1 ∙ empty_differs d.0 (48 + n % 10))
nothing_written (x ∷ digits) n fits none = absurd (omega (arith, none))

pub other_last : (digits front : Text) (last n : ℕ) → n < 2 ^ 64 → digits ≡ front ++ last ∷ [] → (last ≡ 48 + n % 10 → ⊥) → false ≡ text_eq digits (decimal n)
other_last digits front last n fits is other =
    let d = digits_of n fits in
    sym (ap (λ t. text_eq t (decimal n)) is ∙ ap (λ t. text_eq (front ++ last ∷ []) t) d.1 ∙ by_last front d.0 last (48 + n % 10) ∙ ap (λ b. text_eq front d.0 && b) (ne_eqb last (48 + n % 10) other) ∙ and_false (text_eq front d.0))

is_nothing : (front : Text) → (length front == 0) ≡ text_eq front []
is_nothing [] = refl
is_nothing (x ∷ front) = ne_eqb (length (x ∷ front)) 0 (λ e. omega (arith, e))

same_last : (front digits : Text) (last d : ℕ) → last ≡ d → text_eq (front ++ last ∷ []) (digits ++ d ∷ []) ≡ text_eq front digits
same_last front digits last d same = by_last front digits last d ∙ ap (λ b. text_eq front digits && b) (eq-eqb last d same) ∙ and_true (text_eq front digits)

pub one_digit : (digits front : Text) (last n : ℕ) → n < 10 → digits ≡ front ++ last ∷ [] → last ≡ 48 + n % 10 → (length front == 0) ≡ text_eq digits (decimal n)
one_digit digits front last n low is same =
    let one : last ≡ 48 + n = omega (arith, same, low) in
    is_nothing front ∙ sym (ap (λ t. text_eq t (decimal n)) is ∙ ap (λ t. text_eq (front ++ last ∷ []) t) (decimal_digit n low) ∙ same_last front [] last (48 + n) one)

pub more_digits : (digits front : Text) (last n : ℕ) → 10 ≤ n → n < 2 ^ 64 → digits ≡ front ++ last ∷ [] → last ≡ 48 + n % 10 → text_eq front (decimal (n / 10)) ≡ text_eq digits (decimal n)
more_digits digits front last n high fits is same =
    sym (ap (λ t. text_eq t (decimal n)) is ∙ ap (λ t. text_eq (front ++ last ∷ []) t) (decimal_step n high fits) ∙ same_last front (decimal (n / 10)) last (48 + n % 10) same)
