use Rattle.std.proofs.Common.{◌≡◌, ◌<◌, ◌^◌, ℕ, Some, None, Ok, Result, drop, [], ◌∷◌, ◌++◌, decimal, sym, ap, ◌∙◌}
use Rattle.std.specs.Cmp.Lexicographic.{same_text, other_text}
use Rattle.std.specs.Str.Parse.{ParsesUnsigned}
use Rattle.std.proofs.lemmas.Fmt.{parse-decimal}
use Rattle.names.specs.Texts.{Text}
use Rattle.names.specs.UniqueName.{unique_text}
use Rattle.names.proofs.unique_name.UniqueName.number_in.Goals as goal

-- what stands behind the start of a name that is the bus's for a number
digits_are : (text digits : Text) (k n : ℕ) → text ≡ (58 ∷ 49 ∷ 46 ∷ []) ++ drop k text → digits ≡ drop k text → text ≡ unique_text n → digits ≡ decimal n
digits_are text digits k n starts rest given = cc

-- it is read as that number
reads : {E : Type 0} (digits : Text) (r : Result ℕ E) (n : ℕ) → n < 2 ^ 64 → digits ≡ decimal n → ParsesUnsigned 64 10 digits r → r ≡ Ok n
reads digits r n fits are parses = parse-decimal 64 n digits r fits fits are parses

pub returns-in_err-number : goal.returns-in_err-number
returns-in_err-number c number fits = (
  (λ e. let none : None ≡ Some number = sym c.from_residual-in_err-number.ensures ∙ e in absurd cc),
  (λ e.
      let cases = c.in_ok-digits.ensures.cases in
      let are = digits_are c.args.text.now c.in_ok-digits.digits.now cases.0 number cases.1.1 cases.2 e in
      let read : c.parse.result ≡ Ok number = reads c.in_ok-digits.digits.now c.parse.result number fits are c.parse.ensures.value.0 in
      let none = rw read at c.in_err-number.ensures.value in absurd cc),
)

pub returns-then-eq : goal.returns-then-eq
returns-then-eq c number fits =
    let cases = c.in_ok-digits.ensures.cases in
    let same : c.format.result.now ≡ c.in_ok-digits.digits.now = same_text c.format.result.now c.in_ok-digits.digits.now (sym c.if-eq.true ∙ c.eq.ensures) in (
      (λ e.
          let n : c.in_ok-number.number ≡ number = cc in
          cases.1.1 ∙ ap (λ (rest : Text). (58 ∷ 49 ∷ 46 ∷ []) ++ rest) (sym cases.2 ∙ sym same ∙ c.format.ensures.text ∙ ap decimal n)),
      (λ e.
          let are = digits_are c.args.text.now c.in_ok-digits.digits.now cases.0 number cases.1.1 cases.2 e in
          let read : c.parse.result ≡ Ok number = reads c.in_ok-digits.digits.now c.parse.result number fits are c.parse.ensures.value.0 in
          rw read at c.in_ok-number.ensures.value),
    )

pub returns-else-eq : goal.returns-else-eq
returns-else-eq c number fits =
    let cases = c.in_ok-digits.ensures.cases in
    let other : c.format.result.now ≡ c.in_ok-digits.digits.now → ⊥ = other_text c.format.result.now c.in_ok-digits.digits.now (sym c.if-eq.false ∙ c.eq.ensures) in (
      (λ e. absurd cc),
      (λ e.
          let are = digits_are c.args.text.now c.in_ok-digits.digits.now cases.0 number cases.1.1 cases.2 e in
          let read : c.parse.result ≡ Ok number = reads c.in_ok-digits.digits.now c.parse.result number fits are c.parse.ensures.value.0 in
          let some = rw read at c.in_ok-number.ensures.value in
          let n : c.in_ok-number.number ≡ number = cc in
          absurd (other (c.format.ensures.text ∙ ap decimal n ∙ sym are))),
    )
