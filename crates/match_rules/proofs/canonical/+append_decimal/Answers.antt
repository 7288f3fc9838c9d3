use Rattle.std.proofs.Common.{◌+◌, ◌/◌, ◌%◌, ◌++◌, ◌∷◌, [], decimal, length, List, ℕ, ap, sym, ◌∙◌, arith, length-append, append_assoc}
use Rattle.std.proofs.lemmas.Fmt.{decimal_digit, decimal_step}
use Rattle.match_rules.proofs.canonical.+append_decimal.Goals as goal

pub append-requires : goal.append-requires
append-requires t c = omega (arith, ap (λ (ds : List ℕ). length ds) (decimal_digit c.args.number c.if-number-lt10.true), c.requires)

pub returns-then-number-lt10 : goal.returns-then-number-lt10
returns-then-number-lt10 t c = c.append.ensures ∙ ap (λ ds. c.args.text.now ++ ds) (sym (decimal_digit c.args.number c.if-number-lt10.true))

pub append_decimal-requires : goal.append_decimal-requires
append_decimal-requires t c =
    let step = ap (λ (ds : List ℕ). length ds) (decimal_step c.args.number c.if-number-lt10.false (omega arith)) in
    (omega (arith, c.decreases), omega (arith, step, length-append (decimal (c.args.number / 10)) ((48 + c.args.number % 10) ∷ []), c.requires))

pub append-requires-2 : goal.append-requires-2
append-requires-2 t c =
    let step = ap (λ (ds : List ℕ). length ds) (decimal_step c.args.number c.if-number-lt10.false (omega arith)) in
    omega (
      arith,
      step,
      length-append (decimal (c.args.number / 10)) ((48 + c.args.number % 10) ∷ []),
      ap (λ (ds : List ℕ). length ds) c.append_decimal.ensures,
      length-append c.args.text.now (decimal (c.args.number / 10)),
      c.requires,
    )

pub returns : goal.returns
returns t c =
    c.append-2.ensures ∙ ap (λ ds. ds ++ (48 + c.args.number % 10) ∷ []) c.append_decimal.ensures ∙ append_assoc c.args.text.now (decimal (c.args.number / 10)) ((48 + c.args.number % 10) ∷ [])
    ∙ ap (λ ds. c.args.text.now ++ ds) (sym (decimal_step c.args.number c.if-number-lt10.false (omega arith)))
