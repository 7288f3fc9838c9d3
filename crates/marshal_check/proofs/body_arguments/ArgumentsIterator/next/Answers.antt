use Rattle.std.proofs.Common.{◌≡◌, [], length, ap, refl, arith}
use Rattle.marshal_check.specs.SignatureTexts.{types_in}
use Rattle.marshal_check.specs.ArgumentViews.{arguments_left, seen}
use Rattle.marshal_check.proofs.Shown.{steps_on, stops}
use Rattle.marshal_check.proofs.body_arguments.ArgumentsIterator.next.Goals as goal

pub returns-in_default-clause-steps : goal.returns-in_default-clause-steps
returns-in_default-clause-steps c =
    let none : arguments_left c.args.self.now ≡ [] = stops c.args.self.now.order (types_in c.args.self.now.types.text.now) (types_in c.in_ok-one.one.text.now) (types_in c.in_ok-one.types.text.now) c.args.self.now.at c.in_ok-one.one.text.now c.args.self.now.bytes.now c.in_default.field-0 c.in_ok-one.ensures refl c.in_ok-one.one.valid c.in_default.ensures.reads in
    (none, none)

pub returns-clause-steps : goal.returns-clause-steps
returns-clause-steps c =
    steps_on c.args.self.now.order (types_in c.args.self.now.types.text.now) (types_in c.in_ok-one.one.text.now) (types_in c.in_ok-one.types.text.now) c.args.self.now.at c.in-Ok.at c.in_ok-one.one.text.now c.args.self.now.bytes.now c.in-Ok.bytes.now (seen c.in-Ok.argument) c.in_ok-one.ensures refl c.in_ok-one.one.valid c.in-Ok.ensures.reads

pub returns-clause-goes : goal.returns-clause-goes
returns-clause-goes c =
    let steps : goal.returns-clause-steps = returns-clause-steps in
    let less = ap (λ arguments. length arguments) (steps c) in
    record { on = λ _. (tt, tt, omega (arith, less)); keeps = tt; rests = λ _. tt }
