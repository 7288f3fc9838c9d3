use Rattle.std.proofs.Common.{length, refl, ap, arith}
use Rattle.std.proofs.lemmas.List.{nil_from_length}
use Rattle.marshal_core.specs.declared.data_type.BasicType.TheVariants.{String, ObjectPath}
use Rattle.marshal_core.specs.declared.fault.MarshalFault.TheVariants.{Truncated}
use Rattle.marshal_core.specs.Types.{Tys}
use Rattle.marshal_check.specs.Arguments.{arguments_at}
use Rattle.marshal_check.proofs.Splits.{nothing_left}
use Rattle.marshal_check.proofs.Shown.{shows_other}
use Rattle.marshal_check.proofs.CheckedSteps.{basic_first, any_first, string_there, path_there, string_steps, path_steps, other_steps, not_refused, text_some}
use Rattle.marshal_check.proofs.checked_arguments.CheckedArguments.split_first.Goals as goal

pub returns-in_err-letter : goal.returns-in_err-letter
returns-in_err-letter c =
    let s = c.args.self in
    rw c.from_residual.ensures (ap (λ (ts : Tys). arguments_at s.order ts s.at s.bytes.now) (nothing_left s.types.text.now (nil_from_length s.types.text.now c.in_err-letter.ensures.cases)))

-- ---- strings

pub checked_text-at-requires-clause-there : goal.checked_text-at-requires-clause-there
checked_text-at-requires-clause-there c =
    let s = c.args.self in
    let f = basic_first s.types.text.now c.in_ok-letter.others.now c.in_ok-letter.letter.now String s.types.valid c.in_ok-letter.ensures.cases.0 (rw c.if-letter-eq115.true refl) in
    string_there s.order s.types.text.now c.in_ok-letter.others.now s.at s.bytes.now f.1 s.there

pub invariant_of-types : goal.invariant_of-types
invariant_of-types c =
    let s = c.args.self in
    record { valid = (basic_first s.types.text.now c.in_ok-letter.others.now c.in_ok-letter.letter.now String s.types.valid c.in_ok-letter.ensures.cases.0 (rw c.if-letter-eq115.true refl)).0 }

pub invariant_of-result : goal.invariant_of-result
invariant_of-result c =
    let s = c.args.self in
    let f = basic_first s.types.text.now c.in_ok-letter.others.now c.in_ok-letter.letter.now String s.types.valid c.in_ok-letter.ensures.cases.0 (rw c.if-letter-eq115.true refl) in
    let x = c.checked_text-at.result in
    record {
      room = omega (arith, c.checked_text-at.ensures.place, s.room);
      there = (string_steps s.order s.types.text.now c.in_ok-letter.others.now s.at x.1 s.bytes.now x.2.now x.0.now f.1 s.there c.checked_text-at.ensures.reads).1;
    }

pub returns-then-letter-eq115 : goal.returns-then-letter-eq115
returns-then-letter-eq115 c =
    let s = c.args.self in
    let f = basic_first s.types.text.now c.in_ok-letter.others.now c.in_ok-letter.letter.now String s.types.valid c.in_ok-letter.ensures.cases.0 (rw c.if-letter-eq115.true refl) in
    let x = c.checked_text-at.result in
    (string_steps s.order s.types.text.now c.in_ok-letter.others.now s.at x.1 s.bytes.now x.2.now x.0.now f.1 s.there c.checked_text-at.ensures.reads).0

-- ---- object paths

pub checked_text-at-requires-then-letter-eq111-clause-there : goal.checked_text-at-requires-then-letter-eq111-clause-there
checked_text-at-requires-then-letter-eq111-clause-there c =
    let s = c.args.self in
    let f = basic_first s.types.text.now c.in_ok-letter.others.now c.in_ok-letter.letter.now ObjectPath s.types.valid c.in_ok-letter.ensures.cases.0 (rw c.if-letter-eq111.true refl) in
    (path_there s.order s.types.text.now c.in_ok-letter.others.now s.at s.bytes.now f.1 s.there).2

pub invariant_of-types-then-letter-eq111 : goal.invariant_of-types-then-letter-eq111
invariant_of-types-then-letter-eq111 c =
    let s = c.args.self in
    record { valid = (basic_first s.types.text.now c.in_ok-letter.others.now c.in_ok-letter.letter.now ObjectPath s.types.valid c.in_ok-letter.ensures.cases.0 (rw c.if-letter-eq111.true refl)).0 }

pub invariant_of-result-then-letter-eq111 : goal.invariant_of-result-then-letter-eq111
invariant_of-result-then-letter-eq111 c =
    let s = c.args.self in
    let f = basic_first s.types.text.now c.in_ok-letter.others.now c.in_ok-letter.letter.now ObjectPath s.types.valid c.in_ok-letter.ensures.cases.0 (rw c.if-letter-eq111.true refl) in
    let x = c.checked_text-at-then-letter-eq111.result in
    record {
      room = omega (arith, c.checked_text-at-then-letter-eq111.ensures.place, s.room);
      there = (path_steps s.order s.types.text.now c.in_ok-letter.others.now s.at x.1 s.bytes.now x.2.now x.0.now f.1 s.there c.checked_text-at-then-letter-eq111.ensures.reads).1;
    }

pub returns-then-letter-eq111 : goal.returns-then-letter-eq111
returns-then-letter-eq111 c =
    let s = c.args.self in
    let f = basic_first s.types.text.now c.in_ok-letter.others.now c.in_ok-letter.letter.now ObjectPath s.types.valid c.in_ok-letter.ensures.cases.0 (rw c.if-letter-eq111.true refl) in
    let x = c.checked_text-at-then-letter-eq111.result in
    (path_steps s.order s.types.text.now c.in_ok-letter.others.now s.at x.1 s.bytes.now x.2.now x.0.now f.1 s.there c.checked_text-at-then-letter-eq111.ensures.reads).0

-- ---- values of other types

pub returns-in_default : goal.returns-in_default
returns-in_default c =
    let s = c.args.self in
    let f = text_some s.types.text.now s.types.valid (omega (arith, ap length c.in_ok-letter.ensures.cases.0)) in
    absurd (not_refused s.order f.0 s.types.text.now f.1 s.at s.bytes.now c.in_default.field-0 f.2.1 s.there (c.in_default.ensures.reads f.0 f.1 f.3))

pub invariant_of-types-2 : goal.invariant_of-types-2
invariant_of-types-2 c =
    let s = c.args.self in
    record { valid = (any_first s.types.text.now c.skip_type.result.now s.types.valid (omega (arith, ap length c.in_ok-letter.ensures.cases.0)) c.skip_type.ensures.rest).1.0 }

pub invariant_of-result-2 : goal.invariant_of-result-2
invariant_of-result-2 c =
    let s = c.args.self in
    let f = any_first s.types.text.now c.skip_type.result.now s.types.valid (omega (arith, ap length c.in_ok-letter.ensures.cases.0)) c.skip_type.ensures.rest in
    let v = shows_other f.0 c.skip_type.result.now s.types.text.now c.in_ok-letter.others.now c.in_ok-letter.letter.now s.order Truncated s.at c.in-Ok.at s.bytes.now c.in-Ok.bytes.now f.2 c.in_ok-letter.ensures.cases.0 c.if-letter-eq115.false c.if-letter-eq111.false (c.in-Ok.ensures.reads f.0 c.skip_type.result.now f.2) in
    record {
      room = omega (arith, c.in-Ok.ensures.place, s.room);
      there = (other_steps s.order f.0 s.types.text.now c.skip_type.result.now s.at c.in-Ok.at s.bytes.now c.in-Ok.bytes.now f.1.1 s.there v).1;
    }

pub returns : goal.returns
returns c =
    let s = c.args.self in
    let f = any_first s.types.text.now c.skip_type.result.now s.types.valid (omega (arith, ap length c.in_ok-letter.ensures.cases.0)) c.skip_type.ensures.rest in
    let v = shows_other f.0 c.skip_type.result.now s.types.text.now c.in_ok-letter.others.now c.in_ok-letter.letter.now s.order Truncated s.at c.in-Ok.at s.bytes.now c.in-Ok.bytes.now f.2 c.in_ok-letter.ensures.cases.0 c.if-letter-eq115.false c.if-letter-eq111.false (c.in-Ok.ensures.reads f.0 c.skip_type.result.now f.2) in
    (other_steps s.order f.0 s.types.text.now c.skip_type.result.now s.at c.in-Ok.at s.bytes.now c.in-Ok.bytes.now f.1.1 s.there v).0
