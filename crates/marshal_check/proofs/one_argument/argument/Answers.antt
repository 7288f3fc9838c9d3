use Rattle.std.proofs.lemmas.Result.{err_from_is_err_and}
use Rattle.marshal_core.specs.declared.fault.MarshalFault.TheVariants.{Truncated}
use Rattle.marshal_check.proofs.Skipping.{not_empty}
use Rattle.marshal_check.proofs.Shown.{shows_other, shows_string, string_fault, shows_path, path_fault}
use Rattle.marshal_check.proofs.one_argument.argument.Goals as goal

pub returns-in_default-clause-reads : goal.returns-in_default-clause-reads
returns-in_default-clause-reads g c = λ u tail e. absurd (not_empty u tail c.args.of.now e c.in_default.ensures.cases)

pub returns-in_err-text-clause-reads : goal.returns-in_err-text-clause-reads
returns-in_err-text-clause-reads g c = λ u tail e.
    let p = err_from_is_err_and c.from_residual.result c.from_residual.ensures.1 in
    rw (p.1, p.2) (string_fault u tail c.args.of.now c.in-Some.field-0-1.now c.in-Some.first.now g.O.Endian.order Truncated c.in_err-text.field-0.0 c.args.at c.args.bytes.now e c.in-Some.ensures.cases.0 c.if-first-eq115.true c.in_err-text.ensures.reads)

pub returns-then-first-eq115-clause-reads : goal.returns-then-first-eq115-clause-reads
returns-then-first-eq115-clause-reads g c = λ u tail e.
    shows_string u tail c.args.of.now c.in-Some.field-0-1.now c.in-Some.first.now g.O.Endian.order Truncated c.args.at c.in_ok-text.at c.args.bytes.now c.in_ok-text.text.now c.in_ok-text.rest.now e c.in-Some.ensures.cases.0 c.if-first-eq115.true c.in_ok-text.ensures.reads

pub returns-in_err-text-2-clause-reads : goal.returns-in_err-text-2-clause-reads
returns-in_err-text-2-clause-reads g c = λ u tail e.
    let p = err_from_is_err_and c.from_residual-in_err-text-2.result c.from_residual-in_err-text-2.ensures.1 in
    rw (p.1, p.2) (path_fault u tail c.args.of.now c.in-Some.field-0-1.now c.in-Some.first.now g.O.Endian.order Truncated c.in_err-text-2.field-0.0 c.args.at c.args.bytes.now e c.in-Some.ensures.cases.0 c.if-first-eq111.true c.in_err-text-2.ensures.reads)

pub returns-then-first-eq111-clause-reads : goal.returns-then-first-eq111-clause-reads
returns-then-first-eq111-clause-reads g c = λ u tail e.
    shows_path u tail c.args.of.now c.in-Some.field-0-1.now c.in-Some.first.now g.O.Endian.order Truncated c.args.at c.in_ok-text-2.at c.args.bytes.now c.in_ok-text-2.text.now c.in_ok-text-2.rest.now e c.in-Some.ensures.cases.0 c.if-first-eq111.true c.in_ok-text-2.ensures.reads

pub returns-clause-reads : goal.returns-clause-reads
returns-clause-reads g c = λ u tail e.
    shows_other u tail c.args.of.now c.in-Some.field-0-1.now c.in-Some.first.now g.O.Endian.order Truncated c.args.at c.in_ok-at.at c.args.bytes.now c.in_ok-at.rest.now e c.in-Some.ensures.cases.0 c.if-first-eq115.false c.if-first-eq111.false (c.in_ok-at.ensures.reads u tail e)
