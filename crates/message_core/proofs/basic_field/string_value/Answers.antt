use Rattle.std.proofs.Common.{refl}
use Rattle.marshal_core.specs.Values.{a_string}
use Rattle.message_core.proofs.Strings.{string_taken}
use Rattle.message_core.proofs.NamesInFields.{string_of_field}
use Rattle.message_core.proofs.Absent.{refuted, no_string_taken}
use Rattle.message_core.proofs.basic_field.string_value.Goals as goal

pub returns-then-takes_string-clause-some : goal.returns-then-takes_string-clause-some
returns-then-takes_string-clause-some c =
    let text = c.in_ok-text.text.now in
    let found = c.in_ok-text.ensures.some in
    let taken = string_taken c.args.order text found.1 c.args.bytes.now found.2 in
    record {
      value = a_string text;
      typed = refl;
      takes = record { is_value = string_of_field c.args.field text found.0 (c.takes_string.ensures.0 c.if-takes_string.true); taken = c.takes_string.ensures.0 c.if-takes_string.true };
      within = taken.0;
      spelled = taken.1;
    }

pub returns-clause-none : goal.returns-clause-none
returns-clause-none c =
    let found = c.in_ok-text.ensures.some in
    no_string_taken c.args.order c.args.field c.args.bytes.now c.in_ok-text.text.now found.1 found.0 found.2 (refuted c.takes_string.result c.if-takes_string.false c.takes_string.ensures.1)
