use Rattle.std.proofs.Common.{refl, sym, ◌∙◌}
use Rattle.marshal_core.specs.Values.{an_object_path}
use Rattle.message_core.proofs.Strings.{string_taken}
use Rattle.message_core.proofs.NamesInFields.{string_of_path}
use Rattle.message_core.proofs.Absent.{refuted, no_path_taken}
use Rattle.message_core.proofs.basic_field.path_value.Goals as goal

pub returns-then-is_ok-clause-some : goal.returns-then-is_ok-clause-some
returns-then-is_ok-clause-some c =
    let text = c.in_ok-text.text.now in
    let found = c.in_ok-text.ensures.some in
    let path = c.check.ensures.variant.0 (sym c.is_ok.ensures.value ∙ c.if-is_ok.true) in
    let taken = string_taken c.args.order text found.1 c.args.bytes.now found.2 in
    record {
      value = an_object_path text;
      typed = refl;
      takes = record { is_value = (string_of_path text found.0 path, path); taken = c.in-Path.is };
      within = taken.0;
      spelled = taken.1;
    }

pub returns-clause-none : goal.returns-clause-none
returns-clause-none c =
    let found = c.in_ok-text.ensures.some in
    no_path_taken c.args.order c.args.field c.args.bytes.now c.in_ok-text.text.now found.1 found.0 found.2 (refuted c.is_ok.result c.if-is_ok.false (λ k. c.is_ok.ensures.value ∙ c.check.ensures.variant.1 k))
