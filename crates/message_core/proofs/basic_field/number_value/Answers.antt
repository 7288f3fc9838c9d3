use Rattle.std.proofs.Common.{arith, refl, sym, ap, ◌∙◌}
use Rattle.std.specs.Int.{w32}
use Rattle.marshal_core.specs.Values.{a_uint32}
use Rattle.marshal_core.specs.Spelling.{number_bytes}
use Rattle.message_core.proofs.Strings.{number_spelled}
use Rattle.message_core.proofs.basic_field.number_value.Goals as goal

pub returns-then-takes_number-clause-some : goal.returns-then-takes_number-clause-some
returns-then-takes_number-clause-some c = record {
  value = a_uint32 c.number.result;
  typed = refl;
  takes = record { is_value = c.number.ensures.fits; taken = c.takes_number.ensures.0 c.if-takes_number.true };
  within = c.if-bytes-lt4.false;
  spelled = sym (number_spelled c.args.order c.args.bytes.now c.if-bytes-lt4.false (λ i. omega (arith, c.type_inv.bytes i))) ∙ ap (number_bytes c.args.order w32) (sym c.number.ensures.value);
}
