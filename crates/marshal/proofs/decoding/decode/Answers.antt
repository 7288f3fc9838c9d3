use Rattle.std.proofs.Common.{arith, subst}
use Rattle.marshal_core.specs.Types.{types_of}
use Rattle.marshal_core.specs.Values.{values_of}
use Rattle.marshal_core.specs.Faults.{Gives}
use Rattle.marshal.proofs.Numbers.{AllBytes-from_index}
use Rattle.marshal.proofs.Decoded.{found, is_read}
use Rattle.marshal.proofs.decoding.decode.Goals as goal

pub returns-clause-found : goal.returns-clause-found
returns-clause-found c = found c.args.order (types_of c.args.signature.now.types.items) c.args.offset c.args.bytes.now c.all_values.result c.args.signature.now.valid (AllBytes-from_index c.args.bytes.now (λ i. omega (arith, c.type_inv.bytes i)))
    (rw (← c.deref.ensures.value) c.all_values.ensures)

pub returns-clause-only : goal.returns-clause-only
returns-clause-only c = λ vs front rest e h. subst (λ f. Gives (λ x. (values_of x.0.items, x.1)) c.all_values.result f) (is_read c.args.order (types_of c.args.signature.now.types.items) c.args.offset c.args.bytes.now front rest vs e h) (rw (← c.deref.ensures.value) c.all_values.ensures)
