use Rattle.std.proofs.Common.{arith}
use Rattle.message_core.proofs.Strings.{string_found}
use Rattle.message_core.proofs.basic_field.string.Goals as goal

pub returns-clause-some : goal.returns-clause-some
returns-clause-some c =
    string_found c.args.order c.args.bytes.now c.split_at.result.1.now c.split_at-2.result.0.now c.split_at-2.result.1.now c.number-length.result
    c.if-bytes-lt4.false (λ i. omega (arith, c.type_inv.bytes i)) c.number-length.ensures.value c.number-length.ensures.fits c.split_at.ensures.back c.if-rest-length.false
    c.split_at-2.ensures.front c.split_at-2.ensures.back c.if-end-ne0.false
