use Rattle.std.proofs.Common.{◌≡◌, ◌<◌, ℕ, drop, arith, refl}
use Rattle.std.specs.Prelude.{Ok, Err, nat_lt, if◌then◌else◌}
use Rattle.std.proofs.lemmas.Bool.{lt-ltb}
use Rattle.message.specs.declared.fault.RelayFault.TheVariants.{TooLong}
use Rattle.message.specs.Layout.{fields_end as end_of, last_end}
use Rattle.message.proofs.Lines.{end_after}
use Rattle.message.proofs.layout.fields_end.Goals as goal

refused : (n : ℕ) → last_end < n → Err TooLong ≡ (if nat_lt last_end n then Err TooLong else Ok n)
refused n h = rw (lt-ltb last_end n h) refl

pub returns-then-end : goal.returns-then-end
returns-then-end c =
    let after = end_after c.loop-field.end (drop c.loop-field.field-index c.args.fields.now) in
    refused (end_of c.args.at c.args.fields.now) (omega (arith, after, c.loop-field.invariant.rest, c.if-end.true))
