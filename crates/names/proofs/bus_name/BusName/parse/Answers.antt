use Rattle.std.proofs.Common.{ap, subst}
use Rattle.names.specs.Texts.{Text}
use Rattle.std.specs.Prelude.{is_ok}
use Rattle.names.specs.BusName.{IsBusName}
use Rattle.names.proofs.Faults.{short_bus_name}
use Rattle.names.proofs.bus_name.BusName.parse.Goals as goal

pub new-requires : goal.new-requires
new-requires c = short_bus_name c.args.text.now (subst (λ (t : Text). IsBusName t) c.as_bytes.ensures.value (c.check.ensures.variant.0 (ap is_ok c.in-Ok.is)))

pub invariant_of-result : goal.invariant_of-result
invariant_of-result c =
    let is : IsBusName c.args.text.now = subst (λ (t : Text). IsBusName t) c.as_bytes.ensures.value (c.check.ensures.variant.0 (ap is_ok c.in-Ok.is)) in
    let name_is : IsBusName c.new.result = rw c.new.ensures is in
    name_is
