use Rattle.std.proofs.Common.{ap, subst}
use Rattle.names.specs.Texts.{Text}
use Rattle.std.specs.Prelude.{is_ok}
use Rattle.names.specs.Interface.{IsInterface}
use Rattle.names.proofs.interface_name.Interface.parse.Goals as goal

pub new-requires : goal.new-requires
new-requires c = let is : IsInterface c.args.text.now = subst (λ (t : Text). IsInterface t) c.as_bytes.ensures.value (c.check.ensures.variant.0 (ap is_ok c.in-Ok.is)) in is.0

pub invariant_of-result : goal.invariant_of-result
invariant_of-result c =
    let is : IsInterface c.args.text.now = subst (λ (t : Text). IsInterface t) c.as_bytes.ensures.value (c.check.ensures.variant.0 (ap is_ok c.in-Ok.is)) in
    let name_is : IsInterface c.new.result = rw c.new.ensures is in
    name_is
