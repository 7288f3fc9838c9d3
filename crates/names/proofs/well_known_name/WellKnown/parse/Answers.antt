use Rattle.std.proofs.Common.{ap, subst}
use Rattle.names.specs.Texts.{Text}
use Rattle.std.specs.Prelude.{is_ok}
use Rattle.names.specs.WellKnown.{IsWellKnownName}
use Rattle.names.proofs.well_known_name.WellKnown.parse.Goals as goal

pub new-requires : goal.new-requires
new-requires c = let is : IsWellKnownName c.args.text.now = subst (λ (t : Text). IsWellKnownName t) c.as_bytes.ensures.value (c.check.ensures.variant.0 (ap is_ok c.in-Ok.is)) in is.0

pub invariant_of-result : goal.invariant_of-result
invariant_of-result c =
    let is : IsWellKnownName c.args.text.now = subst (λ (t : Text). IsWellKnownName t) c.as_bytes.ensures.value (c.check.ensures.variant.0 (ap is_ok c.in-Ok.is)) in
    let name_is : IsWellKnownName c.new.result = rw c.new.ensures is in
    name_is
