use Rattle.std.proofs.Common.{ap, subst}
use Rattle.names.specs.Texts.{Text}
use Rattle.std.specs.Prelude.{is_ok}
use Rattle.names.specs.Member.{IsMember}
use Rattle.names.proofs.member_name.Member.parse.Goals as goal

pub new-requires : goal.new-requires
new-requires c = let is : IsMember c.args.text.now = subst (λ (t : Text). IsMember t) c.as_bytes.ensures.value (c.check.ensures.variant.0 (ap is_ok c.in-Ok.is)) in is.0

pub invariant_of-result : goal.invariant_of-result
invariant_of-result c =
    let is : IsMember c.args.text.now = subst (λ (t : Text). IsMember t) c.as_bytes.ensures.value (c.check.ensures.variant.0 (ap is_ok c.in-Ok.is)) in
    let name_is : IsMember c.new.result = rw c.new.ensures is in
    name_is
