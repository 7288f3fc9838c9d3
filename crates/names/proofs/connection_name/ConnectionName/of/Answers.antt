use Rattle.std.proofs.Common.{◌≡◌, arith}
use Rattle.names.specs.UniqueName.{IsUniqueName, unique_text}
use Rattle.names.proofs.Faults.{unique_text_name}
use Rattle.names.proofs.connection_name.ConnectionName.of.Goals as goal

pub invariant_of-result : goal.invariant_of-result
invariant_of-result c =
    let is : c.joined.result ≡ unique_text c.args.number = rw c.format.ensures.text at c.joined.ensures in
    let name_is : IsUniqueName c.joined.result = rw is (unique_text_name c.args.number (omega arith)) in
    name_is
