use Rattle.std.proofs.Common.{refl, inr}
use Rattle.names.specs.BusName.{bus_text, IsBusName}
use Rattle.names.specs.WellKnown.{IsWellKnownName}
use Rattle.names.proofs.Faults.{none_well_known}
use Rattle.names.proofs.bus_name.BusName.bus.Goals as goal

pub invariant_of-result : goal.invariant_of-result
invariant_of-result c =
    let name : IsWellKnownName bus_text = none_well_known bus_text refl in
    let is : IsBusName bus_text = inr name in
    rw c.joined.ensures is
