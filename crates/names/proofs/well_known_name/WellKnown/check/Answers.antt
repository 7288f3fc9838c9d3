use Rattle.names.specs.WellKnown.{well_known_fault}
use Rattle.names.proofs.Faults.{none_well_known, well_known_none, ok_where}
use Rattle.names.proofs.well_known_name.WellKnown.check.Goals as goal

pub returns-clause-variant : goal.returns-clause-variant
returns-clause-variant c = ok_where (well_known_fault c.args.text.now) (none_well_known c.args.text.now) (well_known_none c.args.text.now) c.check.result c.check.ensures.fault
