use Rattle.names.specs.Interface.{interface_fault}
use Rattle.names.proofs.Faults.{none_interface, interface_none, ok_where}
use Rattle.names.proofs.interface_name.Interface.check.Goals as goal

pub returns-clause-variant : goal.returns-clause-variant
returns-clause-variant c = ok_where (interface_fault c.args.text.now) (none_interface c.args.text.now) (interface_none c.args.text.now) c.check.result c.check.ensures.fault
