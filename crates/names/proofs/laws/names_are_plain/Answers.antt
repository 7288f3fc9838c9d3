use Rattle.names.proofs.Plain.{bus_name_plain, namespace_plain, interface_plain, member_plain, object_path_plain}
use Rattle.names.proofs.laws.names_are_plain.Goals as goal

pub returns-clause-bus_names : goal.returns-clause-bus_names
returns-clause-bus_names c = bus_name_plain

pub returns-clause-namespaces : goal.returns-clause-namespaces
returns-clause-namespaces c = namespace_plain

pub returns-clause-interfaces : goal.returns-clause-interfaces
returns-clause-interfaces c = interface_plain

pub returns-clause-error_names : goal.returns-clause-error_names
returns-clause-error_names c = interface_plain

pub returns-clause-members : goal.returns-clause-members
returns-clause-members c = member_plain

pub returns-clause-object_paths : goal.returns-clause-object_paths
returns-clause-object_paths c = object_path_plain
