-- The methods of the bus. (D-Bus Specification: "Message Bus Messages")
use Rattle.std.specs.Prelude.{Bool, ◌||◌, Option, Some, None, Result, Ok, Err, List, [], ◌∷◌, find, codes, if◌then◌else◌}
use Rattle.names.specs.Texts.{Text, text_eq}
use Rattle.names.specs.BusName.{bus_text}
use Rattle.marshal_core.specs.Signatures.{codes as signature_text}
use Rattle.message_core.specs.declared.header_field.HeaderField.TheVariants as field
use Rattle.message_core.specs.HeaderFields.{text_field}
use Rattle.message_core.specs.Messages.{Message}
use Rattle.driver.specs.declared.fault.DriverFault.{DriverFault}
use Rattle.driver.specs.declared.fault.DriverFault.TheVariants.{UnknownMethod, UnknownInterface, InvalidArgs}
use Rattle.driver.specs.declared.method.Method.{Method}
use Rattle.driver.specs.declared.method.Method.TheVariants.{Hello, RequestName, ReleaseName, GetNameOwner, NameHasOwner, ListNames, ListActivatableNames, ListQueuedOwners, AddMatch, RemoveMatch, StartServiceByName, BecomeMonitor}

abbrev pub methods : List Method
methods =
    Hello ∷ RequestName ∷ ReleaseName ∷ GetNameOwner ∷ NameHasOwner ∷ ListNames ∷ ListActivatableNames ∷ ListQueuedOwners ∷ AddMatch ∷ RemoveMatch ∷ StartServiceByName ∷ BecomeMonitor ∷ []

-- the member that names a method
abbrev pub member_of : Method → Text
member_of Hello = codes "Hello"
member_of RequestName = codes "RequestName"
member_of ReleaseName = codes "ReleaseName"
member_of GetNameOwner = codes "GetNameOwner"
member_of NameHasOwner = codes "NameHasOwner"
member_of ListNames = codes "ListNames"
member_of ListActivatableNames = codes "ListActivatableNames"
member_of ListQueuedOwners = codes "ListQueuedOwners"
member_of AddMatch = codes "AddMatch"
member_of RemoveMatch = codes "RemoveMatch"
member_of StartServiceByName = codes "StartServiceByName"
member_of BecomeMonitor = codes "BecomeMonitor"

abbrev pub bus_interface : Text
bus_interface = bus_text

abbrev pub monitoring_interface : Text
monitoring_interface = codes "org.freedesktop.DBus.Monitoring"

abbrev pub interface_of : Method → Text
interface_of BecomeMonitor = monitoring_interface
interface_of method = bus_interface

-- what a method takes
abbrev pub signature_of : Method → Text
signature_of Hello = codes ""
signature_of RequestName = codes "su"
signature_of ReleaseName = codes "s"
signature_of GetNameOwner = codes "s"
signature_of NameHasOwner = codes "s"
signature_of ListNames = codes ""
signature_of ListActivatableNames = codes ""
signature_of ListQueuedOwners = codes "s"
signature_of AddMatch = codes "s"
signature_of RemoveMatch = codes "s"
signature_of StartServiceByName = codes "su"
signature_of BecomeMonitor = codes "asu"

abbrev pub or_unknown : Option Method → Result Method DriverFault
or_unknown None = Err UnknownMethod
or_unknown (Some method) = Ok method

abbrev pub method_named : Option Text → Result Method DriverFault
method_named None = Err UnknownMethod
method_named (Some member) = or_unknown (find (λ method. text_eq member (member_of method)) methods)

abbrev pub if_of : Text → Result Method DriverFault → Result Method DriverFault
if_of interface (Err fault) = Err fault
if_of interface (Ok method) = if text_eq interface (interface_of method) then Ok method else Err UnknownMethod

-- the bus has two
abbrev pub is_bus_interface : Text → Bool
is_bus_interface interface = text_eq interface bus_interface || text_eq interface monitoring_interface

abbrev pub method_within : Text → Option Text → Result Method DriverFault
method_within interface member = if is_bus_interface interface then if_of interface (method_named member) else Err UnknownInterface

-- the interface may be missing
abbrev pub method_in : Option Text → Option Text → Result Method DriverFault
method_in None member = method_named member
method_in (Some interface) member = method_within interface member

abbrev pub if_signed : Text → Result Method DriverFault → Result Method DriverFault
if_signed signature (Err fault) = Err fault
if_signed signature (Ok method) = if text_eq signature (signature_of method) then Ok method else Err InvalidArgs

-- the method that a call to the bus calls
abbrev pub method_of : Message → Result Method DriverFault
method_of m = if_signed (signature_text m.types) (method_in (text_field field.Interface m.fields) (text_field field.Member m.fields))
