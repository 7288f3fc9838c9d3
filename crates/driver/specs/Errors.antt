-- The errors of the bus: their names, and the texts that they carry.
-- (D-Bus Specification: "Error names", "Message Bus Messages". The texts are this bus's own.)
use Rattle.std.specs.Prelude.{◌++◌, codes}
use Rattle.names.specs.Texts.{Text}
use Rattle.seq_bus_core.specs.declared.error_kind.ErrorKind.{ErrorKind}
use Rattle.seq_bus_core.specs.declared.error_kind.ErrorKind.TheVariants.{Failed, NoMemory, LimitsExceeded, AccessDenied, InvalidArgs, UnknownMethod, UnknownInterface, ServiceUnknown, NameHasNoOwner, MatchRuleInvalid, MatchRuleNotFound, TimedOut, ExecFailed, ChildExited, ChildSignaled}

abbrev pub last_part : ErrorKind → Text
last_part Failed = codes "Failed"
last_part NoMemory = codes "NoMemory"
last_part LimitsExceeded = codes "LimitsExceeded"
last_part AccessDenied = codes "AccessDenied"
last_part InvalidArgs = codes "InvalidArgs"
last_part UnknownMethod = codes "UnknownMethod"
last_part UnknownInterface = codes "UnknownInterface"
last_part ServiceUnknown = codes "ServiceUnknown"
last_part NameHasNoOwner = codes "NameHasNoOwner"
last_part MatchRuleInvalid = codes "MatchRuleInvalid"
last_part MatchRuleNotFound = codes "MatchRuleNotFound"
last_part TimedOut = codes "TimedOut"
last_part ExecFailed = codes "Spawn.ExecFailed"
last_part ChildExited = codes "Spawn.ChildExited"
last_part ChildSignaled = codes "Spawn.ChildSignaled"

abbrev pub error_name : ErrorKind → Text
error_name kind = codes "org.freedesktop.DBus.Error." ++ last_part kind

abbrev pub error_text : ErrorKind → Text
error_text Failed = codes "Not possible here"
error_text NoMemory = codes "Out of memory"
error_text LimitsExceeded = codes "A limit of the bus is reached"
error_text AccessDenied = codes "Not allowed"
error_text InvalidArgs = codes "Invalid arguments"
error_text UnknownMethod = codes "No such method"
error_text UnknownInterface = codes "No such interface"
error_text ServiceUnknown = codes "The name has no owner and no service"
error_text NameHasNoOwner = codes "The name has no owner"
error_text MatchRuleInvalid = codes "Invalid match rule"
error_text MatchRuleNotFound = codes "No such match rule"
error_text TimedOut = codes "The service did not take its name in time"
error_text ExecFailed = codes "The service could not be run"
error_text ChildExited = codes "The service exited with a failure"
error_text ChildSignaled = codes "The service was killed"
