-- What is put together of a signal of the bus.
use Rattle.std.specs.Prelude.{Some, None, option_map}
use Rattle.names.specs.UniqueName.{unique_text}
use Rattle.seq_bus_core.specs.declared.signal.BusSignal.{BusSignal}
use Rattle.seq_bus_core.specs.declared.signal.BusSignal.TheVariants.{NameOwnerChanged, NameLost, NameAcquired}
use Rattle.audience.specs.declared.facts.SignalNames.{SignalNames}

-- the unique names that a signal speaks of, spelled: of two owners the old one first
abbrev pub names_of : BusSignal → SignalNames
names_of (NameOwnerChanged name old new) = record { first = option_map unique_text old; second = option_map unique_text new }
names_of (NameLost name owner) = record { first = Some (unique_text owner); second = None }
names_of (NameAcquired name owner) = record { first = Some (unique_text owner); second = None }
