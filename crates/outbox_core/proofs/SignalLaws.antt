-- What rules see of the signals of the bus.
use Rattle.std.proofs.Common.{None, Some, refl}
use Rattle.seq_bus_core.specs.declared.signal.BusSignal.TheVariants.{NameOwnerChanged, NameLost, NameAcquired}
use Rattle.outbox_core.specs.Signals.{SignalsAreTestedAsWritten}

pub signals_are_tested_as_written : SignalsAreTestedAsWritten
signals_are_tested_as_written serial (NameOwnerChanged name None None) = refl
signals_are_tested_as_written serial (NameOwnerChanged name None (Some new)) = refl
signals_are_tested_as_written serial (NameOwnerChanged name (Some old) None) = refl
signals_are_tested_as_written serial (NameOwnerChanged name (Some old) (Some new)) = refl
signals_are_tested_as_written serial (NameLost name owner) = refl
signals_are_tested_as_written serial (NameAcquired name owner) = refl
