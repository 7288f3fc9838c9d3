-- The numbers of the faults for which a registry is not opened.
use Rattle.std.specs.Prelude.{ℕ}
use Rattle.registry_snapshots.specs.declared.refusal.StartFault.{StartFault}
use Rattle.registry_snapshots.specs.declared.refusal.StartFault.TheVariants.{NoMemory, Routers, Services}

abbrev pub fault_code : StartFault → ℕ
fault_code NoMemory = 57
fault_code Routers = 58
fault_code Services = 59
