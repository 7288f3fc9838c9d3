-- The exit statuses of a program that serves a stream, and of one that serves a bus.
use Rattle.std.specs.Prelude.{ℕ}
use Rattle.busd_core.specs.declared.run_fault.RunFault.{RunFault}
use Rattle.busd_core.specs.declared.run_fault.RunFault.TheVariants as run
use Rattle.busd_core.specs.declared.serve_fault.ServeFault.{ServeFault}
use Rattle.busd_core.specs.declared.serve_fault.ServeFault.TheVariants as serve

abbrev pub run_status : RunFault → ℕ
run_status (run.Closed cause) = 3
run_status run.Input = 4
run_status run.Output = 4
run_status run.Memory = 5

abbrev pub serve_status : ServeFault → ℕ
serve_status serve.Address = 2
serve_status (serve.Keyring fault) = 4
serve_status (serve.Services file code) = 4
serve_status (serve.Device device) = 4
serve_status serve.Memory = 5
