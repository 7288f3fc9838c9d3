-- Streams that a new engine serves behind a gate that lets each call pass.
use Rattle.std.proofs.Common.{◌≡◌, ℕ, false, Option, List, Result, Err, refl}
use Rattle.seq_bus_core.specs.Histories.{History}
use Rattle.bus_view.specs.Views.{Knowledge}
use Rattle.router_core.specs.Deeds.{GatedCall}
use Rattle.router_core.specs.declared.gate.OpenGate.{OpenGate}
use Rattle.busd_core.specs.declared.run_fault.RunFault.{RunFault}
use Rattle.busd_core.specs.declared.run_fault.RunFault.TheVariants as fault
use Rattle.busd_core.specs.Readings.{Reading}
use Rattle.busd_core.specs.Sessions.{new_engine, RunsAnew}
use Rattle.busd_core.proofs.Endings.{never_begins}

abbrev lets_pass : OpenGate → GatedCall → OpenGate → Type 0
lets_pass before call after = after ≡ before

abbrev pub Served : Knowledge → (r q : Option (List ℕ)) (n m : Option (List Reading)) (w v : Option (List ℕ)) → Result (Unit {0}) RunFault → Type 0
Served = RunsAnew (λ (told : History). told) lets_pass false

-- It did nothing.
pub never_served : (knows : Knowledge) (r : Option (List ℕ)) (n : Option (List Reading)) (w : Option (List ℕ)) → Served knows r r n n w w (Err fault.Memory)
never_served knows r n w =
    let before = new_engine knows (record {}) in
    (record {}, before, never_begins (λ (told : History). told) lets_pass false knows.seat 0 before r n w (refl, refl))
