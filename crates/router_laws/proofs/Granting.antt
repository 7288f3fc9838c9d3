-- Where nothing was refused, what went to a connection is a run of the bus of one thread.
use Rattle.std.proofs.Common.{ℕ, true, List, [], ◌∷◌, refl}
use Rattle.router_core.specs.Acts.{IsGranted}
use Rattle.router_core.specs.Events.{Occasion}
use Rattle.router_core.specs.OneThread.{IsRun, Rest, keys_after}
use Rattle.router_core.proofs.Grants.{granted_parts}
use Rattle.router_laws.specs.Turns.{AreServedBy, Turn, exchanges_of, run_bytes}

pub is_run : (opening : ℕ) (keys : List ℕ) (before after : Rest) (occasions : List Occasion) (turns : List Turn) →
    AreServedBy true before occasions turns after → IsGranted (exchanges_of turns) → IsRun opening keys before occasions (run_bytes opening keys occasions turns) after
is_run opening keys before after [] [] served granted = (refl, served)
is_run opening keys before after [] (turn ∷ turns) served granted = absurd served
is_run opening keys before after (occasion ∷ occasions) [] served granted = absurd served
is_run opening keys before after (occasion ∷ occasions) (turn ∷ turns) served granted =
    let now = keys_after occasion keys in
    let grants = granted_parts turn.asked (exchanges_of turns) granted in (
      turn.deeds,
      served.0,
      run_bytes opening now occasions turns,
      record { asked = turn.asked; served = served.1; granted = grants.0 },
      is_run opening now served.0 after occasions turns served.2 grants.1,
      refl,
    )
