-- Streams over the same input are served alike, however it was cut.
use Rattle.std.specs.Prelude.{◌≡◌, ℕ, Bool, true, List, ◌++◌}
use Rattle.seq_bus_core.specs.Histories.{History}
use Rattle.bus_view.specs.declared.view.BusView.{Ghosts as BusView}
use Rattle.router_core.specs.declared.event.Event.TheVariants.{Closed}
use Rattle.router_core.specs.declared.gate.Gate.{Ghosts as Gate}
use Rattle.router_core.specs.Acts.{Exchange, IsGranted, State}
use Rattle.router_core.specs.Deeds.{GatedCall}
use Rattle.router.specs.OneEvent.{rest_in}
use Rattle.busd_core.specs.Happenings.{Happens, mails_of, asked_mailed}
use Rattle.busd_core.specs.Sessions.{Goes, asked_in}

module _ {N G : Type 0} (told : N → History) (passes : G → GatedCall → G → Type 0) (alone : Bool) (seat key : ℕ) where
  -- what was asked and answered at one event, and at the mail that it brought
  abbrev pub exchanges_at : {before after : State G} {written : List ℕ} → Happens told passes alone seat key before (Closed key) written after → List Exchange
  exchanges_at {after = after} happens =
      happens.serves.served.asked ++ asked_mailed told passes alone seat key happens.between (mails_of seat happens.actions) happens.later after happens.mailed

  -- all that was asked and answered, until the connection was gone
  abbrev pub exchanges_until_gone : {before after : State G} {read written : List ℕ} → Goes told passes alone seat key before read written after → List Exchange
  exchanges_until_gone goes = asked_in told passes alone seat key goes.serves ++ exchanges_at goes.goes

-- Two streams of a connection that end with the same input, whatever gates are shown the calls. Where nobody else makes changes of the bus
-- and nothing is refused, the same is written for them, and the same connections and what the views know are left.
abbrev pub StreamsAgree : {V N R G H : Type 0} → BusView V N R → Gate G → Gate H → Type 0
StreamsAgree {G = G} {H = H} view gate others = (seat key : ℕ) (before after : State G) (start end : State H) (read written wrote : List ℕ)
    (one : Goes view.told gate.passes view.alone seat key before read written after) (other : Goes view.told others.passes view.alone seat key start read wrote end) →
    view.alone ≡ true → rest_in before ≡ rest_in start →
    IsGranted (exchanges_until_gone view.told gate.passes view.alone seat key one) → IsGranted (exchanges_until_gone view.told others.passes view.alone seat key other) →
    (written ≡ wrote) × (rest_in after ≡ rest_in end)
