-- What was served is handed out.
use Rattle.std.proofs.Common.{◌≡◌, ℕ, Bool, List, [], sym, ap, subst}
use Rattle.seq_bus_core.specs.Histories.{History}
use Rattle.router_core.specs.declared.action.Action.{Action}
use Rattle.router_core.specs.declared.event.Event.{Event}
use Rattle.router_core.specs.Acts.{State, Brings, world_of}
use Rattle.router_core.specs.Deeds.{GatedCall}
use Rattle.router_core.specs.Events.{occasion_of, script}
use Rattle.router_core.specs.Scripts.{World, Comes}
use Rattle.router_core.specs.Standing.{Standing}
use Rattle.router.specs.Tables.{Table}

abbrev pub state_of : {N G : Type 0} → Table N G → State G
state_of t = record { standing = t.standing; next_key = t.keys.next; view = t.work.world.view; gate = t.work.world.gate }

module _ {N G : Type 0} (told : N → History) (registry_of : N → ℕ) (passes : G → GatedCall → G → Type 0) (alone : Bool) (event : Event N) (s t u : Table N G) (actions : List (Action N)) where
  pub brings : (now : State G) → state_of s ≡ now → s.work.world.actions ≡ [] →
      Comes told registry_of passes alone (script s.standing (occasion_of told event)) s.work.world t.standing t.work.world →
      u.standing ≡ t.standing → actions ≡ t.work.world.actions → u.work.world ≡ record t.work.world { actions = [] } →
      Brings told registry_of passes alone now event actions (state_of u)
  brings now is none comes standing taken rest =
      let w = s.work.world in
      let begun : w ≡ world_of (state_of s) = ap (λ done. let k : World N G = record w { actions = done } in k) none in
      let came = subst (λ (k : World N G). Comes told registry_of passes alone (script s.standing (occasion_of told event)) k t.standing t.work.world) begun comes in
      let stands = subst (λ (x : Standing). Comes told registry_of passes alone (script s.standing (occasion_of told event)) (world_of (state_of s)) x t.work.world) (sym standing) came in
      subst (λ (n : State G). Brings told registry_of passes alone n event actions (state_of u)) is
      (record { ends = t.work.world; comes = stands; view = ap (λ (k : World N G). k.view) rest; gate = ap (λ (k : World N G). k.gate) rest; done = taken })
