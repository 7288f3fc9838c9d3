-- The registry that a view is of stays, and what is carried is of it.
use Rattle.std.proofs.Common.{◌≡◌, ℕ, Bool, Option, List, [], ◌∷◌, ◌++◌, sym, ap, ◌∙◌, subst, append_assoc}
use Rattle.std.specs.List.{AllByRecursion}
use mathlib.Core.List.{append-nil}
use Rattle.seq_bus_core.specs.Histories.{History}
use Rattle.seq_bus_core.specs.declared.connection.Conn.{Conn}
use Rattle.seq_bus_core.specs.declared.signal.AddressedSignal.{AddressedSignal}
use Rattle.bus_view.specs.Views.{Knowledge}
use Rattle.outbox_core.specs.Deliveries.{deliveries_of}
use Rattle.router_core.specs.declared.action.Action.{Action}
use Rattle.router_core.specs.declared.action.Action.TheVariants.{Write, Put, Close, Run}
use Rattle.router_core.specs.Acts.{world_of}
use Rattle.router_core.specs.Deeds.{GatedCall, announcement, put_of, IsFurthest, CarriesFurthest, CarriesOwn}
use Rattle.router_core.specs.Events.{script, occasion_of}
use Rattle.bus_view.specs.declared.view.BusView.{Ghosts as BusView}
use Rattle.router_core.specs.declared.gate.Gate.{Ghosts as Gate}
use Rattle.router_core.specs.Laws.{NotesAreOwn}
use Rattle.router_core.specs.Scripts.{Script, Gives, Changing, ChangingAll, Asking, Routing, AskingPresence, Noting, Framing, Calling, Gating, Wanting, Requiring, Doing, Announcing, World, Comes}
use Rattle.router_core.proofs.Knowing.{home, registry_kept, change_home, changes_home, answer_home, verdict_home, present_home, note_home}

module _ {N : Type 0} (told : N → History) (registry_of : N → ℕ) (alone : Bool) (view : Knowledge) where
  own_of : (action : Action N) → CarriesFurthest told registry_of alone view action → CarriesOwn registry_of view.registry action
  own_of (Write key bytes) carries = tt
  own_of (Put to carried content) carries = carries.own
  own_of (Close key cause) carries = tt
  own_of (Run name start) carries = tt

  own_put : (carried : Option N) (s : AddressedSignal) (conns : List Conn) (later : List (Action N)) → IsFurthest told registry_of alone view carried →
      AllByRecursion (CarriesOwn registry_of view.registry) later → AllByRecursion (CarriesOwn registry_of view.registry) (put_of carried s conns ++ later)
  own_put carried s [] later furthest own = own
  own_put carried s (conn ∷ conns) later furthest own = (furthest.own, own)

  own_announced : (signals : List AddressedSignal) (carried : Option N) (later : List (Action N)) → IsFurthest told registry_of alone view carried →
      AllByRecursion (CarriesOwn registry_of view.registry) later → AllByRecursion (CarriesOwn registry_of view.registry) (announcement signals carried ++ later)
  own_announced [] carried later furthest own = own
  own_announced (s ∷ signals) carried later furthest own =
      let first = put_of carried s (deliveries_of s.to s.monitors) in
      subst (λ (all : List (Action N)). AllByRecursion (CarriesOwn registry_of view.registry) all) (sym (append_assoc first (announcement signals carried) later))
      (own_put carried s (deliveries_of s.to s.monitors) (announcement signals carried ++ later) furthest (own_announced signals carried later furthest own))

-- from one world to another the registry stayed, and what was done carries notes of it
record KeepsOwn {N G : Type 0} (registry_of : N → ℕ) (w v : World N G) : Type 0 where
  pub registry : v.view.registry ≡ w.view.registry
  pub actions : List (Action N)
  pub added : v.actions ≡ w.actions ++ actions
  pub own : AllByRecursion (CarriesOwn registry_of w.view.registry) actions

-- what does nothing, and leaves the view where it was
own_after : {N G : Type 0} (registry_of : N → ℕ) (w m v : World N G) → m.actions ≡ w.actions → home m.view ≡ home w.view → KeepsOwn registry_of m v → KeepsOwn registry_of w v
own_after {N = N} registry_of w m v acts same k =
    let registry = registry_kept w.view m.view same in
    record {
      registry = k.registry ∙ registry;
      actions = k.actions;
      added = k.added ∙ ap (λ (all : List (Action N)). all ++ k.actions) acts;
      own = subst (λ n. AllByRecursion (CarriesOwn registry_of n) k.actions) registry k.own;
    }

module _ {N G : Type 0} (told : N → History) (registry_of : N → ℕ) (passes : G → GatedCall → G → Type 0) (alone : Bool) {X : Type 0} (x : X) (v : World N G) where
  abbrev actions_of : World N G → List (Action N)
  actions_of w = w.actions

  keeps_own : (s : Script X) (w : World N G) → Comes told registry_of passes alone s w x v → KeepsOwn registry_of w v
  keeps_own (Gives y) w p = record {
    registry = ap (λ (z : World N G). z.view.registry) p.1;
    actions = [];
    added = ap actions_of p.1 ∙ sym (append-nil w.actions);
    own = tt;
  }
  keeps_own (Changing change goes_on) w p =
      own_after registry_of w p.1 v (ap actions_of p.2.rest) (change_home alone change p.0 w.view (p.1).view p.2.hears) (keeps_own (goes_on p.0) p.1 p.3)
  keeps_own (ChangingAll changes goes_on) w p =
      own_after registry_of w p.1 v (ap actions_of p.2.rest) (changes_home alone changes p.0 w.view (p.1).view p.2.hears) (keeps_own (goes_on p.0) p.1 p.3)
  keeps_own (Asking query goes_on) w p =
      own_after registry_of w p.1 v (ap actions_of p.2.rest) (answer_home alone query p.0 w.view (p.1).view p.2.hears) (keeps_own (goes_on p.0) p.1 p.3)
  keeps_own (Routing from facts goes_on) w p =
      own_after registry_of w p.1 v (ap actions_of p.2.rest) (verdict_home alone from facts p.0 w.view (p.1).view p.2.hears) (keeps_own (goes_on p.0) p.1 p.3)
  keeps_own (AskingPresence number goes_on) w p =
      own_after registry_of w p.1 v (ap actions_of p.2.rest) (present_home alone number p.0 w.view (p.1).view p.2.hears) (keeps_own (goes_on p.0) p.1 p.3)
  keeps_own (Noting history s) w p =
      own_after registry_of w p.0 v (ap actions_of p.1.rest) (note_home alone history w.view (p.0).view p.1.noted) (keeps_own s p.0 p.2)
  keeps_own (Framing bytes goes_on) w p = keeps_own (goes_on p.0) w p.2
  keeps_own (Calling m goes_on) w p = keeps_own (goes_on p.0) w p.2
  keeps_own (Gating call s) w p =
      own_after registry_of w p.0 v (ap actions_of p.1.rest) (ap (λ (z : World N G). home z.view) p.1.rest) (keeps_own s p.0 p.2)
  keeps_own (Wanting goes_on) w p = keeps_own (goes_on p.0) w p.1
  keeps_own (Requiring holds s) w p = keeps_own s w p.1
  keeps_own (Doing deed s) w p =
      let k = keeps_own s p.0 p.2 in
      let registry = ap (λ (z : World N G). z.view.registry) p.1.rest in
      record {
        registry = k.registry ∙ registry;
        actions = p.1.action ∷ k.actions;
        added = k.added ∙ ap (λ (z : World N G). z.actions ++ k.actions) p.1.rest ∙ append_assoc w.actions (p.1.action ∷ []) k.actions;
        own = (own_of told registry_of alone w.view p.1.action p.1.carries, subst (λ n. AllByRecursion (CarriesOwn registry_of n) k.actions) registry k.own);
      }
  keeps_own (Announcing signals s) w p =
      let k = keeps_own s p.0 p.2 in
      let registry = ap (λ (z : World N G). z.view.registry) p.1.rest in
      record {
        registry = k.registry ∙ registry;
        actions = announcement signals p.1.note ++ k.actions;
        added = k.added ∙ ap (λ (z : World N G). z.actions ++ k.actions) p.1.rest ∙ append_assoc w.actions (announcement signals p.1.note) k.actions;
        own = own_announced told registry_of alone w.view signals p.1.note k.actions p.1.carries (subst (λ n. AllByRecursion (CarriesOwn registry_of n) k.actions) registry k.own);
      }

pub notes_are_own : {V N R G : Type 0} (view : BusView V N R) (gate : Gate G) → NotesAreOwn view gate
notes_are_own view gate before after event actions brings =
    let k = keeps_own view.told view.registry_of gate.passes view.alone after.standing brings.ends (script before.standing (occasion_of view.told event)) (world_of before) brings.comes in (
      ap (λ (known : Knowledge). known.registry) brings.view ∙ k.registry,
      subst (λ all. AllByRecursion (CarriesOwn view.registry_of before.view.registry) all) (sym (brings.done ∙ k.added)) k.own,
    )
