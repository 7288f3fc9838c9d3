-- What comes of a script, as a list of what was asked and answered.
use Rattle.std.proofs.Common.{◌≡◌, ℕ, Bool, Option, List, [], ◌∷◌, ◌++◌, refl, sym, ap, ◌∙◌, subst, append_assoc}
use mathlib.Core.List.{append-nil}
use Rattle.seq_bus_core.specs.Histories.{History}
use Rattle.seq_bus_core.specs.declared.connection.Conn.{Conn}
use Rattle.seq_bus_core.specs.declared.signal.AddressedSignal.{AddressedSignal}
use Rattle.outbox_core.specs.Contents.{Tells, Signals}
use Rattle.outbox_core.specs.Deliveries.{deliveries_of}
use Rattle.router_core.specs.declared.action.Action.{Action}
use Rattle.router_core.specs.Acts.{Exchange, Changed, ChangedAll, Asked, Routed, AskedPresence, Noted, Framed, Called, Gated, Wanted, Goes, IsLawful, gated_calls, world_of}
use Rattle.router_core.specs.Deeds.{Deed, GatedCall, PassesAll, Puts, puts_of_signals, announcement, put_of, put_to, AreDoneBy}
use Rattle.router_core.specs.Events.{script, occasion_of}
use Rattle.bus_view.specs.declared.view.BusView.{Ghosts as BusView}
use Rattle.router_core.specs.declared.gate.Gate.{Ghosts as Gate}
use Rattle.router_core.specs.Laws.{AnswersAreLawful}
use Rattle.router_core.specs.Scripts.{Script, Gives, Changing, ChangingAll, Asking, Routing, AskingPresence, Noting, Framing, Calling, Gating, Wanting, Requiring, Doing, Announcing, World, Comes, knowing}
use Rattle.router_core.proofs.Knowing.{seat_kept, change_home, changes_home, answer_home, verdict_home, present_home, note_home}

-- ## Deeds of actions

more_put : {N : Type 0} (note : Option N) (s : AddressedSignal) (conns : List Conn) → conns ≡ deliveries_of s.to s.monitors → (actions : List (Action N)) (later : List Deed) → AreDoneBy actions later →
    AreDoneBy (put_of note s conns ++ actions) (put_to conns (Tells (Signals s.signal)) ++ later)
more_put note s [] is actions later done = done
more_put note s (conn ∷ conns) is actions later done = (Puts (conn ∷ conns) (Tells (Signals s.signal)), later, ap (λ (all : List Conn). Puts all (Tells (Signals s.signal))) is, done, refl)

more_announced : {N : Type 0} (signals : List AddressedSignal) (note : Option N) (actions : List (Action N)) (later : List Deed) → AreDoneBy actions later → AreDoneBy (announcement signals note ++ actions) (puts_of_signals signals ++ later)
more_announced [] carried actions later done = done
more_announced {N = N} (s ∷ signals) carried actions later done =
    let first = put_of carried s (deliveries_of s.to s.monitors) in
    let put = put_to (deliveries_of s.to s.monitors) (Tells (Signals s.signal)) in
    subst (λ (all : List (Action N)). AreDoneBy all ((put ++ puts_of_signals signals) ++ later)) (sym (append_assoc first (announcement signals carried) actions))
    (subst (λ (all : List Deed). AreDoneBy (first ++ (announcement signals carried ++ actions)) all) (sym (append_assoc put (puts_of_signals signals) later))
    (more_put carried s (deliveries_of s.to s.monitors) refl (announcement signals carried ++ actions) (puts_of_signals signals ++ later) (more_announced signals carried actions later done)))

-- ## Scripts

pub record Listed {N G : Type 0} (passes : G → GatedCall → G → Type 0) (alone : Bool) {X : Type 0} (s : Script X) (w : World N G) (x : X) (v : World N G) : Type 0 where
  pub asked : List Exchange
  pub deeds : List Deed
  pub actions : List (Action N)
  pub goes : Goes s asked deeds x
  pub lawful : IsLawful alone w.view asked v.view
  pub done : AreDoneBy actions deeds
  pub added : v.actions ≡ w.actions ++ actions
  pub shown : PassesAll passes w.gate (gated_calls w.view.seat asked) v.gate

snoc : {A : Type 0} (all before later x : List A) → all ≡ (before ++ x) ++ later → all ≡ before ++ (x ++ later)
snoc all before later x e = e ∙ append_assoc before x later

-- what follows a call of the bus, which leaves the gate and the actions
module _ {N G : Type 0} (passes : G → GatedCall → G → Type 0) (w m v : World N G) (rest : m ≡ knowing w m.view) where
  kept_actions : (actions : List (Action N)) → v.actions ≡ m.actions ++ actions → v.actions ≡ w.actions ++ actions
  kept_actions actions e = e ∙ ap (λ (z : World N G). z.actions ++ actions) rest

  kept_gate : (asked : List Exchange) → m.view.seat ≡ w.view.seat → PassesAll passes m.gate (gated_calls m.view.seat asked) v.gate → PassesAll passes w.gate (gated_calls w.view.seat asked) v.gate
  kept_gate asked same h =
      subst (λ n. PassesAll passes w.gate (gated_calls n asked) v.gate) same
      (subst (λ (z : World N G). PassesAll passes z.gate (gated_calls m.view.seat asked) v.gate) rest h)

pub listed : {N G : Type 0} (told : N → History) (registry_of : N → ℕ) (passes : G → GatedCall → G → Type 0) (alone : Bool) {X : Type 0} (s : Script X) (w : World N G) (x : X) (v : World N G) → Comes told registry_of passes alone s w x v → Listed passes alone s w x v
listed {N = N} {G = G} told registry_of passes alone (Gives y) w x v p = record {
  asked = [];
  deeds = [];
  actions = [];
  goes = (refl, refl, p.0);
  lawful = ap (λ (z : World N G). z.view) p.1;
  done = refl;
  added = ap (λ (z : World N G). z.actions) p.1 ∙ sym (append-nil w.actions);
  shown = ap (λ (z : World N G). z.gate) p.1;
}
listed told registry_of passes alone (Changing change goes_on) w x v p =
    let l = listed told registry_of passes alone (goes_on p.0) p.1 x v p.3 in
    record {
      asked = Changed change p.0 ∷ l.asked;
      deeds = l.deeds;
      actions = l.actions;
      goes = (p.0, l.asked, refl, l.goes);
      lawful = ((p.1).view, p.2.hears, l.lawful);
      done = l.done;
      added = kept_actions passes w p.1 v p.2.rest l.actions l.added;
      shown = kept_gate passes w p.1 v p.2.rest l.asked (seat_kept w.view (p.1).view (change_home alone change p.0 w.view (p.1).view p.2.hears)) l.shown;
    }
listed told registry_of passes alone (ChangingAll changes goes_on) w x v p =
    let l = listed told registry_of passes alone (goes_on p.0) p.1 x v p.3 in
    record {
      asked = ChangedAll changes p.0 ∷ l.asked;
      deeds = l.deeds;
      actions = l.actions;
      goes = (p.0, l.asked, refl, l.goes);
      lawful = ((p.1).view, p.2.hears, l.lawful);
      done = l.done;
      added = kept_actions passes w p.1 v p.2.rest l.actions l.added;
      shown = kept_gate passes w p.1 v p.2.rest l.asked (seat_kept w.view (p.1).view (changes_home alone changes p.0 w.view (p.1).view p.2.hears)) l.shown;
    }
listed told registry_of passes alone (Asking query goes_on) w x v p =
    let l = listed told registry_of passes alone (goes_on p.0) p.1 x v p.3 in
    record {
      asked = Asked query p.0 ∷ l.asked;
      deeds = l.deeds;
      actions = l.actions;
      goes = (p.0, l.asked, refl, l.goes);
      lawful = ((p.1).view, p.2.hears, l.lawful);
      done = l.done;
      added = kept_actions passes w p.1 v p.2.rest l.actions l.added;
      shown = kept_gate passes w p.1 v p.2.rest l.asked (seat_kept w.view (p.1).view (answer_home alone query p.0 w.view (p.1).view p.2.hears)) l.shown;
    }
listed told registry_of passes alone (Routing from facts goes_on) w x v p =
    let l = listed told registry_of passes alone (goes_on p.0) p.1 x v p.3 in
    record {
      asked = Routed from facts p.0 ∷ l.asked;
      deeds = l.deeds;
      actions = l.actions;
      goes = (p.0, l.asked, refl, l.goes);
      lawful = ((p.1).view, p.2.hears, l.lawful);
      done = l.done;
      added = kept_actions passes w p.1 v p.2.rest l.actions l.added;
      shown = kept_gate passes w p.1 v p.2.rest l.asked (seat_kept w.view (p.1).view (verdict_home alone from facts p.0 w.view (p.1).view p.2.hears)) l.shown;
    }
listed told registry_of passes alone (AskingPresence number goes_on) w x v p =
    let l = listed told registry_of passes alone (goes_on p.0) p.1 x v p.3 in
    record {
      asked = AskedPresence number p.0 ∷ l.asked;
      deeds = l.deeds;
      actions = l.actions;
      goes = (p.0, l.asked, refl, l.goes);
      lawful = ((p.1).view, p.2.hears, l.lawful);
      done = l.done;
      added = kept_actions passes w p.1 v p.2.rest l.actions l.added;
      shown = kept_gate passes w p.1 v p.2.rest l.asked (seat_kept w.view (p.1).view (present_home alone number p.0 w.view (p.1).view p.2.hears)) l.shown;
    }
listed told registry_of passes alone (Noting history s) w x v p =
    let l = listed told registry_of passes alone s p.0 x v p.2 in
    record {
      asked = Noted history ∷ l.asked;
      deeds = l.deeds;
      actions = l.actions;
      goes = (l.asked, refl, l.goes);
      lawful = ((p.0).view, p.1.noted, l.lawful);
      done = l.done;
      added = kept_actions passes w p.0 v p.1.rest l.actions l.added;
      shown = kept_gate passes w p.0 v p.1.rest l.asked (seat_kept w.view (p.0).view (note_home alone history w.view (p.0).view p.1.noted)) l.shown;
    }
listed told registry_of passes alone (Framing bytes goes_on) w x v p =
    let l = listed told registry_of passes alone (goes_on p.0) w x v p.2 in
    record {
      asked = Framed bytes p.0 ∷ l.asked;
      deeds = l.deeds;
      actions = l.actions;
      goes = (p.0, l.asked, refl, l.goes);
      lawful = (p.1, l.lawful);
      done = l.done;
      added = l.added;
      shown = l.shown;
    }
listed told registry_of passes alone (Calling m goes_on) w x v p =
    let l = listed told registry_of passes alone (goes_on p.0) w x v p.2 in
    record {
      asked = Called m p.0 ∷ l.asked;
      deeds = l.deeds;
      actions = l.actions;
      goes = (p.0, l.asked, refl, l.goes);
      lawful = (p.1, l.lawful);
      done = l.done;
      added = l.added;
      shown = l.shown;
    }
listed {N = N} {G = G} told registry_of passes alone (Gating call s) w x v p =
    let l = listed told registry_of passes alone s p.0 x v p.2 in
    let seat : (p.0).view.seat ≡ w.view.seat = ap (λ (z : World N G). z.view.seat) p.1.rest in
    record {
      asked = Gated w.view.seen call ∷ l.asked;
      deeds = l.deeds;
      actions = l.actions;
      goes = (w.view.seen, l.asked, refl, l.goes);
      lawful = (refl, subst (λ (z : World N G). IsLawful alone z.view l.asked v.view) p.1.rest l.lawful);
      done = l.done;
      added = l.added ∙ ap (λ (z : World N G). z.actions ++ l.actions) p.1.rest;
      shown = ((p.0).gate, p.1.shown, subst (λ n. PassesAll passes (p.0).gate (gated_calls n l.asked) v.gate) seat l.shown);
    }
listed told registry_of passes alone (Wanting goes_on) w x v p =
    let l = listed told registry_of passes alone (goes_on p.0) w x v p.1 in
    record {
      asked = Wanted p.0 ∷ l.asked;
      deeds = l.deeds;
      actions = l.actions;
      goes = (p.0, l.asked, refl, l.goes);
      lawful = l.lawful;
      done = l.done;
      added = l.added;
      shown = l.shown;
    }
listed told registry_of passes alone (Requiring holds s) w x v p =
    let l = listed told registry_of passes alone s w x v p.1 in
    record {
      asked = l.asked;
      deeds = l.deeds;
      actions = l.actions;
      goes = (p.0, l.goes);
      lawful = l.lawful;
      done = l.done;
      added = l.added;
      shown = l.shown;
    }
listed {N = N} {G = G} told registry_of passes alone (Doing deed s) w x v p =
    let l = listed told registry_of passes alone s p.0 x v p.2 in
    record {
      asked = l.asked;
      deeds = deed ∷ l.deeds;
      actions = p.1.action ∷ l.actions;
      goes = (l.deeds, refl, l.goes);
      lawful = subst (λ (z : World N G). IsLawful alone z.view l.asked v.view) p.1.rest l.lawful;
      done = (deed, l.deeds, p.1.done, l.done, refl);
      added = snoc v.actions w.actions l.actions (p.1.action ∷ []) (l.added ∙ ap (λ (z : World N G). z.actions ++ l.actions) p.1.rest);
      shown = subst (λ (z : World N G). PassesAll passes z.gate (gated_calls z.view.seat l.asked) v.gate) p.1.rest l.shown;
    }
listed {N = N} {G = G} told registry_of passes alone (Announcing signals s) w x v p =
    let l = listed told registry_of passes alone s p.0 x v p.2 in
    record {
      asked = l.asked;
      deeds = puts_of_signals signals ++ l.deeds;
      actions = announcement signals p.1.note ++ l.actions;
      goes = (l.deeds, refl, l.goes);
      lawful = subst (λ (z : World N G). IsLawful alone z.view l.asked v.view) p.1.rest l.lawful;
      done = more_announced signals p.1.note l.actions l.deeds l.done;
      added = snoc v.actions w.actions l.actions (announcement signals p.1.note) (l.added ∙ ap (λ (z : World N G). z.actions ++ l.actions) p.1.rest);
      shown = subst (λ (z : World N G). PassesAll passes z.gate (gated_calls z.view.seat l.asked) v.gate) p.1.rest l.shown;
    }

pub answers_are_lawful : {V N R G : Type 0} (view : BusView V N R) (gate : Gate G) → AnswersAreLawful view gate
answers_are_lawful view gate before after event actions brings =
    let l = listed view.told view.registry_of gate.passes view.alone (script before.standing (occasion_of view.told event)) (world_of before) after.standing brings.ends brings.comes in
    record {
      asked = l.asked;
      deeds = l.deeds;
      served = record { goes = l.goes; lawful = subst (λ k. IsLawful view.alone before.view l.asked k) (sym brings.view) l.lawful };
      shown = subst (λ shown. PassesAll gate.passes before.gate (gated_calls before.view.seat l.asked) shown) (sym brings.gate) l.shown;
      done = subst (λ all. AreDoneBy all l.deeds) (sym (brings.done ∙ l.added)) l.done;
    }
