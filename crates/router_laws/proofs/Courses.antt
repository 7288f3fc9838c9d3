-- Events from the beginning on.
use Rattle.std.proofs.Common.{append_assoc, ◌≡◌, ℕ, ◌+◌, ◌<◌, true, Some, List, [], ◌∷◌, ◌++◌, length, take, get_or, refl, sym, ap, ◌∙◌, subst, arith}
use Rattle.std.specs.Prelude.{slice_get}
use Rattle.std.proofs.lemmas.List.{length-append, map-append, take_more}
use Rattle.router_core.specs.declared.action.Action.{Action}
use Rattle.router_core.specs.declared.event.Event.{Event}
use Rattle.router_core.specs.declared.event.Event.TheVariants as event
use Rattle.router_core.specs.Acts.{State, Brings, CanHappen}
use Rattle.router_core.specs.Deeds.{GatedCall}
use Rattle.router_core.specs.Events.{Occasion, Opened, Bytes, Next, Turn, Mail, Closed, Full, Child, Tick}
use Rattle.router_core.specs.OneThread.{keys_after, bytes_to}
use Rattle.router_core.proofs.Asked.{answers_are_lawful}
use Rattle.router.proofs.OneEvent.{gate_of, view_of}
use Rattle.router_laws.specs.declared.fault.EventFault.{EventFault}
use Rattle.router_laws.specs.declared.fault.EventFault.TheVariants.{WrongKey, NoLogin, NoTurn, NoMemory}
use Rattle.router.specs.NextKeys.{HasNextKey}
use Rattle.router.specs.OneEvent.{rest_in}
use Rattle.router_laws.specs.Turns.{AreServedBy, keys_of, run_bytes}
use Rattle.router_laws.specs.Runs.{CanCome, IsFaultOf, IsRunOf, IsStopped, LacksKey, LacksLogin, LacksTurn, Ungated, happening, occasions_of, ungated}
use Rattle.router_laws.specs.Outputs.{Adds, IsCourse, IsRefused, IsTurn, Output, bytes_by, bytes_by_all, output_at, no_output}
use Rattle.router_laws.proofs.Appending.{led_more, served_more, keys_more, written_more, shown_more}
use Rattle.router_laws.proofs.Keeping.{turns_keep}
use Rattle.router_laws.proofs.Places.{all_places, nothing_yet}
use Rattle.router_laws.proofs.Writes.{actions_are, bytes_more}

-- ## Bytes more

pub adds_then : (first next last : Output) (these those : ℕ → List ℕ) → Adds first these next → Adds next those last → Adds first (λ opening. these opening ++ those opening) last
adds_then first next last these those a b = record {
  keys = b.keys ∙ a.keys;
  count = b.count ∙ a.count;
  each = λ k. b.each k ∙ ap (λ (bs : List ℕ). bs ++ those (k + 1)) (a.each k) ∙ append_assoc (get_or first.written k []) (these (k + 1)) (those (k + 1));
}

adds_same : (first last : Output) (these those : ℕ → List ℕ) → ((opening : ℕ) → these opening ≡ those opening) → Adds first these last → Adds first those last
adds_same first last these those same a = record { keys = a.keys; count = a.count; each = λ k. a.each k ∙ ap (λ (bs : List ℕ). get_or first.written k [] ++ bs) (same (k + 1)) }

-- what one action more writes
pub takes_more : {N : Type 0} (actions : List (Action N)) (i : ℕ) (action : Action N) (first mid last : Output) → i < length actions → action ≡ get_or actions i action →
    Adds first (λ opening. bytes_by_all opening first.keys (take i actions)) mid → Adds mid (λ opening. bytes_by opening mid.keys action) last →
    Adds first (λ opening. bytes_by_all opening first.keys (take (i + 1) actions)) last
takes_more {N = N} actions i action first mid last inside is before here =
    let grown : take (i + 1) actions ≡ take i actions ++ action ∷ [] = take_more actions i action inside ∙ ap (λ (a : Action N). take i actions ++ a ∷ []) (sym is) in
    let names = subst (λ (keys : List ℕ). Adds mid (λ opening. bytes_by opening keys action) last) before.keys here in
    adds_same first last (λ opening. bytes_by_all opening first.keys (take i actions) ++ bytes_by opening first.keys action) (λ opening. bytes_by_all opening first.keys (take (i + 1) actions))
    (λ opening. sym (ap (λ (done : List (Action N)). bytes_by_all opening first.keys done) grown ∙ bytes_more opening first.keys (take i actions) action))
    (adds_then first mid last (λ opening. bytes_by_all opening first.keys (take i actions)) (λ opening. bytes_by opening first.keys action) before names)

-- ## A connection that came

met_keys : (occasion : Occasion) (out : Output) → (output_at occasion out).keys ≡ keys_after occasion out.keys
met_keys (Opened key challenge) out = refl
met_keys (Bytes key piece) out = refl
met_keys (Next key) out = refl
met_keys (Turn keys) out = refl
met_keys (Mail slot number told said) out = refl
met_keys (Closed key) out = refl
met_keys (Full number) out = refl
met_keys (Child ended) out = refl
met_keys Tick out = refl

met_each : (occasion : Occasion) (out : Output) (k : ℕ) → get_or (output_at occasion out).written k [] ≡ get_or out.written k []
met_each (Opened key challenge) out k = nothing_yet out.written k
met_each (Bytes key piece) out k = refl
met_each (Next key) out k = refl
met_each (Turn keys) out k = refl
met_each (Mail slot number told said) out k = refl
met_each (Closed key) out k = refl
met_each (Full number) out k = refl
met_each (Child ended) out k = refl
met_each Tick out k = refl

met_count : (occasion : Occasion) (out : Output) → length out.written ≡ length out.keys → length (output_at occasion out).written ≡ length (output_at occasion out).keys
met_count (Opened key challenge) out h = length-append out.written ([] ∷ []) ∙ omega (arith, h)
met_count (Bytes key piece) out h = h
met_count (Next key) out h = h
met_count (Turn keys) out h = h
met_count (Mail slot number told said) out h = h
met_count (Closed key) out h = h
met_count (Full number) out h = h
met_count (Child ended) out h = h
met_count Tick out h = h

-- ## Courses

-- The gate has no part in what key comes next.
key_ungated : {G : Type 0} (before after : State G) (event : Event (Unit {0})) → HasNextKey before event after → HasNextKey (ungated before) event (ungated after)
key_ungated before after (event.Opened key challenge) h = h
key_ungated before after (event.Bytes key piece) h = h
key_ungated before after (event.Next key) h = h
key_ungated before after (event.Turn keys) h = h
key_ungated before after (event.Mail slot envelope) h = h
key_ungated before after (event.Closed key) h = h
key_ungated before after (event.Full number) h = h
key_ungated before after (event.Child ended) h = h
key_ungated before after event.Tick h = h

-- Nor in whether an event can happen.
can_ungated : {G : Type 0} (s : State G) (event : Event (Unit {0})) → CanHappen (λ _. 0) s event → CanHappen (λ _. 0) (ungated s) event
can_ungated s (event.Opened key challenge) h = h
can_ungated s (event.Bytes key piece) h = h
can_ungated s (event.Next key) h = h
can_ungated s (event.Turn keys) h = h
can_ungated s (event.Mail slot envelope) h = h
can_ungated s (event.Closed key) h = h
can_ungated s (event.Full number) h = h
can_ungated s (event.Child ended) h = h
can_ungated s event.Tick h = h

module _ {G : Type 0} (passes : G → GatedCall → G → Type 0) where
  pub turn_of : (before after : State G) (sent sends : Output) (event : Event (Unit {0})) (actions : List (Action (Unit {0}))) →
      Brings (λ _. []) (λ _. 0) passes true before event actions after →
      CanHappen (λ _. 0) before event → HasNextKey before event after →
      Adds (output_at (happening event) sent) (λ opening. bytes_by_all opening (output_at (happening event) sent).keys actions) sends →
      IsTurn passes before sent event after sends
  turn_of before after sent sends event actions brings happens key added =
      let h = answers_are_lawful (view_of (λ (note : Unit {0}). []) (λ _. 0) true) (gate_of passes) before after event actions brings in
      let out : Output = output_at (happening event) sent in
      record {
        turn = record { asked = h.asked; deeds = h.deeds };
        served = h.served;
        shown = h.shown;
        happens = happens;
        key = key;
        added = adds_same out sends (λ opening. bytes_by_all opening out.keys actions) (λ opening. bytes_to opening out.keys h.deeds)
            (λ opening. sym (actions_are opening out.keys actions h.deeds h.done)) added;
      }

  pub course_begins : (before : State G) → IsCourse passes before [] before no_output
  course_begins before = record { turns = []; served = refl; led = refl; shown = refl; keys = refl; count = refl; each = λ k. refl }

  pub course_more : (before now after : State G) (events : List (Event (Unit {0}))) (event : Event (Unit {0})) (sent sends : Output) →
      IsCourse passes before events now sent → IsTurn passes now sent event after sends → IsCourse passes before (events ++ event ∷ []) after sends
  course_more before now after events event sent sends c t =
      let old : List Occasion = occasions_of events in
      let new : Occasion = happening event in
      let all : occasions_of (events ++ event ∷ []) ≡ old ++ new ∷ [] = map-append happening events (event ∷ []) in
      let out : Output = output_at new sent in
      let names : out.keys ≡ keys_after new (keys_of old []) = met_keys new sent ∙ ap (λ (ks : List ℕ). keys_after new ks) c.keys in
      record {
        turns = c.turns ++ t.turn ∷ [];
        served = subst (λ (os : List Occasion). AreServedBy true (rest_in before) os (c.turns ++ t.turn ∷ []) (rest_in after)) (sym all)
            (served_more true (rest_in before) (rest_in now) (rest_in after) old c.turns new t.turn c.served t.served);
        led = led_more (ungated before) (ungated now) (ungated after) events c.turns event t.turn c.led (can_ungated now event t.happens) t.served (key_ungated now after event t.key);
        shown = shown_more passes before.gate now.gate after.gate before.view.seat now.view.seat c.turns t.turn
            (turns_keep true (rest_in before) (rest_in now) old c.turns c.served).seat c.shown t.shown;
        keys = t.added.keys ∙ names ∙ sym (keys_more old new []) ∙ ap (λ (os : List Occasion). keys_of os []) (sym all);
        count = t.added.count ∙ met_count new sent c.count ∙ ap (λ (ks : List ℕ). length ks) (sym t.added.keys);
        each = λ k.
            t.added.each k
            ∙ ap (λ (bs : List ℕ). bs ++ bytes_to (k + 1) out.keys t.turn.deeds) (met_each new sent k ∙ c.each k)
            ∙ ap (λ (ks : List ℕ). run_bytes (k + 1) [] old c.turns ++ bytes_to (k + 1) ks t.turn.deeds) names
            ∙ sym (written_more true (rest_in before) (rest_in now) (k + 1) [] old c.turns new t.turn c.served)
            ∙ ap (λ (os : List Occasion). run_bytes (k + 1) [] os (c.turns ++ t.turn ∷ [])) (sym all);
      }

  pub course_ends : (before after : State G) (events : List (Event (Unit {0}))) (sent : Output) → IsCourse passes before events after sent →
      IsRunOf passes before.gate (rest_in before) (occasions_of events) sent.written
  course_ends before after events sent c =
      let occasions : List Occasion = occasions_of events in
      let count : length sent.written ≡ length (keys_of occasions []) = c.count ∙ ap (λ (ks : List ℕ). length ks) c.keys in
      record {
        turns = c.turns;
        after = rest_in after;
        left = after.gate;
        served = c.served;
        shown = c.shown;
        written = all_places sent.written (length (keys_of occasions [])) (λ opening. run_bytes opening [] occasions c.turns) count c.each;
      }

  pub course_leads : (before after : State G) (events : List (Event (Unit {0}))) (sent : Output) → IsCourse passes before events after sent → CanCome (ungated before) events
  course_leads before after events sent c = (c.turns, ungated after, c.led)

  pub course_stops : (lacks : Ungated → Event (Unit {0}) → Type 0) (before now : State G) (events : List (Event (Unit {0}))) (index : ℕ) (event : Event (Unit {0})) (sent : Output) →
      IsCourse passes before (take index events) now sent → slice_get events index ≡ Some event → lacks (ungated now) event → IsStopped lacks (ungated before) events index
  course_stops lacks before now events index event sent c reached impossible =
      record { turns = c.turns; now = ungated now; led = c.led; event = event; reached = reached; impossible = impossible }

  -- why an event is not served is why the run ends
  pub course_faults : (before now : State G) (events : List (Event (Unit {0}))) (index : ℕ) (event : Event (Unit {0})) (sent : Output) (fault : EventFault) →
      IsCourse passes before (take index events) now sent → slice_get events index ≡ Some event → IsRefused now index event fault → IsFaultOf (ungated before) events fault
  course_faults before now events index event sent (WrongKey at) c reached refused =
      subst (λ (n : ℕ). IsStopped LacksKey (ungated before) events n) (sym refused.0) (course_stops LacksKey before now events index event sent c reached refused.1)
  course_faults before now events index event sent (NoLogin at) c reached refused =
      subst (λ (n : ℕ). IsStopped LacksLogin (ungated before) events n) (sym refused.0) (course_stops LacksLogin before now events index event sent c reached refused.1)
  course_faults before now events index event sent (NoTurn at) c reached refused =
      subst (λ (n : ℕ). IsStopped LacksTurn (ungated before) events n) (sym refused.0) (course_stops LacksTurn before now events index event sent c reached refused.1)
  course_faults before now events index event sent NoMemory c reached refused = tt

  pub course_registry : (before now : State G) (events : List (Event (Unit {0}))) (sent : Output) → IsCourse passes before events now sent → now.view.registry ≡ before.view.registry
  course_registry before now events sent c = (turns_keep true (rest_in before) (rest_in now) (occasions_of events) c.turns c.served).registry
