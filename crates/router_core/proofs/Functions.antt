-- Over a bus of one thread a script comes to one end.
use Rattle.std.proofs.Common.{◌≡◌, ℕ, ◌+◌, Bool, true, false, Option, is_some, List, [], ◌∷◌, ◌++◌, length, refl, sym, ap, ◌∙◌, subst, append_assoc}
use mathlib.Core.List.{append-nil}
use Rattle.match_rules.specs.Facts.{Facts}
use Rattle.seq_bus_core.specs.Answers.{Answer, answer}
use Rattle.seq_bus_core.specs.Batches.{entries_of, outcomes_of}
use Rattle.seq_bus_core.specs.BusState.{connection_of}
use Rattle.seq_bus_core.specs.Recipients.{recipients}
use Rattle.seq_bus_core.specs.Tickets.{bus_step, bus_after}
use Rattle.seq_bus_core.specs.declared.change.Change.{Change}
use Rattle.seq_bus_core.specs.declared.outcome.Outcome.{Outcome}
use Rattle.seq_bus_core.specs.declared.query.Query.{Query}
use Rattle.seq_bus_core.specs.declared.verdict.Verdict.{Verdict}
use Rattle.bus_view.specs.Views.{Knowledge, bus_seen, next_entry, having_made, having_changed}
use Rattle.router_core.specs.Acts.{Exchange, Changed, ChangedAll, Asked, Routed, AskedPresence, Wanted, Goes, IsLawful, IsGranted, IsServedBy}
use Rattle.router_core.specs.Answers.{Heard, Says, Refuses}
use Rattle.router_core.specs.Deeds.{Deed, puts_of_signals}
use Rattle.router_core.specs.Events.{Occasion, script}
use Rattle.router_core.specs.Laws.{OneThreadIsAFunction, BytesAreAFunction}
use Rattle.router_core.specs.OneThread.{IsRun, Rest, bytes_to, keys_after}
use Rattle.router_core.proofs.Alone.{Readers, AreReadBy, Course, learning, doing, alone, effect}
use Rattle.router_core.specs.Scripts.{Script, Gives, Changing, ChangingAll, Asking, Routing, AskingPresence, Noting, Framing, Calling, Gating, Wanting, Requiring, Doing, Announcing}
use Rattle.router_core.proofs.Grants.{read_parts}
use Rattle.router_core.proofs.Readers.{read_so, readers_of, right_append, right_lawful}
use Rattle.router_core.proofs.Knowing.{read_alone, added_alone, all_added_alone}

-- how a script ends that asked this and did these deeds
pub record Ends (readers : Readers) {X : Type 0} (s : Script X) (w : Course) (deeds : List Deed) (x : X) (k : Knowledge) : Type 0 where
  pub result : (alone readers s w).0 ≡ x
  pub view : (alone readers s w).1.view ≡ k
  pub done : (alone readers s w).1.deeds ≡ w.deeds ++ deeds

module _ (readers : Readers) {X : Type 0} where
  -- wherever the rest of a script begins
  abbrev pub Goes_on : Script X → List Exchange → List Deed → X → Knowledge → Type 0
  Goes_on s asked deeds x k = (w : Course) → IsLawful true w.view asked k → IsGranted asked → AreReadBy readers asked → Ends readers s w deeds x k

  changed : (change : Change) (goes_on : Heard Outcome → Script X) (heard : Heard Outcome) (later : List Exchange) (deeds : List Deed) (x : X) (k : Knowledge) →
      Goes_on (goes_on heard) later deeds x k → Goes_on (Changing change goes_on) (Changed change heard ∷ later) deeds x k
  changed change goes_on (Refuses r) later deeds x k ih w lawful granted read = absurd granted
  changed change goes_on (Says o) later deeds x k ih w lawful granted read =
      let told : o ≡ (bus_step (bus_seen w.view) w.view.seat change).1 =
      lawful.1.told ∙ ap (λ point. (bus_step (bus_after w.view.opening point) w.view.seat change).1) (lawful.1.reached.same refl) in
      let first = ih (learning w lawful.0) lawful.2 granted read in
      let now = subst (λ z. Ends readers (goes_on (Says o)) (learning w z) deeds x k) (added_alone change o w.view lawful.0 lawful.1) first in
      let here = subst (λ z. Ends readers (goes_on (Says z)) (learning w (having_changed w.view (w.view.seen ++ next_entry w.view change ∷ []))) deeds x k) told now in
      record { result = here.result; view = here.view; done = here.done }

  all_changed : (changes : List Change) (goes_on : Heard (List Outcome) → Script X) (heard : Heard (List Outcome)) (later : List Exchange) (deeds : List Deed) (x : X) (k : Knowledge) →
      Goes_on (goes_on heard) later deeds x k → Goes_on (ChangingAll changes goes_on) (ChangedAll changes heard ∷ later) deeds x k
  all_changed changes goes_on (Refuses r) later deeds x k ih w lawful granted read = absurd granted
  all_changed changes goes_on (Says os) later deeds x k ih w lawful granted read =
      let told : os ≡ outcomes_of (bus_seen w.view) w.view.seat changes =
      lawful.1.told ∙ ap (λ point. outcomes_of (bus_after w.view.opening point) w.view.seat changes) (lawful.1.reached.same refl) in
      let first = ih (learning w lawful.0) lawful.2 granted read in
      let now = subst (λ z. Ends readers (goes_on (Says os)) (learning w z) deeds x k) (all_added_alone changes os w.view lawful.0 lawful.1) first in
      let here = subst (λ z. Ends readers (goes_on (Says z)) (learning w (having_made w.view (length changes) (w.view.seen ++ entries_of w.view.seat (w.view.made + 1) changes))) deeds x k) told now in
      record { result = here.result; view = here.view; done = here.done }

  asked_of : (query : Query) (goes_on : Heard (Option Answer) → Script X) (heard : Heard (Option Answer)) (later : List Exchange) (deeds : List Deed) (x : X) (k : Knowledge) →
      Goes_on (goes_on heard) later deeds x k → Goes_on (Asking query goes_on) (Asked query heard ∷ later) deeds x k
  asked_of query goes_on (Refuses r) later deeds x k ih w lawful granted read = absurd granted
  asked_of query goes_on (Says told) later deeds x k ih w lawful granted read =
      let same = read_alone w.view lawful.0 lawful.1.0 in
      let is : told ≡ answer (bus_seen w.view).state query = lawful.1.1 ∙ ap (λ m. answer (bus_seen m).state query) same in
      let now = subst (λ z. Ends readers (goes_on (Says told)) (learning w z) deeds x k) same (ih (learning w lawful.0) lawful.2 granted read) in
      let here = subst (λ z. Ends readers (goes_on (Says z)) (learning w w.view) deeds x k) is now in
      record { result = here.result; view = here.view; done = here.done }

  routed : (from : ℕ) (facts : Facts) (goes_on : Heard Verdict → Script X) (heard : Heard Verdict) (later : List Exchange) (deeds : List Deed) (x : X) (k : Knowledge) →
      Goes_on (goes_on heard) later deeds x k → Goes_on (Routing from facts goes_on) (Routed from facts heard ∷ later) deeds x k
  routed from facts goes_on (Refuses r) later deeds x k ih w lawful granted read = absurd granted
  routed from facts goes_on (Says v) later deeds x k ih w lawful granted read =
      let same = read_alone w.view lawful.0 lawful.1.0 in
      let is : v ≡ recipients (bus_seen w.view).state from facts = lawful.1.1 ∙ ap (λ m. recipients (bus_seen m).state from facts) same in
      let now = subst (λ z. Ends readers (goes_on (Says v)) (learning w z) deeds x k) same (ih (learning w lawful.0) lawful.2 granted read) in
      let here = subst (λ z. Ends readers (goes_on (Says z)) (learning w w.view) deeds x k) is now in
      record { result = here.result; view = here.view; done = here.done }

  asked_presence : (number : ℕ) (goes_on : Heard Bool → Script X) (heard : Heard Bool) (later : List Exchange) (deeds : List Deed) (x : X) (k : Knowledge) →
      Goes_on (goes_on heard) later deeds x k → Goes_on (AskingPresence number goes_on) (AskedPresence number heard ∷ later) deeds x k
  asked_presence number goes_on (Refuses r) later deeds x k ih w lawful granted read = absurd granted
  asked_presence number goes_on (Says there) later deeds x k ih w lawful granted read =
      let same = read_alone w.view lawful.0 lawful.1.0 in
      let is : there ≡ is_some (connection_of (bus_seen w.view).state number) = lawful.1.1 ∙ ap (λ m. is_some (connection_of (bus_seen m).state number)) same in
      let now = subst (λ z. Ends readers (goes_on (Says there)) (learning w z) deeds x k) same (ih (learning w lawful.0) lawful.2 granted read) in
      let here = subst (λ z. Ends readers (goes_on (Says z)) (learning w w.view) deeds x k) is now in
      record { result = here.result; view = here.view; done = here.done }

  wanted : (goes_on : Bool → Script X) (granted : Bool) (later : List Exchange) (deeds : List Deed) (x : X) (k : Knowledge) →
      Goes_on (goes_on granted) later deeds x k → Goes_on (Wanting goes_on) (Wanted granted ∷ later) deeds x k
  wanted goes_on false later deeds x k ih w lawful granted read = absurd granted
  wanted goes_on true later deeds x k ih w lawful granted read =
      let here = ih w lawful granted read in
      record { result = here.result; view = here.view; done = here.done }

  given_up : (y x : X) (w : Course) (k : Knowledge) → x ≡ y → k ≡ w.view → Ends readers (Gives y) w [] x k
  given_up y x w k e v = record { result = sym e; view = sym v; done = sym (append-nil w.deeds) }

  pub ends : (s : Script X) (asked : List Exchange) (deeds : List Deed) (x : X) (k : Knowledge) → Goes s asked deeds x → Goes_on s asked deeds x k
  ends (Gives y) asked deeds x k p =
      subst (λ a. Goes_on (Gives y) a deeds x k) (sym p.0) (subst (λ ds. Goes_on (Gives y) [] ds x k) (sym p.1) (λ w lawful granted read. given_up y x w k p.2 lawful))
  ends (Changing change goes_on) asked deeds x k p =
      subst (λ a. Goes_on (Changing change goes_on) a deeds x k) (sym p.2) (changed change goes_on p.0 p.1 deeds x k (ends (goes_on p.0) p.1 deeds x k p.3))
  ends (ChangingAll changes goes_on) asked deeds x k p =
      subst (λ a. Goes_on (ChangingAll changes goes_on) a deeds x k) (sym p.2) (all_changed changes goes_on p.0 p.1 deeds x k (ends (goes_on p.0) p.1 deeds x k p.3))
  ends (Asking query goes_on) asked deeds x k p =
      subst (λ a. Goes_on (Asking query goes_on) a deeds x k) (sym p.2) (asked_of query goes_on p.0 p.1 deeds x k (ends (goes_on p.0) p.1 deeds x k p.3))
  ends (Routing from facts goes_on) asked deeds x k p =
      subst (λ a. Goes_on (Routing from facts goes_on) a deeds x k) (sym p.2) (routed from facts goes_on p.0 p.1 deeds x k (ends (goes_on p.0) p.1 deeds x k p.3))
  ends (AskingPresence number goes_on) asked deeds x k p =
      subst (λ a. Goes_on (AskingPresence number goes_on) a deeds x k) (sym p.2) (asked_presence number goes_on p.0 p.1 deeds x k (ends (goes_on p.0) p.1 deeds x k p.3))
  ends (Noting told s) asked deeds x k p =
      subst (λ a. Goes_on (Noting told s) a deeds x k) (sym p.1) (λ w lawful granted read.
      let same = lawful.1.nothing refl in
      let here = subst (λ z. Ends readers s (learning w z) deeds x k) same (ends s p.0 deeds x k p.2 (learning w lawful.0) lawful.2 granted read) in
      record { result = here.result; view = here.view; done = here.done })
  ends (Framing bytes goes_on) asked deeds x k p =
      subst (λ a. Goes_on (Framing bytes goes_on) a deeds x k) (sym p.2) (λ w lawful granted read.
      let here = subst (λ z. Ends readers (goes_on z) w deeds x k) read.0 (ends (goes_on p.0) p.1 deeds x k p.3 w lawful.1 granted read.1) in
      record { result = here.result; view = here.view; done = here.done })
  ends (Calling m goes_on) asked deeds x k p =
      subst (λ a. Goes_on (Calling m goes_on) a deeds x k) (sym p.2) (λ w lawful granted read.
      let here = subst (λ z. Ends readers (goes_on z) w deeds x k) read.0 (ends (goes_on p.0) p.1 deeds x k p.3 w lawful.1 granted read.1) in
      record { result = here.result; view = here.view; done = here.done })
  ends (Gating call s) asked deeds x k p =
      subst (λ a. Goes_on (Gating call s) a deeds x k) (sym p.2) (λ w lawful granted read.
      let here = ends s p.1 deeds x k p.3 w lawful.1 granted read in
      record { result = here.result; view = here.view; done = here.done })
  ends (Wanting goes_on) asked deeds x k p =
      subst (λ a. Goes_on (Wanting goes_on) a deeds x k) (sym p.2) (wanted goes_on p.0 p.1 deeds x k (ends (goes_on p.0) p.1 deeds x k p.3))
  ends (Requiring holds s) asked deeds x k p = λ w lawful granted read.
      let here = ends s asked deeds x k p.1 w lawful granted read in
      record { result = here.result; view = here.view; done = here.done }
  ends (Doing deed s) asked deeds x k p =
      subst (λ ds. Goes_on (Doing deed s) asked ds x k) (sym p.1) (λ w lawful granted read.
      let here = ends s asked p.0 x k p.2 (doing w (deed ∷ [])) lawful granted read in
      record { result = here.result; view = here.view; done = here.done ∙ append_assoc w.deeds (deed ∷ []) p.0 })
  ends (Announcing signals s) asked deeds x k p =
      subst (λ ds. Goes_on (Announcing signals s) asked ds x k) (sym p.1) (λ w lawful granted read.
      let here = ends s asked p.0 x k p.2 (doing w (puts_of_signals signals)) lawful granted read in
      record { result = here.result; view = here.view; done = here.done ∙ append_assoc w.deeds (puts_of_signals signals) p.0 })

-- an event that was served, by readers who read so
pub effect_is : (readers : Readers) (before after : Rest) (occasion : Occasion) (asked : List Exchange) (deeds : List Deed) →
    IsServedBy true before.standing before.view occasion asked deeds after.standing after.view → IsGranted asked → AreReadBy readers asked →
    (deeds ≡ (effect readers before occasion).0) × (after ≡ (effect readers before occasion).1)
effect_is readers before after occasion asked deeds served granted read =
    let here = ends readers (script before.standing occasion) asked deeds after.standing after.view served.goes (record { view = before.view; deeds = [] }) served.lawful granted read in
    (sym here.done, λ i. record { standing = sym here.result i; view = sym here.view i })

pub one_thread_is_a_function : OneThreadIsAFunction
one_thread_is_a_function before after end occasion deeds others one other =
    let readers : Readers = readers_of (one.asked ++ other.asked) in
    let right = right_append one.asked other.asked (right_lawful true one.asked before.view after.view one.served.lawful) (right_lawful true other.asked before.view end.view other.served.lawful) in
    let reads = read_parts readers one.asked other.asked (read_so (one.asked ++ other.asked) right) in
    let these = effect_is readers before after occasion one.asked deeds one.served one.granted reads.0 in
    let those = effect_is readers before end occasion other.asked others other.served other.granted reads.1 in
    (these.0 ∙ sym those.0, these.1 ∙ sym those.1)

pub bytes_are_a_function : BytesAreAFunction
bytes_are_a_function opening keys before after end [] bytes others one other = (one.0 ∙ sym other.0, one.1 ∙ sym other.1)
bytes_are_a_function opening keys before after end (occasion ∷ occasions) bytes others one other =
    let now = keys_after occasion keys in
    let first = one_thread_is_a_function before one.1 other.1 occasion one.0 other.0 one.3 other.3 in
    let so = subst (λ (r : Rest). IsRun opening now r occasions other.2 end) (sym first.1) other.4 in
    let later = bytes_are_a_function opening now one.1 after end occasions one.2 other.2 one.4 so in (
      one.5
          ∙ ap (λ (deeds : List Deed). bytes_to opening now deeds ++ one.2) first.0
          ∙ ap (λ (bs : List ℕ). bytes_to opening now other.0 ++ bs) later.0
          ∙ sym other.5,
      later.1,
    )
