-- One event more.
use Rattle.std.proofs.Common.{◌≡◌, ℕ, Bool, true, List, [], ◌∷◌, ◌++◌, refl, sym, ap, ◌∙◌, subst, append_assoc}
use mathlib.Core.List.{append-nil}
use Rattle.router_core.specs.Acts.{CanHappen, Exchange, Changed, ChangedAll, Asked, Routed, AskedPresence, Noted, Framed, Called, Gated, Wanted, IsServedBy, gated_calls}
use Rattle.router_core.specs.Deeds.{GatedCall, PassesAll}
use Rattle.router_core.specs.Events.{Occasion}
use Rattle.router_core.specs.OneThread.{Rest, keys_after, bytes_to}
use Rattle.router.specs.NextKeys.{HasNextKey}
use Rattle.router_core.specs.declared.event.Event.{Event}
use Rattle.router_laws.specs.Runs.{IsLead, Ungated, happening}
use Rattle.router_laws.specs.Turns.{AreServedBy, Turn, exchanges_of, keys_of, run_bytes}

pub served_more : (alone : Bool) (before now after : Rest) (occasions : List Occasion) (turns : List Turn) (occasion : Occasion) (turn : Turn) →
    AreServedBy alone before occasions turns now → IsServedBy alone now.standing now.view occasion turn.asked turn.deeds after.standing after.view →
    AreServedBy alone before (occasions ++ occasion ∷ []) (turns ++ turn ∷ []) after
served_more alone before now after [] [] occasion turn h served =
    (after, subst (λ (r : Rest). IsServedBy alone r.standing r.view occasion turn.asked turn.deeds after.standing after.view) h served, refl)
served_more alone before now after [] (t ∷ turns) occasion turn h served = absurd h
served_more alone before now after (o ∷ occasions) [] occasion turn h served = absurd h
served_more alone before now after (o ∷ occasions) (t ∷ turns) occasion turn h served = (h.0, h.1, served_more alone h.0 now after occasions turns occasion turn h.2 served)

pub led_more : (before now after : Ungated) (events : List (Event (Unit {0}))) (turns : List Turn) (event : Event (Unit {0})) (turn : Turn) → IsLead before events turns now →
    CanHappen (λ _. 0) now event → IsServedBy true now.standing now.view (happening event) turn.asked turn.deeds after.standing after.view → HasNextKey now event after →
    IsLead before (events ++ event ∷ []) (turns ++ turn ∷ []) after
led_more before now after [] [] event turn h happens served key = (
  after,
  subst (λ (s : Ungated). CanHappen (λ _. 0) s event) h happens,
  subst (λ (s : Ungated). IsServedBy true s.standing s.view (happening event) turn.asked turn.deeds after.standing after.view) h served,
  subst (λ (s : Ungated). HasNextKey s event after) h key,
  refl,
)
led_more before now after [] (t ∷ turns) event turn h happens served key = absurd h
led_more before now after (e ∷ events) [] event turn h happens served key = absurd h
led_more before now after (e ∷ events) (t ∷ turns) event turn h happens served key =
    (h.0, h.1, h.2, h.3, led_more h.0 now after events turns event turn h.4 happens served key)

pub keys_more : (occasions : List Occasion) (occasion : Occasion) (keys : List ℕ) → keys_of (occasions ++ occasion ∷ []) keys ≡ keys_after occasion (keys_of occasions keys)
keys_more [] occasion keys = refl
keys_more (o ∷ occasions) occasion keys = keys_more occasions occasion (keys_after o keys)

pub written_more : (alone : Bool) (before now : Rest) (opening : ℕ) (keys : List ℕ) (occasions : List Occasion) (turns : List Turn) (occasion : Occasion) (turn : Turn) →
    AreServedBy alone before occasions turns now →
    run_bytes opening keys (occasions ++ occasion ∷ []) (turns ++ turn ∷ []) ≡ run_bytes opening keys occasions turns ++ bytes_to opening (keys_after occasion (keys_of occasions keys)) turn.deeds
written_more alone before now opening keys [] [] occasion turn h = append-nil (bytes_to opening (keys_after occasion keys) turn.deeds)
written_more alone before now opening keys [] (t ∷ turns) occasion turn h = absurd h
written_more alone before now opening keys (o ∷ occasions) [] occasion turn h = absurd h
written_more alone before now opening keys (o ∷ occasions) (t ∷ turns) occasion turn h =
    let here : List ℕ = bytes_to opening (keys_after o keys) t.deeds in
    ap (λ (later : List ℕ). here ++ later) (written_more alone h.0 now opening (keys_after o keys) occasions turns occasion turn h.2)
    ∙ sym (append_assoc here (run_bytes opening (keys_after o keys) occasions turns) (bytes_to opening (keys_after occasion (keys_of occasions (keys_after o keys))) turn.deeds))

asked_more : (turns : List Turn) (turn : Turn) → exchanges_of (turns ++ turn ∷ []) ≡ exchanges_of turns ++ turn.asked
asked_more [] turn = append-nil turn.asked
asked_more (t ∷ turns) turn = ap (λ (later : List Exchange). t.asked ++ later) (asked_more turns turn) ∙ sym (append_assoc t.asked (exchanges_of turns) turn.asked)

gated_append : (seat : ℕ) (first later : List Exchange) → gated_calls seat (first ++ later) ≡ gated_calls seat first ++ gated_calls seat later
gated_append seat [] later = refl
gated_append seat (Changed change heard ∷ first) later = gated_append seat first later
gated_append seat (ChangedAll changes heard ∷ first) later = gated_append seat first later
gated_append seat (Asked query heard ∷ first) later = gated_append seat first later
gated_append seat (Routed from facts heard ∷ first) later = gated_append seat first later
gated_append seat (AskedPresence number heard ∷ first) later = gated_append seat first later
gated_append seat (Noted told ∷ first) later = gated_append seat first later
gated_append seat (Framed bytes incoming ∷ first) later = gated_append seat first later
gated_append seat (Called m reading ∷ first) later = gated_append seat first later
gated_append seat (Gated seen call ∷ first) later = ap (λ (calls : List GatedCall). record { seat = seat; call = call; seen = seen } ∷ calls) (gated_append seat first later)
gated_append seat (Wanted granted ∷ first) later = gated_append seat first later

passes_append : {G : Type 0} (passes : G → GatedCall → G → Type 0) (before now after : G) (first later : List GatedCall) →
    PassesAll passes before first now → PassesAll passes now later after → PassesAll passes before (first ++ later) after
passes_append {G = G} passes before now after [] later p q = subst (λ (gate : G). PassesAll passes gate later after) p q
passes_append passes before now after (call ∷ first) later p q = (p.0, p.1, passes_append passes p.0 now after first later p.2 q)

-- the gate is shown the calls of one event more
pub shown_more : {G : Type 0} (passes : G → GatedCall → G → Type 0) (before now after : G) (seat other : ℕ) (turns : List Turn) (turn : Turn) → other ≡ seat →
    PassesAll passes before (gated_calls seat (exchanges_of turns)) now → PassesAll passes now (gated_calls other turn.asked) after →
    PassesAll passes before (gated_calls seat (exchanges_of (turns ++ turn ∷ []))) after
shown_more passes before now after seat other turns turn same first later =
    let here = subst (λ (n : ℕ). PassesAll passes now (gated_calls n turn.asked) after) same later in
    subst (λ (calls : List GatedCall). PassesAll passes before calls after)
    (sym (ap (λ (asked : List Exchange). gated_calls seat asked) (asked_more turns turn) ∙ gated_append seat (exchanges_of turns) turn.asked))
    (passes_append passes before now after (gated_calls seat (exchanges_of turns)) (gated_calls seat turn.asked) first here)
