-- Runs of the same events in which nothing is refused are alike.
use Rattle.std.proofs.Common.{◌≡◌, ℕ, true, List, [], ◌∷◌, length, map, refl, sym, ap, ◌∙◌, subst}
use Rattle.std.specs.List.{range_with_len}
use Rattle.router_core.specs.Acts.{IsGranted}
use Rattle.router_core.specs.Deeds.{Deed, GatedCall}
use Rattle.router_core.specs.Events.{Occasion}
use Rattle.router_core.specs.OneThread.{Rest}
use Rattle.router_core.proofs.Functions.{bytes_are_a_function, one_thread_is_a_function}
use Rattle.router_core.proofs.Grants.{granted_parts}
use Rattle.router_laws.specs.Turns.{AreServedBy, Turn, exchanges_of, keys_of, run_bytes}
use Rattle.router_laws.proofs.Granting.{is_run}
use Rattle.router_laws.specs.GrantedRuns.{AlikeRunsAgree, IsGrantedRun, RunsAgree, RunsAreOne, bytes_of, deeds_of}
use Rattle.router_core.proofs.Readers.{AreRight, right_append, right_lawful}

-- ## What one run read

turns_right : (before after : Rest) (occasions : List Occasion) (turns : List Turn) → AreServedBy true before occasions turns after → AreRight (exchanges_of turns)
turns_right before after [] [] served = tt
turns_right before after [] (turn ∷ turns) served = absurd served
turns_right before after (occasion ∷ occasions) [] served = absurd served
turns_right before after (occasion ∷ occasions) (turn ∷ turns) served =
    right_append turn.asked (exchanges_of turns) (right_lawful true turn.asked before.view served.0.view served.1.lawful) (turns_right served.0 after occasions turns served.2)

pub run_right : (before after : Rest) (occasions : List Occasion) (turns : List Turn) → IsGrantedRun before occasions turns after → AreRight (exchanges_of turns)
run_right before after occasions turns run = turns_right before after occasions turns run.served

-- ## Two runs

-- their deeds, and what they leave
same_deeds : (before after end : Rest) (occasions : List Occasion) (turns others : List Turn) → AreServedBy true before occasions turns after → AreServedBy true before occasions others end →
    IsGranted (exchanges_of turns) → IsGranted (exchanges_of others) → (deeds_of turns ≡ deeds_of others) × (after ≡ end)
same_deeds before after end [] [] [] one other granted also = (refl, one ∙ sym other)
same_deeds before after end [] (turn ∷ turns) others one other granted also = absurd one
same_deeds before after end [] [] (turn ∷ others) one other granted also = absurd other
same_deeds before after end (occasion ∷ occasions) [] others one other granted also = absurd one
same_deeds before after end (occasion ∷ occasions) (turn ∷ turns) [] one other granted also = absurd other
same_deeds before after end (occasion ∷ occasions) (turn ∷ turns) (same ∷ others) one other granted also =
    let grants = granted_parts turn.asked (exchanges_of turns) granted in
    let also_grants = granted_parts same.asked (exchanges_of others) also in
    let first = one_thread_is_a_function before one.0 other.0 occasion turn.deeds same.deeds
    (record { asked = turn.asked; served = one.1; granted = grants.0 }) (record { asked = same.asked; served = other.1; granted = also_grants.0 }) in
    let later = same_deeds one.0 after end occasions turns others one.2 (subst (λ (r : Rest). AreServedBy true r occasions others end) (sym first.1) other.2) grants.1 also_grants.1 in
    (ap (λ (deeds : List Deed). deeds ∷ deeds_of turns) first.0 ∙ ap (λ (all : List (List Deed)). same.deeds ∷ all) later.0, later.1)

pub runs_are_one : RunsAreOne
runs_are_one before after end occasions turns others one other = same_deeds before after end occasions turns others one.served other.served one.granted other.granted

-- two runs write the same
same_bytes : (before after end : Rest) (occasions : List Occasion) (turns others : List Turn) → IsGrantedRun before occasions turns after → IsGrantedRun before occasions others end →
    bytes_of occasions turns ≡ bytes_of occasions others
same_bytes before after end occasions turns others one other =
    let each : (opening : ℕ) → run_bytes opening [] occasions turns ≡ run_bytes opening [] occasions others =
    λ opening.
    (bytes_are_a_function opening [] before after end occasions (run_bytes opening [] occasions turns) (run_bytes opening [] occasions others)
    (is_run opening [] before after occasions turns one.served one.granted) (is_run opening [] before end occasions others other.served other.granted)).0 in
    λ i. map (λ (opening : ℕ). each opening i) (range_with_len 1 (length (keys_of occasions [])))

pub alike_runs_agree : {G H : Type 0} (passes : G → GatedCall → G → Type 0) (others_pass : H → GatedCall → H → Type 0) → AlikeRunsAgree passes others_pass
alike_runs_agree passes others_pass gate other_gate before these those bytes others alike one other granted also =
    let instead = alike one.turns one.after (record { served = one.served; granted = granted }) in
    one.written
    ∙ sym instead.2
    ∙ same_bytes before one.after other.after those instead.0 other.turns instead.1 (record { served = other.served; granted = also })
    ∙ sym other.written

pub runs_agree : {G H : Type 0} (passes : G → GatedCall → G → Type 0) (others_pass : H → GatedCall → H → Type 0) → RunsAgree passes others_pass
runs_agree passes others_pass gate other_gate before occasions bytes others one other granted also =
    alike_runs_agree passes others_pass gate other_gate before occasions occasions bytes others (λ turns after run. (turns, run, refl)) one other granted also
