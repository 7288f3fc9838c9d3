-- Runs in which nothing is refused, one after the other.
use Rattle.std.proofs.Common.{◌≡◌, ℕ, true, false, List, [], ◌∷◌, ◌++◌, length, map, refl, sym, ap, ◌∙◌, subst, append_assoc}
use Rattle.std.specs.List.{range_with_len}
use Rattle.router_core.specs.Acts.{Exchange, Changed, ChangedAll, Asked, Routed, AskedPresence, Noted, Framed, Called, Gated, Wanted, IsGranted}
use Rattle.router_core.specs.Answers.{Says, Refuses}
use Rattle.router_core.specs.Events.{Occasion}
use Rattle.router_core.specs.OneThread.{Rest, keys_after, bytes_to}
use Rattle.router_core.proofs.Grants.{granted_parts}
use Rattle.router_laws.specs.Turns.{Turn, exchanges_of, keys_of, run_bytes}
use Rattle.router_laws.specs.GrantedRuns.{ComeToTheSame, IsGrantedRun}

pub granted_append : (first later : List Exchange) → IsGranted first → IsGranted later → IsGranted (first ++ later)
granted_append [] later h k = k
granted_append (Changed change (Says o) ∷ first) later h k = granted_append first later h k
granted_append (ChangedAll changes (Says os) ∷ first) later h k = granted_append first later h k
granted_append (Changed change (Refuses r) ∷ first) later h k = absurd h
granted_append (ChangedAll changes (Refuses r) ∷ first) later h k = absurd h
granted_append (Asked query (Says told) ∷ first) later h k = granted_append first later h k
granted_append (Asked query (Refuses r) ∷ first) later h k = absurd h
granted_append (Routed from facts (Says v) ∷ first) later h k = granted_append first later h k
granted_append (Routed from facts (Refuses r) ∷ first) later h k = absurd h
granted_append (AskedPresence number (Says there) ∷ first) later h k = granted_append first later h k
granted_append (AskedPresence number (Refuses r) ∷ first) later h k = absurd h
granted_append (Noted told ∷ first) later h k = granted_append first later h k
granted_append (Framed bytes incoming ∷ first) later h k = granted_append first later h k
granted_append (Called m reading ∷ first) later h k = granted_append first later h k
granted_append (Gated seen call ∷ first) later h k = granted_append first later h k
granted_append (Wanted true ∷ first) later h k = granted_append first later h k
granted_append (Wanted false ∷ first) later h k = absurd h

-- a run in two parts
pub record Parts (before : Rest) (first later : List Occasion) (turns : List Turn) (after : Rest) : Type 0 where
  pub early : List Turn
  pub late : List Turn
  pub now : Rest
  pub first_run : IsGrantedRun before first early now
  pub later_run : IsGrantedRun now later late after
  pub all : turns ≡ early ++ late

run_parts : (before after : Rest) (first later : List Occasion) (turns : List Turn) → IsGrantedRun before (first ++ later) turns after → Parts before first later turns after
run_parts before after [] later turns run =
    record { early = []; late = turns; now = before; first_run = record { served = refl; granted = tt }; later_run = run; all = refl }
run_parts before after (occasion ∷ first) later [] run = absurd run.served
run_parts before after (occasion ∷ first) later (turn ∷ turns) run =
    let grants = granted_parts turn.asked (exchanges_of turns) run.granted in
    let parts = run_parts run.served.0 after first later turns (record { served = run.served.2; granted = grants.1 }) in
    record {
      early = turn ∷ parts.early;
      late = parts.late;
      now = parts.now;
      first_run = record {
        served = (run.served.0, run.served.1, parts.first_run.served);
        granted = granted_append turn.asked (exchanges_of parts.early) grants.0 parts.first_run.granted;
      };
      later_run = parts.later_run;
      all = ap (λ (ts : List Turn). turn ∷ ts) parts.all;
    }

run_joined : (before now after : Rest) (first later : List Occasion) (early late : List Turn) → IsGrantedRun before first early now → IsGrantedRun now later late after →
    IsGrantedRun before (first ++ later) (early ++ late) after
run_joined before now after [] later [] late a b = subst (λ (r : Rest). IsGrantedRun r later late after) a.served b
run_joined before now after [] later (turn ∷ early) late a b = absurd a.served
run_joined before now after (occasion ∷ first) later [] late a b = absurd a.served
run_joined before now after (occasion ∷ first) later (turn ∷ early) late a b =
    let grants = granted_parts turn.asked (exchanges_of early) a.granted in
    let others = run_joined a.served.0 now after first later early late (record { served = a.served.2; granted = grants.1 }) b in
    record { served = (a.served.0, a.served.1, others.served); granted = granted_append turn.asked (exchanges_of (early ++ late)) grants.0 others.granted }

written_joined : (opening : ℕ) (keys : List ℕ) (before now : Rest) (first later : List Occasion) (early late : List Turn) → IsGrantedRun before first early now →
    run_bytes opening keys (first ++ later) (early ++ late) ≡ run_bytes opening keys first early ++ run_bytes opening (keys_of first keys) later late
written_joined opening keys before now [] later [] late a = refl
written_joined opening keys before now [] later (turn ∷ early) late a = absurd a.served
written_joined opening keys before now (occasion ∷ first) later [] late a = absurd a.served
written_joined opening keys before now (occasion ∷ first) later (turn ∷ early) late a =
    let grants = granted_parts turn.asked (exchanges_of early) a.granted in
    let next : List ℕ = keys_after occasion keys in
    let here : List ℕ = bytes_to opening next turn.deeds in
    ap (λ (bytes : List ℕ). here ++ bytes) (written_joined opening next a.served.0 now first later early late (record { served = a.served.2; granted = grants.1 }))
    ∙ sym (append_assoc here (run_bytes opening next first early) (run_bytes opening (keys_of first next) later late))

keys_append : (first later : List Occasion) (keys : List ℕ) → keys_of (first ++ later) keys ≡ keys_of later (keys_of first keys)
keys_append [] later keys = refl
keys_append (occasion ∷ first) later keys = keys_append first later (keys_after occasion keys)

same_keys : (earlier these those later : List Occasion) → ((keys : List ℕ) → keys_of these keys ≡ keys_of those keys) → keys_of (earlier ++ (these ++ later)) [] ≡ keys_of (earlier ++ (those ++ later)) []
same_keys earlier these those later same =
    keys_append earlier (these ++ later) [] ∙ keys_append these later (keys_of earlier [])
    ∙ ap (λ (keys : List ℕ). keys_of later keys) (same (keys_of earlier []))
    ∙ sym (keys_append earlier (those ++ later) [] ∙ keys_append those later (keys_of earlier []))

-- ## In the place of others

-- wherever these come, those may come in their place
abbrev pub StandFor : Rest → (these those : List Occasion) → Type 0
StandFor r these those = (turns : List Turn) (after : Rest) → IsGrantedRun r these turns after →
    (others : List Turn) × IsGrantedRun r those others after × ((opening : ℕ) (keys : List ℕ) → run_bytes opening keys those others ≡ run_bytes opening keys these turns)

-- also with others before and behind
pub between : (before : Rest) (earlier these those later : List Occasion) → ((keys : List ℕ) → keys_of those keys ≡ keys_of these keys) →
    ((turns : List Turn) (now : Rest) → IsGrantedRun before earlier turns now → StandFor now these those) → ComeToTheSame before (earlier ++ (these ++ later)) (earlier ++ (those ++ later))
between before earlier these those later same stand turns after run =
    let a = run_parts before after earlier (these ++ later) turns run in
    let b = run_parts a.now after these later a.late a.later_run in
    let instead = stand a.early a.now a.first_run b.early b.now b.first_run in
    let behind = run_joined a.now b.now after those later instead.0 b.late instead.1 b.later_run in
    let others : List Turn = a.early ++ (instead.0 ++ b.late) in
    let keys : List ℕ = keys_of earlier [] in
    let each : (opening : ℕ) → run_bytes opening [] (earlier ++ (those ++ later)) others ≡ run_bytes opening [] (earlier ++ (these ++ later)) turns =
    λ opening.
    let first : List ℕ = run_bytes opening [] earlier a.early in
    written_joined opening [] before a.now earlier (those ++ later) a.early (instead.0 ++ b.late) a.first_run
    ∙ ap (λ (bytes : List ℕ). first ++ bytes)
    (
    written_joined opening keys a.now b.now those later instead.0 b.late instead.1
    ∙ ap (λ (bytes : List ℕ). bytes ++ run_bytes opening (keys_of those keys) later b.late) (instead.2 opening keys)
    ∙ ap (λ (ks : List ℕ). run_bytes opening keys these b.early ++ run_bytes opening ks later b.late) (same keys)
    ∙ sym (written_joined opening keys a.now b.now these later b.early b.late b.first_run)
    ∙ ap (λ (late : List Turn). run_bytes opening keys (these ++ later) late) (sym b.all)
    )
    ∙ sym (written_joined opening [] before a.now earlier (these ++ later) a.early a.late a.first_run)
    ∙ ap (λ (all : List Turn). run_bytes opening [] (earlier ++ (these ++ later)) all) (sym a.all) in (
      others,
      run_joined before a.now after earlier (those ++ later) a.early (instead.0 ++ b.late) a.first_run behind,
      ap (λ (ks : List ℕ). map (λ (opening : ℕ). run_bytes opening [] (earlier ++ (those ++ later)) others) (range_with_len 1 (length ks))) (same_keys earlier those these later same)
          ∙ (λ i. map (λ (opening : ℕ). each opening i) (range_with_len 1 (length (keys_of (earlier ++ (these ++ later)) [])))),
    )
