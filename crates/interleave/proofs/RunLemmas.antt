-- Runs: the play of steps, one after the other.
use Rattle.std.proofs.Common.{◌≡◌, ℕ, suc, ◌+◌, List, [], ◌∷◌, ◌++◌, length, map, refl, ap, sym, ◌∙◌, subst, arith, length-append}
use Rattle.std.proofs.lemmas.List.{append-nil, map-append}
use mathlib.Core.List.{append_assoc}
use Rattle.seq_bus_core.specs.Tickets.{WholeBus, bus_step}
use Rattle.seq_bus_core.specs.declared.change.Change.{Change}
use Rattle.interleave.specs.declared.play.Play.{Play}
use Rattle.interleave_core.specs.declared.step.Step.{Step}
use Rattle.interleave.specs.declared.log.LogLine.{LogLine}
use Rattle.interleave.specs.Logs.{Says, IsLine, AreLines}
use Rattle.interleave.specs.declared.seat.Made.{Made}
use Rattle.interleave.specs.Playing.{Making, AreBeginnings, IsPlayed, Comes, bus_along, making, makings}
use Rattle.interleave.proofs.PlayLemmas.{length_map, along_more, makings_more, lines_more}
use Rattle.interleave_core.specs.Promises.{moment_of}
use Rattle.interleave_core.specs.Worlds.{Moment, Logged, Told, first_moment, happens, moment_after, log_of, told_from}
use Rattle.interleave_core.proofs.Keeping.{IsKept}
use Rattle.interleave_core.proofs.Schedules.{moment_more, kept_of}

pub beginnings_kept : (m : Moment) (log : List Logged) → IsKept m log → AreBeginnings m
beginnings_kept m log kept = record {
  seats = λ seat seen there. (kept.seats seat seen there).begins;
  ends = λ place is. let end = kept.ends place is in (end.point, end.begins, end.place_is);
}

pub beginnings_of : (opening : WholeBus) (steps : List Step) → AreBeginnings (moment_of opening steps)
beginnings_of opening steps = beginnings_kept (moment_of opening steps) (log_of (first_moment opening) steps) (kept_of opening steps)

log_more : (m : Moment) (steps more : List Step) → log_of m (steps ++ more) ≡ log_of m steps ++ log_of (moment_after m steps) more
log_more m [] more = refl
log_more m (step ∷ steps) more = ap (λ rest. (happens m step).1 ++ rest) (log_more (happens m step).0 steps more) ∙ sym (append_assoc (happens m step).1 (log_of (happens m step).0 steps) (log_of (moment_after (happens m step).0 steps) more))

-- one more step
pub played_more : (opening : WholeBus) (steps : List Step) (step : Step) (play : Play) → Comes (happens (moment_of opening steps) step) (log_of (first_moment opening) steps) play →
    IsPlayed (moment_of opening (steps ++ step ∷ [])) (log_of (first_moment opening) (steps ++ step ∷ [])) play
played_more opening steps step play comes =
    subst (λ m. IsPlayed m (log_of first (steps ++ step ∷ [])) play) (sym (moment_more first steps (step ∷ [])))
    (subst (λ log. IsPlayed (happens (moment_of opening steps) step).0 log play) (sym log_is) comes)
  where
    first : Moment
    first = first_moment opening

    log_is : log_of first (steps ++ step ∷ []) ≡ log_of first steps ++ (happens (moment_of opening steps) step).1
    log_is = log_more first steps (step ∷ []) ∙ ap (λ rest. log_of first steps ++ rest) (append-nil (happens (moment_of opening steps) step).1)

-- ## Publications

pub along_push : (b : WholeBus) (changes : List Made) (made : Made) → bus_along b (map making (changes ++ made ∷ [])) ≡ (bus_step (bus_along b (map making changes)) made.seat made.change.now).0
along_push b changes made = ap (bus_along b) (map-append making changes (made ∷ [])) ∙ along_more b (map making changes) (making made ∷ [])

makings_push : (b : WholeBus) (seat : ℕ) (changes : List Change) (change : Change) → bus_along b (makings seat (changes ++ change ∷ [])) ≡ (bus_step (bus_along b (makings seat changes)) seat change).0
makings_push b seat changes change = ap (bus_along b) (makings_more seat changes (change ∷ [])) ∙ along_more b (makings seat changes) (makings seat (change ∷ []))

told_push : (b : WholeBus) (seat place : ℕ) (changes : List Change) (change : Change) → told_from b seat place (changes ++ change ∷ []) ≡
    told_from b seat place changes ++ record { seat = seat; place = place + length changes + 1; said = Told change (bus_step (bus_along b (makings seat changes)) seat change).1 } ∷ []
told_push b seat place [] change = let e : place + 1 ≡ place + 0 + 1 = omega arith in ap (λ n. record { seat = seat; place = n; said = Told change (bus_step b seat change).1 } ∷ []) e
told_push b seat place (c ∷ changes) change =
    let e : place + 1 + length changes + 1 ≡ place + suc (length changes) + 1 = omega arith in
    let next = (bus_step b seat c).0 in
    ap (λ rest. record { seat = seat; place = place + 1; said = Told c (bus_step b seat c).1 } ∷ rest)
    (told_push next seat (place + 1) changes change ∙ ap (λ n. told_from next seat (place + 1) changes ++ record { seat = seat; place = n; said = Told change (bus_step (bus_along next (makings seat changes)) seat change).1 } ∷ []) e)

-- the first changes of a publication were made, behind this history and this log
pub record IsPublishing (b : WholeBus) (seat : ℕ) (before : List Made) (logged : List LogLine) (changes : List Change) (now : WholeBus) (published : List Made) (log : List LogLine) : Type 0 where
  pub bus : now ≡ bus_along b (makings seat changes)
  pub made : map making published ≡ map making before ++ makings seat changes
  pub told : (lines : List Logged) → AreLines logged lines → AreLines log (lines ++ told_from b seat (length before) changes)

pub none_published : (b : WholeBus) (seat : ℕ) (before : List Made) (logged : List LogLine) → IsPublishing b seat before logged [] b before logged
none_published b seat before logged = record { bus = refl; made = sym (append-nil (map making before)); told = λ lines at. subst (AreLines logged) (sym (append-nil lines)) at }

-- one more change is made
pub one_published : (b : WholeBus) (seat : ℕ) (before : List Made) (logged : List LogLine) (changes : List Change) (change : Change) (now later : WholeBus) (published : List Made) (log : List LogLine) (made : Made) (line : LogLine) →
    IsPublishing b seat before logged changes now published log → later ≡ (bus_step now seat change).0 → making made ≡ record { seat = seat; change = change } →
    line.seat ≡ seat → line.place ≡ length published + 1 → Says line.exchange (Told change (bus_step now seat change).1) →
    IsPublishing b seat before logged (changes ++ change ∷ []) later (published ++ made ∷ []) (log ++ line ∷ [])
one_published b seat before logged changes change now later published log made line so_far later_is made_is seat_is place_is said = record {
  bus = later_is ∙ ap (λ (w : WholeBus). (bus_step w seat change).0) so_far.bus ∙ sym (makings_push b seat changes change);
  made = map-append making published (made ∷ []) ∙ (λ i. so_far.made i ++ made_is i ∷ []) ∙ append_assoc (map making before) (makings seat changes) (makings seat (change ∷ []))
      ∙ ap (λ rest. map making before ++ rest) (sym (makings_more seat changes (change ∷ [])));
  told = λ lines at. subst (AreLines (log ++ line ∷ [])) (told_is lines) (lines_more log (line ∷ []) (lines ++ told_from b seat (length before) changes) (next ∷ []) (so_far.told lines at) (next_line, tt));
}
  where
    next : Logged
    next = record { seat = seat; place = length before + length changes + 1; said = Told change (bus_step (bus_along b (makings seat changes)) seat change).1 }

    count : length published ≡ length before + length changes
    count = sym (length_map making published) ∙ ap length so_far.made ∙ length-append (map making before) (makings seat changes)
        ∙ (λ i. length_map making before i + length_map {Y = Making} (λ c. record { seat = seat; change = c }) changes i)

    next_line : IsLine line next
    next_line = record {
      seat = seat_is;
      place = place_is ∙ ap (λ n. n + 1) count;
      said = subst (λ (w : WholeBus). Says line.exchange (Told change (bus_step w seat change).1)) so_far.bus said;
    }

    told_is : (lines : List Logged) → (lines ++ told_from b seat (length before) changes) ++ next ∷ [] ≡ lines ++ told_from b seat (length before) (changes ++ change ∷ [])
    told_is lines = append_assoc lines (told_from b seat (length before) changes) (next ∷ []) ∙ ap (λ rest. lines ++ rest) (sym (told_push b seat (length before) changes change))
