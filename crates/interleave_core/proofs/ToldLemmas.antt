-- What is logged of a publication.
use Rattle.std.proofs.Common.{◌≡◌, ℕ, suc, ◌+◌, ◌<◌, ◌≤◌, true, List, [], ◌∷◌, ◌++◌, length, refl, ap, sym, ◌∙◌, subst, arith, length-append}
use Rattle.std.specs.List.{AllByRecursion as Each}
use mathlib.Core.List.{append_assoc}
use Rattle.seq_bus_core.specs.Batches.{entries_of}
use Rattle.seq_bus_core.specs.Consistency.{Pairwise}
use Rattle.seq_bus_core.specs.Histories.{History, Begins}
use Rattle.seq_bus_core.specs.Tickets.{WholeBus, bus_step, bus_after}
use Rattle.seq_bus_core.specs.declared.change.Change.{Change}
use Rattle.seq_bus_core.specs.declared.entry.Entry.{Entry}
use Rattle.seq_bus_core.proofs.Extending.{after_more, begins_trans}
use Rattle.seq_bus_core.proofs.Lists.{each_weaker}
use Rattle.interleave_core.specs.Worlds.{Said, Told, Answered, Routed, Found, Logged, told_from}
use Rattle.interleave_core.specs.Promises.{IsRightAt, IsRight, is_change, Follows, GoesOn, made_by, changes_told, changes_from}

-- ## What was right stays so

pub right_more : (opening : WholeBus) (h now : History) → Begins h now → (l : Logged) → IsRight opening h l → IsRight opening now l
right_more opening h now begun l = by_said l.seat l.place l.said
  where
    by_said : (seat place : ℕ) (said : Said) → IsRightAt opening h seat place said → IsRightAt opening now seat place said
    by_said seat place (Told change outcome) right = record {
      point = right.point;
      number = right.number;
      left = right.left;
      stands = begins_trans (right.point ++ record { seat = seat; number = right.number; change = change; left = right.left } ∷ []) h now right.stands begun;
      place_is = right.place_is;
      told = right.told;
    }
    by_said seat place (Answered query told) right = (right.0, begins_trans right.0 h now right.1 begun, right.2, right.3)
    by_said seat place (Routed from facts verdict) right = (right.0, begins_trans right.0 h now right.1 begun, right.2, right.3)
    by_said seat place (Found number found) right = (right.0, begins_trans right.0 h now right.1 begun, right.2, right.3)

-- ## The lines of a publication

-- a line of a seat that tells it a change behind this place, and not far behind
pub record IsToldIn (seat place count : ℕ) (l : Logged) : Type 0 where
  pub seat_is : l.seat ≡ seat
  pub behind : place < l.place
  pub within : l.place ≤ place + count
  pub told : is_change l.said ≡ true

pub told_in : (b : WholeBus) (seat place : ℕ) (changes : List Change) → Each (IsToldIn seat place (length changes)) (told_from b seat place changes)
told_in b seat place [] = tt
told_in b seat place (change ∷ changes) = (
  record { seat_is = refl; behind = omega arith; within = omega arith; told = refl },
  each_weaker (IsToldIn seat (place + 1) (length changes)) (IsToldIn seat place (suc (length changes))) wider (told_from (bus_step b seat change).0 seat (place + 1) changes)
      (told_in (bus_step b seat change).0 seat (place + 1) changes),
)
  where
    wider : (l : Logged) → IsToldIn seat (place + 1) (length changes) l → IsToldIn seat place (suc (length changes)) l
    wider l t = record { seat_is = t.seat_is; behind = omega (arith, t.behind); within = omega (arith, t.within); told = t.told }

-- what is told of a later change goes on behind each line that stands before it
pub follows_told : (earlier later : Logged) → is_change later.said ≡ true → earlier.place < later.place → GoesOn earlier later
follows_told earlier later told less same = subst (Follows earlier.place later.place) (sym told) less

pub told_rise : (b : WholeBus) (seat place : ℕ) (changes : List Change) → Pairwise GoesOn (told_from b seat place changes)
told_rise b seat place [] = tt
told_rise b seat place (change ∷ changes) = (
  each_weaker (IsToldIn seat (place + 1) (length changes)) (GoesOn first) behind (told_from (bus_step b seat change).0 seat (place + 1) changes) (told_in (bus_step b seat change).0 seat (place + 1) changes),
  told_rise (bus_step b seat change).0 seat (place + 1) changes,
)
  where
    first : Logged
    first = record { seat = seat; place = place + 1; said = Told change (bus_step b seat change).1 }

    behind : (l : Logged) → IsToldIn seat (place + 1) (length changes) l → GoesOn first l
    behind l t = follows_told first l t.told t.behind

pub told_right : (opening : WholeBus) (now point : History) (b : WholeBus) (seat number place : ℕ) (changes : List Change) →
    b ≡ bus_after opening point → place ≡ length point → Begins (point ++ entries_of seat number changes) now →
    Each (IsRight opening now) (told_from b seat place changes)
told_right opening now point b seat number place [] bus_is place_is begun = tt
told_right opening now point b seat number place (change ∷ changes) bus_is place_is begun = (
  record {
    point = point;
    number = number;
    left = length changes;
    stands = (entries_of seat (number + 1) changes ++ begun.0, assoc);
    place_is = ap (λ n. n + 1) place_is;
    told = ap (λ (w : WholeBus). (bus_step w seat change).1) bus_is;
  },
  told_right opening now (point ++ entry ∷ []) (bus_step b seat change).0 seat (number + 1) (place + 1) changes
      (ap (λ (w : WholeBus). (bus_step w seat change).0) bus_is ∙ sym (after_more opening point (entry ∷ [])))
      (ap (λ n. n + 1) place_is ∙ sym (length-append point (entry ∷ [])))
      (subst (λ h. Begins h now) (sym (append_assoc point (entry ∷ []) (entries_of seat (number + 1) changes))) begun),
)
  where
    entry : Entry
    entry = record { seat = seat; number = number; change = change; left = length changes }

    assoc : (point ++ entry ∷ []) ++ (entries_of seat (number + 1) changes ++ begun.0) ≡ now
    assoc = append_assoc point (entry ∷ []) (entries_of seat (number + 1) changes ++ begun.0)
        ∙ sym (append_assoc point (entry ∷ entries_of seat (number + 1) changes) begun.0) ∙ begun.1

-- ## Changes by place

pub told_more : (log more : List Logged) → changes_told (log ++ more) ≡ changes_told log ++ changes_told more
told_more [] more = refl
told_more (l ∷ log) more = ap (λ rest. made_by l.seat l.place l.said ++ rest) (told_more log more) ∙ sym (append_assoc (made_by l.seat l.place l.said) (changes_told log) (changes_told more))

pub changes_more : (place : ℕ) (h more : History) → changes_from place (h ++ more) ≡ changes_from place h ++ changes_from (place + length h) more
changes_more place [] more = let e : place ≡ place + 0 = omega arith in ap (λ n. changes_from n more) e
changes_more place (x ∷ h) more =
    let e : place + 1 + length h ≡ place + suc (length h) = omega arith in
    ap (λ rest. record { place = place; seat = x.seat; change = x.change } ∷ rest) (changes_more (place + 1) h more ∙ ap (λ n. changes_from (place + 1) h ++ changes_from n more) e)

pub told_changes : (b : WholeBus) (seat number place : ℕ) (changes : List Change) → changes_told (told_from b seat place changes) ≡ changes_from (place + 1) (entries_of seat number changes)
told_changes b seat number place [] = refl
told_changes b seat number place (change ∷ changes) = ap (λ rest. record { place = place + 1; seat = seat; change = change } ∷ rest) (told_changes (bus_step b seat change).0 seat (number + 1) (place + 1) changes)
