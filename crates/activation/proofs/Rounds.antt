-- A round over all that waits: what waits for the name is let go, what waits for another goes
-- behind again.
use Rattle.std.proofs.Common.{◌≡◌, ℕ, ◌+◌, ◌<◌, zero, suc, true, false, not, List, [], ◌∷◌, ◌++◌, length, map, take, drop, refl, sym, ap, ◌∙◌, arith, add-one, append_assoc}
use Rattle.std.specs.List.{filter}
use Rattle.std.proofs.lemmas.List.{map-append}
use Rattle.std.proofs.lemmas.List.Elements.{filter-append}
use mathlib.Core.List.{append-nil}
use Rattle.names.specs.Texts.{Text}
use Rattle.activation.specs.Holding.{Waiting, waits_for, waiting_for, waiting_for_others, given_as}
use Rattle.seq_bus_core.specs.declared.ticket.Fate.{Fate}
use Rattle.activation.specs.declared.given.Given.{Given}

-- after so many turns of a round over what waited at first
pub record Round (T : Type 0) (name : Text) (fate : Fate) (first : List (Waiting T)) (before : List (Given T)) (turns : ℕ) (waits : List (Waiting T)) (gone : List (Given T)) : Type 0 where
  pub held : waits ≡ drop turns first ++ waiting_for_others name (take turns first)
  pub given : gone ≡ before ++ given_as fate (waiting_for name (take turns first))

-- the element of the next turn
next_of : {X : Type 0} (xs : List X) (i : ℕ) → i < length xs → (x : X) × (drop i xs ≡ x ∷ drop (i + 1) xs) × (take (i + 1) xs ≡ take i xs ++ x ∷ [])
next_of [] i h = absurd (omega (arith, h))
next_of (x ∷ xs) zero h = (x, refl, refl)
next_of (x ∷ xs) (suc i) h =
    let later = next_of xs i (omega (arith, h)) in (later.0, rw add-one (rw add-one at later.1), rw add-one (ap (λ ys. x ∷ ys) (rw add-one at later.2)))

pub round_begins : (T : Type 0) (name : Text) (fate : Fate) (first : List (Waiting T)) (before : List (Given T)) → Round T name fate first before 0 first before
round_begins T name fate first before = record { held = sym (append-nil first); given = sym (append-nil before) }

-- while turns are left, something waits
pub round_goes_on : (T : Type 0) (name : Text) (fate : Fate) (first : List (Waiting T)) (before : List (Given T)) (turns : ℕ) (held : List (Waiting T)) (given : List (Given T)) →
    Round T name fate first before turns held given → turns < length first → length held ≡ 0 → ⊥
round_goes_on T name fate first before turns held given round more none =
    let next = next_of first turns more in
    let others : List (Waiting T) = waiting_for_others name (take turns first) in
    let some : length held ≡ suc (length (drop (turns + 1) first ++ others)) = ap length round.held ∙ ap (λ rest. length (rest ++ others)) next.1 in
    omega (arith, some, none)

-- the first of what waits, w, waits for the name or for another
pub round_turns : (T : Type 0) (name : Text) (fate : Fate) (first : List (Waiting T)) (before : List (Given T)) (turns : ℕ) (held : List (Waiting T)) (given : List (Given T)) →
    Round T name fate first before turns held given → turns < length first → (w : Waiting T) (rest : List (Waiting T)) → held ≡ w ∷ rest →
    (waits_for name w ≡ true → Round T name fate first before (turns + 1) rest (given ++ record { fate = fate; what = w.what } ∷ [])) × (waits_for name w ≡ false → Round T name fate first before (turns + 1) (rest ++ w ∷ []) given)
round_turns T name fate first before turns held given round more w rest is =
    let next = next_of first turns more in
    let others : List (Waiting T) = waiting_for_others name (take turns first) in
    let front : w ∷ rest ≡ next.0 ∷ (drop (turns + 1) first ++ others) = sym is ∙ round.held ∙ ap (λ ys. ys ++ others) next.1 in
    let same : next.0 ≡ w = cc in
    let left : rest ≡ drop (turns + 1) first ++ others = cc in
    let taken : take (turns + 1) first ≡ take turns first ++ w ∷ [] = next.2 ∙ ap (λ x. take turns first ++ x ∷ []) same in
    let more_others : waiting_for_others name (take (turns + 1) first) ≡ others ++ waiting_for_others name (w ∷ []) = ap (waiting_for_others name) taken ∙ filter-append (λ v. not (waits_for name v)) (take turns first) (w ∷ []) in
    let more_given : waiting_for name (take (turns + 1) first) ≡ waiting_for name (take turns first) ++ waiting_for name (w ∷ []) =
    ap (waiting_for name) taken ∙ ap (map (λ (v : Waiting T). v.what)) (filter-append (waits_for name) (take turns first) (w ∷ [])) ∙ map-append (λ (v : Waiting T). v.what) (filter (waits_for name) (take turns first)) (filter (waits_for name) (w ∷ [])) in (
      (λ its. record {
        held = left ∙ ap (λ ys. drop (turns + 1) first ++ ys) (sym (more_others ∙ rw its (append-nil others)));
        given = ap (λ ys. ys ++ record { fate = fate; what = w.what } ∷ []) round.given ∙ append_assoc before (given_as fate (waiting_for name (take turns first))) (record { fate = fate; what = w.what } ∷ [])
            ∙ ap (λ ys. before ++ ys) (sym (ap (given_as fate) more_given ∙ map-append (λ (what : T). record { fate = fate; what = what }) (waiting_for name (take turns first)) (waiting_for name (w ∷ [])) ∙ rw its refl));
      }),
      (λ other. record {
        held = ap (λ ys. ys ++ w ∷ []) left ∙ append_assoc (drop (turns + 1) first) others (w ∷ []) ∙ ap (λ ys. drop (turns + 1) first ++ ys) (sym (more_others ∙ rw other refl));
        given = round.given ∙ ap (λ ys. before ++ given_as fate ys) (sym (more_given ∙ rw other (append-nil (waiting_for name (take turns first)))));
      }),
    )

drop_all : {X : Type 0} (xs : List X) → drop (length xs) xs ≡ []
drop_all [] = refl
drop_all (x ∷ xs) = drop_all xs

take_all : {X : Type 0} (xs : List X) → take (length xs) xs ≡ xs
take_all [] = refl
take_all (x ∷ xs) = ap (λ ys. x ∷ ys) (take_all xs)

-- what a whole round comes to
pub round_ends : (T : Type 0) (name : Text) (fate : Fate) (first : List (Waiting T)) (before : List (Given T)) (held : List (Waiting T)) (given : List (Given T)) →
    Round T name fate first before (length first) held given → (held ≡ waiting_for_others name first) × (given ≡ before ++ given_as fate (waiting_for name first))
round_ends T name fate first before held given round = (
  round.held ∙ ap (λ ys. ys ++ waiting_for_others name (take (length first) first)) (drop_all first) ∙ ap (waiting_for_others name) (take_all first),
  round.given ∙ ap (λ ys. before ++ given_as fate (waiting_for name ys)) (take_all first),
)
