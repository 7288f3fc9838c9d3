-- Lists of calls that wait, numbered in order of arrival.
use Rattle.std.proofs.Common.{◌≡◌, ℕ, ◌+◌, ◌<◌, ◌≤◌, nat_eq, Bool, true, false, not, Some, List, [], ◌∷◌, ◌++◌, length, map, refl, sym, ap, ◌∙◌, arith}
use Rattle.std.specs.List.{AllByRecursion as Each, filter, find, list_any}
use Rattle.std.proofs.lemmas.Bool.{cond_both, true≢false, eq-eqb, ne_eqb, not-true}
use Rattle.std.proofs.lemmas.List.{map-append, length-map}
use Rattle.std.proofs.lemmas.List.Sums.{sum_by-cons}
use Rattle.std.proofs.lemmas.List.Elements.{filter-append}
use Rattle.std.proofs.lemmas.Cmp.{nat_list_eq_equiv}
use Rattle.names.specs.Texts.{Text, text_eq}
use Rattle.activation.specs.Holding.{Waiting, waits_for, waiting_for, waiting_for_others}
use Rattle.seq_bus_core.specs.BusState.{RunningStart, tickets_in}
use Rattle.seq_bus_core.specs.Consistency.{Pairwise}
use Rattle.seq_bus_core.specs.declared.ticket.Ticket.{Ticket}
use Rattle.seq_bus_core.proofs.Lists.{each_weaker, each_both, each_map, each_filter, each_passing, each_always, found_having, none_any}
use Rattle.seq_bus_core.proofs.TextLemmas.{text_eq-true, text_eq-swapped}
use Rattle.activation.specs.Holdings.{Calls, numbers_for, has_start}

-- ## Names

pub text_eq-itself : (a : Text) → text_eq a a ≡ true
text_eq-itself a = nat_list_eq_equiv.refl a

-- ## Filters

-- tests that agree on the elements of a list choose the same
pub filter_alike : {X : Type 0} (test other : X → Bool) (xs : List X) → Each (λ x. test x ≡ other x) xs → filter test xs ≡ filter other xs
filter_alike test other [] h = refl
filter_alike test other (x ∷ xs) h = cond_both (other x) (x ∷ filter other xs) (filter other xs) (λ ys. filter test (x ∷ xs) ≡ ys)
    (λ keeps. rw (h.0 ∙ keeps) (ap (λ ys. x ∷ ys) (filter_alike test other xs h.1)))
    (λ drops. rw (h.0 ∙ drops) (filter_alike test other xs h.1))

pub filter_map_before : {X Y : Type 0} (f : X → Y) (test : Y → Bool) (xs : List X) → filter test (map f xs) ≡ map f (filter (λ x. test (f x)) xs)
filter_map_before f test [] = refl
filter_map_before f test (x ∷ xs) = cond_both (test (f x)) (x ∷ filter (λ y. test (f y)) xs) (filter (λ y. test (f y)) xs) (λ ys. filter test (map f (x ∷ xs)) ≡ map f ys)
    (λ keeps. rw keeps (ap (λ ys. f x ∷ ys) (filter_map_before f test xs)))
    (λ drops. rw drops (filter_map_before f test xs))

pub filter_none : {X : Type 0} (test : X → Bool) (xs : List X) → Each (λ x. test x ≡ false) xs → filter test xs ≡ []
filter_none test [] h = refl
filter_none test (x ∷ xs) h = rw h.0 (filter_none test xs h.1)

pub filter_every : {X : Type 0} (test : X → Bool) (xs : List X) → Each (λ x. test x ≡ true) xs → filter test xs ≡ xs
filter_every test [] h = refl
filter_every test (x ∷ xs) h = rw h.0 (ap (λ ys. x ∷ ys) (filter_every test xs h.1))

-- a filter by a test that holds of none of what was taken out is none the worse for that
pub filter_after : {X : Type 0} (test out : X → Bool) (xs : List X) → Each (λ x. test x ≡ true → out x ≡ false) xs → filter test (filter (λ x. not (out x)) xs) ≡ filter test xs
filter_after test out [] h = refl
filter_after test out (x ∷ xs) h = cond_both (out x) (out x) (out x) (λ _. filter test (filter (λ y. not (out y)) (x ∷ xs)) ≡ filter test (x ∷ xs))
    (λ gone. cond_both (test x) (test x) (test x) (λ _. filter test (filter (λ y. not (out y)) (x ∷ xs)) ≡ filter test (x ∷ xs))
    (λ passes. absurd (true≢false (sym gone ∙ h.0 passes)))
    (λ fails. rw (gone, fails) (filter_after test out xs h.1)))
    (λ stays. rw stays (cond_both (test x) (x ∷ filter test xs) (filter test xs) (λ ys. filter test (x ∷ filter (λ y. not (out y)) xs) ≡ ys)
    (λ passes. rw passes (ap (λ ys. x ∷ ys) (filter_after test out xs h.1)))
    (λ fails. rw fails (filter_after test out xs h.1))))

pub parted_length : {X : Type 0} (test : X → Bool) (xs : List X) → length xs ≡ length (filter test xs) + length (filter (λ x. not (test x)) xs)
parted_length test [] = refl
parted_length test (x ∷ xs) = cond_both (test x) (test x) (test x) (λ _. length (x ∷ xs) ≡ length (filter test (x ∷ xs)) + length (filter (λ y. not (test y)) (x ∷ xs)))
    (λ passes. rw passes (let rest = parted_length test xs in omega (arith, rest)))
    (λ fails. rw fails (let rest = parted_length test xs in omega (arith, rest)))

-- ## Starts that a search finds

-- those that fail the test of a search differ in name from the one that it finds
pub apart_from_found : (test : RunningStart → Bool) (starts : List RunningStart) (r : RunningStart) → Pairwise (λ a b. text_eq a.name b.name ≡ false) starts → find test starts ≡ Some r →
    Each (λ q. test q ≡ false → text_eq q.name r.name ≡ false) starts
apart_from_found test [] r h e = tt
apart_from_found test (x ∷ xs) r h e =
    cond_both (test x) (Some x) (find test xs) (λ o. o ≡ Some r → Each (λ q. test q ≡ false → text_eq q.name r.name ≡ false) (x ∷ xs))
    (λ passes found. let same : x ≡ r = cc in
    ((λ fails. absurd (true≢false (sym passes ∙ fails))), each_weaker (λ q. text_eq x.name q.name ≡ false) (λ q. test q ≡ false → text_eq q.name r.name ≡ false) (λ q apart _. text_eq-swapped r.name q.name (rw (← same) apart)) xs h.0))
    (λ _ found. ((λ _. found_having (λ q. text_eq x.name q.name ≡ false) test xs r found h.0), apart_from_found test xs r h.1 found)) e

-- ## Calls for a name

-- the calls for a name are still there once those for another were taken out
pub numbers_apart : (name other : Text) (calls : Calls) → text_eq name other ≡ false → numbers_for name (waiting_for_others other calls) ≡ numbers_for name calls
numbers_apart name other calls differ =
    ap (λ ws. map (λ t. t.number) (map (λ w. w.what) ws))
    (filter_after (waits_for name) (waits_for other) calls
    (each_always (λ w. waits_for name w ≡ true → waits_for other w ≡ false) (λ w its. ap (λ n. text_eq n other) (text_eq-true w.name name its) ∙ differ) calls))

pub numbers_more : (name : Text) (calls more : Calls) → numbers_for name (calls ++ more) ≡ numbers_for name calls ++ numbers_for name more
numbers_more name calls more =
    ap (λ ws. map (λ t. t.number) (map (λ w. w.what) ws)) (filter-append (waits_for name) calls more)
    ∙ ap (map (λ (t : Ticket). t.number)) (map-append (λ (w : Waiting Ticket). w.what) (filter (waits_for name) calls) (filter (waits_for name) more))
    ∙ map-append (λ (t : Ticket). t.number) (waiting_for name calls) (waiting_for name more)

-- no call waits for a name without a start
pub unstarted_numbers : (starts : List RunningStart) (calls : Calls) (name : Text) → Each (λ w. has_start starts w.name ≡ true) calls → has_start starts name ≡ false → numbers_for name calls ≡ []
unstarted_numbers starts calls name started none =
    ap (λ ws. map (λ t. t.number) (map (λ w. w.what) ws))
    (filter_none (waits_for name) calls
    (each_weaker (λ w. has_start starts w.name ≡ true) (λ w. waits_for name w ≡ false)
    (λ w is. not_true (waits_for name w) (λ its. true≢false (sym is ∙ ap (has_start starts) (text_eq-true w.name name its) ∙ none))) calls started))
  where
    not_true : (b : Bool) → (b ≡ true → ⊥) → b ≡ false
    not_true true h = absurd (h refl)
    not_true false h = refl

-- ## Numbers in order

abbrev pub IsNumbered : Calls → Type 0
IsNumbered calls = Pairwise (λ v w. v.what.number < w.what.number) calls

lower_differs : (m n : ℕ) → m < n → nat_eq m n ≡ false
lower_differs m n h = ne_eqb m n (λ same. omega (arith, h, same))

higher_differs : (m n : ℕ) → m < n → nat_eq n m ≡ false
higher_differs m n h = ne_eqb n m (λ same. omega (arith, h, same))

-- a search by its number finds each call
pub finds_itself : (calls : Calls) → IsNumbered calls → Each (λ w. find (λ t. nat_eq t.number w.what.number) (map (λ v. v.what) calls) ≡ Some w.what) calls
finds_itself [] h = tt
finds_itself (w ∷ ws) h = (
  rw (eq-eqb w.what.number w.what.number refl) refl,
  each_both {X = Waiting Ticket} (λ v. w.what.number < v.what.number) (λ v. find (λ t. nat_eq t.number v.what.number) (map (λ u. u.what) ws) ≡ Some v.what) (λ v. find (λ t. nat_eq t.number v.what.number) (map (λ u. u.what) (w ∷ ws)) ≡ Some v.what)
      (λ v below found. rw (lower_differs w.what.number v.what.number below) found) ws h.0 (finds_itself ws h.1),
)

abbrev is_numbered_in : List Ticket → ℕ → Bool
is_numbered_in tickets number = list_any (λ t. nat_eq t.number number) tickets

-- a call's number is among those of the calls for a name just where it is one of them
pub among_its_own : (name : Text) (calls : Calls) → IsNumbered calls → Each (λ w. list_any (λ t. nat_eq t.number w.what.number) (waiting_for name calls) ≡ waits_for name w) calls
among_its_own name [] h = tt
among_its_own name (w ∷ ws) h = (
  cond_both (waits_for name w) (waits_for name w) (waits_for name w) (λ _. is_numbered_in (waiting_for name (w ∷ ws)) w.what.number ≡ waits_for name w)
      (λ its. rw its (rw (eq-eqb w.what.number w.what.number refl) refl))
      (λ other. rw other
      (none_any (λ t. nat_eq t.number w.what.number) (waiting_for name ws)
      (each_map (λ (v : Waiting Ticket). w.what.number < v.what.number) (λ (t : Ticket). nat_eq t.number w.what.number ≡ false) (λ v. v.what) (λ v below. higher_differs w.what.number v.what.number below) (filter (waits_for name) ws)
      (each_filter (λ v. w.what.number < v.what.number) (waits_for name) ws h.0)))),
  each_both {X = Waiting Ticket} (λ v. w.what.number < v.what.number) (λ v. is_numbered_in (waiting_for name ws) v.what.number ≡ waits_for name v) (λ v. is_numbered_in (waiting_for name (w ∷ ws)) v.what.number ≡ waits_for name v)
      (λ v below own. cond_both (waits_for name w) (waits_for name w) (waits_for name w) (λ _. is_numbered_in (waiting_for name (w ∷ ws)) v.what.number ≡ waits_for name v)
      (λ its. rw its (rw (lower_differs w.what.number v.what.number below) own)) (λ other. rw other own)) ws h.0 (among_its_own name ws h.1),
)

-- ## How many wait

-- no more calls wait than there are tickets
pub few_calls : (starts : List RunningStart) (calls : Calls) → Pairwise (λ a b. text_eq a.name b.name ≡ false) starts → Each (λ r. numbers_for r.name calls ≡ r.tickets) starts → Each (λ w. has_start starts w.name ≡ true) calls →
    length calls ≤ tickets_in starts
few_calls [] [] differ tickets started = omega arith
few_calls [] (w ∷ ws) differ tickets started = absurd (true≢false (sym started.0))
few_calls (r ∷ rs) calls differ tickets started =
    let others : Calls = waiting_for_others r.name calls in
    let later = few_calls rs others differ.1
    (each_both (λ q. text_eq r.name q.name ≡ false) (λ q. numbers_for q.name calls ≡ q.tickets) (λ q. numbers_for q.name others ≡ q.tickets)
    (λ q apart its. numbers_apart q.name r.name calls (text_eq-swapped r.name q.name apart) ∙ its) rs differ.0 tickets.1)
    (each_passing (λ w. has_start (r ∷ rs) w.name ≡ true) (λ w. has_start rs w.name ≡ true) (λ w. not (waits_for r.name w))
    (λ w is keeps. later_start w (text_eq-swapped w.name r.name (not-true (waits_for r.name w) keeps)) is) calls started) in
    let own : length (filter (waits_for r.name) calls) ≡ length r.tickets =
    sym (length-map (filter (waits_for r.name) calls) (λ (w : Waiting Ticket). w.what)) ∙ sym (length-map (waiting_for r.name calls) (λ (t : Ticket). t.number)) ∙ ap length tickets.0 in
    let sum : tickets_in (r ∷ rs) ≡ length r.tickets + tickets_in rs = sum_by-cons (λ (q : RunningStart). length q.tickets) r rs in
    omega (arith, parted_length (waits_for r.name) calls, later, own, sum)
  where
    later_start : (w : Waiting Ticket) → text_eq r.name w.name ≡ false → has_start (r ∷ rs) w.name ≡ true → has_start rs w.name ≡ true
    later_start w apart is = sym (rw apart refl) ∙ is
