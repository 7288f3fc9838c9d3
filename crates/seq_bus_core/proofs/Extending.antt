-- What more entries do to a history. One entry is a batch of one: `entries_of seat number (change ∷ [])` is
-- `entry_alone seat number change ∷ []`.
use Rattle.std.proofs.Common.{append_assoc, ◌≡◌, ◌≢◌, ℕ, zero, suc, ◌+◌, ◌≤◌, ◌==◌, Bool, true, false, cond, List, [], ◌∷◌, ◌++◌, length, map, refl, ap, sym, ◌∙◌, subst, arith}
use Rattle.std.proofs.lemmas.Bool.{and_parts, and_from, or_left, or_right}
use Rattle.std.proofs.lemmas.Bool.Decides.{nat_tests}
use Rattle.std.proofs.lemmas.List.{append-nil, map-append}
use Rattle.std.proofs.lemmas.List.Elements.{filter-append}
use Rattle.std.specs.List.{range_with_len, filter}
use Rattle.seq_bus_core.specs.Batches.{entries_of}
use Rattle.seq_bus_core.specs.BusState.{BusState}
use Rattle.seq_bus_core.specs.Histories.{History, Begins, HasJust, IsLegal, after, numbers_of, goes_on, has_whole_publications, ends_publication}
use Rattle.seq_bus_core.specs.Laws.{BatchesAreLegal}
use Rattle.seq_bus_core.specs.Steps.{step}
use Rattle.seq_bus_core.specs.Tickets.{WholeBus, bus_step, bus_after}
use Rattle.seq_bus_core.specs.declared.change.Change.{Change}
use Rattle.seq_bus_core.specs.declared.entry.Entry.{Entry}

pub after_more : (b : WholeBus) (h more : History) → bus_after b (h ++ more) ≡ bus_after (bus_after b h) more
after_more b [] more = refl
after_more b (x ∷ h) more = after_more (bus_step b x.seat x.change).0 h more

pub state_more : (s : BusState) (h more : History) → after s (h ++ more) ≡ after (after s h) more
state_more s [] more = refl
state_more s (x ∷ h) more = state_more (step s x.seat x.change).0 h more

pub begins_trans : (a b c : History) → Begins a b → Begins b c → Begins a c
begins_trans a b c p q = (p.0 ++ q.0, sym (append_assoc a p.0 q.0) ∙ ap (λ h. h ++ q.0) p.1 ∙ q.1)

pub entries_length : (seat number : ℕ) (changes : List Change) → length (entries_of seat number changes) ≡ length changes
entries_length seat number [] = refl
entries_length seat number (change ∷ changes) = ap suc (entries_length seat (number + 1) changes)

pub range_more : (a m n : ℕ) → range_with_len a (m + n) ≡ range_with_len a m ++ range_with_len (a + m) n
range_more a zero n = let none : zero + n ≡ n = omega arith in let same : a ≡ a + 0 = omega arith in ap (range_with_len a) none ∙ ap (λ k. range_with_len k n) same
range_more a (suc m) n =
    let more : suc m + n ≡ suc (m + n) = omega arith in
    let last : a + 1 + m ≡ a + suc m = omega arith in
    ap (range_with_len a) more ∙ ap (λ rest. a ∷ rest) (range_more (a + 1) m n ∙ ap (λ k. range_with_len (a + 1) m ++ range_with_len k n) last)

range_length : (a n : ℕ) → length (range_with_len a n) ≡ n
range_length a zero = refl
range_length a (suc n) = ap suc (range_length (a + 1) n)

-- ## Numbers

pub numbers_more : (seat : ℕ) (h more : History) → numbers_of seat (h ++ more) ≡ numbers_of seat h ++ numbers_of seat more
numbers_more seat h more =
    ap (map (λ (x : Entry). x.number)) (filter-append (λ (x : Entry). x.seat == seat) h more)
    ∙ map-append (λ (x : Entry). x.number) (filter (λ (x : Entry). x.seat == seat) h) (filter (λ (x : Entry). x.seat == seat) more)

pub numbers_length : (seat : ℕ) (h : History) → length (numbers_of seat h) ≤ length h
numbers_length seat [] = omega arith
numbers_length seat (x ∷ h) = by_test (x.seat == seat) (numbers_length seat h)
  where
    by_test : (b : Bool) → length (numbers_of seat h) ≤ length h → length (map (λ (e : Entry). e.number) (cond b (x ∷ filter (λ (e : Entry). e.seat == seat) h) (filter (λ (e : Entry). e.seat == seat) h))) ≤ suc (length h)
    by_test true le = omega arith
    by_test false le = omega arith

-- the numbers of a batch, for its own seat
numbers_own : (seat number : ℕ) (changes : List Change) → (seat == seat) ≡ true → numbers_of seat (entries_of seat number changes) ≡ range_with_len number (length changes)
numbers_own seat number [] same = refl
numbers_own seat number (change ∷ changes) same = rw same (ap (λ ns. number ∷ ns) (numbers_own seat (number + 1) changes same))

-- and for another
numbers_none : (seat other number : ℕ) (changes : List Change) → (seat == other) ≡ false → numbers_of other (entries_of seat number changes) ≡ []
numbers_none seat other number [] differ = refl
numbers_none seat other number (change ∷ changes) differ = rw differ (numbers_none seat other (number + 1) changes differ)

pub numbers_mine : (seat number : ℕ) (h : History) (changes : List Change) → numbers_of seat (h ++ entries_of seat number changes) ≡ numbers_of seat h ++ range_with_len number (length changes)
numbers_mine seat number h changes =
    let same : (seat == seat) ≡ true = grind (arith, nat_tests) in
    numbers_more seat h (entries_of seat number changes) ∙ ap (λ ns. numbers_of seat h ++ ns) (numbers_own seat number changes same)

pub numbers_others : (seat other number : ℕ) (h : History) (changes : List Change) → seat ≢ other → numbers_of other (h ++ entries_of seat number changes) ≡ numbers_of other h
numbers_others seat other number h changes differ =
    let differs : (seat == other) ≡ false = grind (arith, nat_tests) in
    numbers_more other h (entries_of seat number changes) ∙ ap (λ ns. numbers_of other h ++ ns) (numbers_none seat other number changes differs) ∙ append-nil (numbers_of other h)

-- ## Whole publications

whole_alone : (seat number : ℕ) (changes : List Change) → has_whole_publications (entries_of seat number changes) ≡ true
whole_alone seat number [] = refl
whole_alone seat number (change ∷ []) = refl
whole_alone seat number (change ∷ next ∷ changes) =
    let same : (seat == seat) ≡ true = grind (arith, nat_tests) in
    let one_less : (suc (length changes) == length changes + 1) ≡ true = grind (arith, nat_tests) in
    and_from _ (has_whole_publications (entries_of seat (number + 1) (next ∷ changes)))
    (or_right (suc (length changes) == 0) _ (and_from (seat == seat) (suc (length changes) == length changes + 1) same one_less))
    (whole_alone seat (number + 1) (next ∷ changes))

-- whole publications behind whole ones
pub whole_more : (h more : History) → has_whole_publications h ≡ true → has_whole_publications more ≡ true → has_whole_publications (h ++ more) ≡ true
whole_more [] more first then = then
whole_more (x ∷ []) [] first then = first
whole_more (x ∷ []) (y ∷ more) first then =
    let parts = and_parts (x.left == 0) true first in
    and_from (goes_on x (y ∷ more)) (has_whole_publications (y ∷ more)) (or_left (x.left == 0) _ parts.0) then
whole_more (x ∷ y ∷ h) more first then =
    let parts = and_parts (goes_on x (y ∷ h)) (has_whole_publications (y ∷ h)) first in
    and_from (goes_on x (y ∷ h ++ more)) (has_whole_publications (y ∷ h ++ more)) parts.0 (whole_more (y ∷ h) more parts.1 then)

ends_alone : (seat number : ℕ) (changes : List Change) → ends_publication (entries_of seat number changes) ≡ true
ends_alone seat number [] = refl
ends_alone seat number (change ∷ []) = refl
ends_alone seat number (change ∷ next ∷ changes) = ends_alone seat (number + 1) (next ∷ changes)

ends_with : (h more : History) → ends_publication h ≡ true → ends_publication more ≡ true → ends_publication (h ++ more) ≡ true
ends_with [] more first then = then
ends_with (x ∷ []) [] first then = first
ends_with (x ∷ []) (y ∷ more) first then = then
ends_with (x ∷ y ∷ h) more first then = ends_with (y ∷ h) more first then

-- a batch ends its publication
pub ends_more : (h : History) (seat number : ℕ) (changes : List Change) → ends_publication h ≡ true → ends_publication (h ++ entries_of seat number changes) ≡ true
ends_more h seat number changes ends = ends_with h (entries_of seat number changes) ends (ends_alone seat number changes)

-- ## Legal histories

-- the history has the seat's changes from 1 to the last of the batch
pub just_more : (seat made : ℕ) (h : History) (changes : List Change) → HasJust seat made h → HasJust seat (made + length changes) (h ++ entries_of seat (made + 1) changes)
just_more seat made h changes just =
    let next : made + 1 ≡ 1 + made = omega arith in
    numbers_mine seat (made + 1) h changes ∙ ap (λ front. front ++ range_with_len (made + 1) (length changes)) just
    ∙ ap (λ k. range_with_len 1 made ++ range_with_len k (length changes)) next ∙ sym (range_more 1 made (length changes))

counted : (seat made : ℕ) (h : History) → HasJust seat made h → numbers_of seat h ≡ range_with_len 1 (length (numbers_of seat h))
counted seat made h just = just ∙ ap (range_with_len 1) (sym (ap length just ∙ range_length 1 made))

pub legal_more : (h : History) (seat number : ℕ) (changes : List Change) → IsLegal h → number ≡ length (numbers_of seat h) + 1 → IsLegal (h ++ entries_of seat number changes)
legal_more h seat number changes legal next = record {
  numbered = λ other. by_test other (seat == other) refl;
  whole = whole_more h (entries_of seat number changes) legal.whole (whole_alone seat number changes);
}
  where
    made : ℕ
    made = length (numbers_of seat h)

    mine : HasJust seat (made + length changes) (h ++ entries_of seat number changes)
    mine = subst (λ n. HasJust seat (made + length changes) (h ++ entries_of seat n changes)) (sym next) (just_more seat made h changes (legal.numbered seat))

    by_test : (other : ℕ) (b : Bool) → (seat == other) ≡ b → numbers_of other (h ++ entries_of seat number changes) ≡ range_with_len 1 (length (numbers_of other (h ++ entries_of seat number changes)))
    by_test other true is =
        let same : seat ≡ other = grind (arith, nat_tests) in
        subst (λ n. numbers_of n (h ++ entries_of seat number changes) ≡ range_with_len 1 (length (numbers_of n (h ++ entries_of seat number changes)))) same
        (counted seat (made + length changes) (h ++ entries_of seat number changes) mine)
    by_test other false is =
        let differ : seat ≢ other = grind (arith, nat_tests) in
        let now : numbers_of other (h ++ entries_of seat number changes) ≡ numbers_of other h = numbers_others seat other number h changes differ in
        now ∙ legal.numbered other ∙ ap (λ (ns : List ℕ). range_with_len 1 (length ns)) (sym now)

pub batches_are_legal : BatchesAreLegal
batches_are_legal h seat changes legal =
    (legal_more h seat (length (numbers_of seat h) + 1) changes legal refl, just_more seat (length (numbers_of seat h)) h changes (legal.numbered seat))
