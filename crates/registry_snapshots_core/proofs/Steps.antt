-- What a change does to the copies.
use Rattle.std.proofs.Common.{◌≡◌, ℕ, ◌+◌, ◌<◌, ◌≤◌, ◌==◌, ltb, Bool, true, false, cond, List, [], ◌∷◌, ◌++◌, length, refl, ap, sym, ◌∙◌, ◌≢◌, subst, arith, length-append, slice_index, slice_set, if◌then◌else◌}
use Rattle.std.specs.List.{range_with_len}
use Rattle.std.proofs.lemmas.Bool.Decides.{nat_tests}
use Rattle.std.proofs.lemmas.List.{get_or-set_other, length-set}
use Rattle.std.proofs.lemmas.List.FromFn.{length-range_with_len}
use Rattle.std.proofs.lemmas.Grind.{get_or-set_at}
use Rattle.logbook.specs.Pages.{Book}
use Rattle.seq_bus_core.specs.Batches.{entries_of}
use Rattle.seq_bus_core.specs.BusState.{BusState}
use Rattle.seq_bus_core.specs.Changes.{as_seen}
use Rattle.seq_bus_core.specs.Histories.{History, IsLegal, numbers_of, entry_alone}
use Rattle.seq_bus_core.specs.Steps.{step}
use Rattle.seq_bus_core.specs.Tickets.{WholeBus, bus_after}
use Rattle.seq_bus_core.specs.declared.change.Change.{Change}
use Rattle.seq_bus_core.specs.declared.entry.Entry.{Entry}
use Rattle.seq_bus_core.proofs.ChangeLaws.{steps_see_no_more}
use Rattle.seq_bus_core.proofs.Extending.{after_more, legal_more, numbers_mine, numbers_others}
use Rattle.registry.specs.PreparedChanges.{PreparedChange, ArePreparedFor, absorbed_along, state_along}
use Rattle.registry.proofs.Along.{absorbed_is, entries_along}
use Rattle.registry_snapshots_core.specs.Copies.{PrefixView, SnapView, prefix_of, put_number, absorbed, absorbed_all, IsSnapOf, IsLastOf}

put_length : (last : List ℕ) (seat number : ℕ) → length (put_number last seat number) ≡ length last
put_length last seat number = by_test (ltb seat (length last))
  where
    by_test : (b : Bool) → length (if b then slice_set last seat number else last) ≡ length last
    by_test true = length-set last seat number
    by_test false = refl

put_at : (last : List ℕ) (seat number i : ℕ) → i < length last → slice_index (put_number last seat number) i ≡ cond (seat == i) number (slice_index last i)
put_at last seat number i within = by_tests (ltb seat (length last)) refl (seat == i) refl
  where
    by_tests : (b : Bool) → ltb seat (length last) ≡ b → (d : Bool) → (seat == i) ≡ d → slice_index (if b then slice_set last seat number else last) i ≡ cond d number (slice_index last i)
    by_tests true there true same = get_or-set_at last seat i number 0 (grind (arith, nat_tests)) (grind (arith, nat_tests))
    by_tests true there false other = get_or-set_other last seat i number 0 (grind (arith, nat_tests))
    by_tests false away true same = let e : seat ≡ i = grind (arith, nat_tests) in let le : length last ≤ seat = grind (arith, nat_tests) in absurd (omega arith)
    by_tests false away false other = refl

-- an entry with none left is a publication of its own
pub by_itself : (e : Entry) → e.left ≡ 0 → e ≡ entry_alone e.seat e.number e.change
by_itself e alone = λ i. record { seat = e.seat; number = e.number; change = e.change; left = alone i }

-- the next change of a seat may be added
pub next_legal : (log : History) (e : Entry) → IsLegal log → e.left ≡ 0 → e.number ≡ length (numbers_of e.seat log) + 1 → IsLegal (log ++ e ∷ [])
next_legal log e legal alone number = subst (λ (x : Entry). IsLegal (log ++ x ∷ [])) (sym (by_itself e alone)) (legal_more log e.seat e.number (e.change ∷ []) legal number)

-- the numbers of the last changes, where the number of the last of a batch is written into them
last_more : (last last' : List ℕ) (h : History) (seat first number : ℕ) (changes : List Change) → IsLastOf last h → number ≡ length (numbers_of seat h) + length changes → length last' ≡ length last
    → ((i : ℕ) → i < length last → slice_index last' i ≡ cond (seat == i) number (slice_index last i)) → IsLastOf last' (h ++ entries_of seat first changes)
last_more last last' h seat first number changes kept next same new other within = by_test (seat == other) refl
  where
    more : History
    more = h ++ entries_of seat first changes

    there : other < length last
    there = omega arith

    count : length (numbers_of seat more) ≡ number
    count =
        let added = range_with_len first (length changes) in
        let mine : numbers_of seat more ≡ numbers_of seat h ++ added = numbers_mine seat first h changes in
        omega (arith, next, ap length mine, length-append (numbers_of seat h) added, length-range_with_len first (length changes))

    by_test : (b : Bool) → (seat == other) ≡ b → slice_index last' other ≡ length (numbers_of other more)
    by_test true is =
        let mine : seat ≡ other = grind (arith, nat_tests) in
        let at : slice_index last' other ≡ number = rw is at (new other there) in
        at ∙ sym (subst (λ (s : ℕ). length (numbers_of s more) ≡ number) mine count)
    by_test false is =
        let differ : seat ≢ other = grind (arith, nat_tests) in
        let at : slice_index last' other ≡ slice_index last other = rw is at (new other there) in
        omega (arith, at, kept other there, ap length (numbers_others seat other first h changes differ))

-- the copy that has the change of an entry too, which was prepared for it
pub snap_next : (book : Book) (opening : WholeBus) (s : SnapView) (e : Entry) (p : PreparedChange) (prefix : PrefixView) → IsSnapOf book opening s → e.left ≡ 0 → e.number ≡ length (numbers_of e.seat s.prefix.log) + 1
    → p.seat ≡ e.seat → p.change ≡ as_seen e.change → prefix ≡ prefix_of book (s.prefix.log ++ e ∷ []) → IsSnapOf book opening (absorbed s e.seat e.number p prefix)
snap_next book opening s e p prefix kept alone number seat change is =
    let stepped : (step s.bus p.seat p.change).0 ≡ (step s.bus e.seat e.change).0 =
    ap (λ k. (step s.bus k p.change).0) seat ∙ ap (λ d. (step s.bus e.seat d).0) change ∙ ap (λ r. r.0) (steps_see_no_more s.bus e.seat e.change) in
    let after : (step s.bus p.seat p.change).0 ≡ (bus_after opening (s.prefix.log ++ e ∷ [])).state =
    stepped ∙ ap (λ (b : BusState). (step b e.seat e.change).0) kept.bus_is ∙ sym (ap (λ (b : WholeBus). b.state) (after_more opening s.prefix.log (e ∷ []))) in
    let last : IsLastOf (put_number s.last e.seat e.number) (s.prefix.log ++ entry_alone e.seat e.number e.change ∷ []) =
    last_more s.last (put_number s.last e.seat e.number) s.prefix.log e.seat e.number e.number (e.change ∷ []) kept.last_is number (put_length s.last e.seat e.number) (put_at s.last e.seat e.number) in
    subst (λ (f : PrefixView). IsSnapOf book opening (absorbed s e.seat e.number p f)) (sym is)
    (record {
      book_is = refl;
      bus_is = after;
      last_is = subst (λ (x : Entry). IsLastOf (put_number s.last e.seat e.number) (s.prefix.log ++ x ∷ [])) (sym (by_itself e alone)) last;
    })

-- the copy that has the changes of a batch too, which were prepared for it
pub snap_next_all : (book : Book) (opening : WholeBus) (s : SnapView) (seat first number : ℕ) (changes : List Change) (prepared : List PreparedChange) (prefix : PrefixView) → IsSnapOf book opening s
    → number ≡ length (numbers_of seat s.prefix.log) + length changes → ArePreparedFor seat changes prepared → prefix ≡ prefix_of book (s.prefix.log ++ entries_of seat first changes) → IsSnapOf book opening (absorbed_all s seat number prepared prefix)
snap_next_all book opening s seat first number changes prepared prefix kept count all is =
    let more : History = s.prefix.log ++ entries_of seat first changes in
    let stepped : absorbed_along s.bus prepared ≡ state_along (bus_after opening s.prefix.log).state seat changes =
    absorbed_is s.bus seat changes prepared all ∙ ap (λ (t : BusState). state_along t seat changes) kept.bus_is in
    let after : absorbed_along s.bus prepared ≡ (bus_after opening more).state =
    stepped ∙ sym (entries_along (bus_after opening s.prefix.log) seat first changes) ∙ sym (ap (λ (b : WholeBus). b.state) (after_more opening s.prefix.log (entries_of seat first changes))) in
    let last : IsLastOf (put_number s.last seat number) more =
    last_more s.last (put_number s.last seat number) s.prefix.log seat first number changes kept.last_is count (put_length s.last seat number) (put_at s.last seat number) in
    subst (λ (f : PrefixView). IsSnapOf book opening (absorbed_all s seat number prepared f)) (sym is)
    (record { book_is = refl; bus_is = after; last_is = last })
