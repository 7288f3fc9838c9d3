-- The starts that run, by the tickets that wait for them.
use Rattle.std.proofs.Common.{◌≡◌, ℕ, ◌+◌, Bool, true, false, cond, not, Option, Some, None, option_map, List, [], ◌∷◌, ◌++◌, map, filter, length, append-nil, append_assoc, refl, sym, ap, ◌∙◌, arith, inl, inr, if◌then◌else◌}
use Rattle.std.specs.List.{AllByRecursion as Each, find}
use Rattle.std.proofs.lemmas.Bool.{cases_Bool, cond_both, true≢false}
use Rattle.std.proofs.lemmas.List.Sums.{sum_by-append, sum_by-cons}
use Rattle.std.proofs.lemmas.List.{length_push}
use Rattle.names.specs.Texts.{Text, text_eq}
use Rattle.match_rules.specs.Lists.{Pairwise}
use Rattle.seq_bus_core.specs.BusState.{RunningStart, tickets_in}
use Rattle.seq_bus_core.specs.Steps.{settled, waiting_if}
use Rattle.seq_bus_core.specs.declared.ticket.Fate.{Fate}
use Rattle.seq_bus_core.specs.declared.ticket.SettledNumber.{SettledNumber}
use Rattle.seq_bus_core.proofs.Lists.{each_weaker, find_none, find_passes, pairs_map, pairs_push}
use Rattle.seq_bus_core.proofs.TextLemmas.{text_eq-swapped, text_eq-true}
use Rattle.registry_core.specs.StartTables.{joined_by, numbers_of, run_of, starts_of, with_ticket}
use Rattle.registry_core.specs.declared.start_table.WaitingTicket.{WaitingTicket}

abbrev new_start : WaitingTicket → RunningStart
new_start t = record { name = t.name; number = t.start; tickets = t.number ∷ [] }

-- ## A ticket more

name_kept : (name : Text) (ticket : ℕ) (r : RunningStart) → (waiting_if name ticket r).name ≡ r.name
name_kept name ticket r = cond_both (text_eq r.name name) (record r { tickets = r.tickets ++ ticket ∷ [] }) r (λ q. q.name ≡ r.name) (λ _. refl) (λ _. refl)

number_kept : (name : Text) (ticket : ℕ) (r : RunningStart) → (waiting_if name ticket r).number ≡ r.number
number_kept name ticket r = cond_both (text_eq r.name name) (record r { tickets = r.tickets ++ ticket ∷ [] }) r (λ q. q.number ≡ r.number) (λ _. refl) (λ _. refl)

joins : (name : Text) (ticket : ℕ) (r : RunningStart) → text_eq r.name name ≡ true → waiting_if name ticket r ≡ record r { tickets = r.tickets ++ ticket ∷ [] }
joins name ticket r same = rw same refl

stays_out : (name : Text) (ticket : ℕ) (r : RunningStart) → text_eq r.name name ≡ false → waiting_if name ticket r ≡ r
stays_out name ticket r other = rw other refl

-- ## Names differ

abbrev pub NamesDiffer : List RunningStart → Type 0
NamesDiffer starts = Pairwise (λ a b. text_eq a.name b.name ≡ false) starts

differ_with : (starts : List RunningStart) (t : WaitingTicket) → NamesDiffer starts → NamesDiffer (with_ticket starts t)
differ_with starts t h = by_run (run_of starts t.name) refl
  where
    by_run : (o : Option RunningStart) → run_of starts t.name ≡ o → NamesDiffer (joined_by starts t o)
    by_run None none = pairs_push (λ a b. text_eq a.name b.name ≡ false) starts (new_start t) h (find_none (λ r. text_eq r.name t.name) starts none)
    by_run (Some r) found =
        pairs_map (λ a b. text_eq a.name b.name ≡ false) (λ a b. text_eq a.name b.name ≡ false) (waiting_if t.name t.number)
        (λ a b differ. ap (λ n. text_eq n (waiting_if t.name t.number b).name) (name_kept t.name t.number a) ∙ ap (text_eq a.name) (name_kept t.name t.number b) ∙ differ) starts h

-- ## How many tickets wait

abbrev waiting_for : RunningStart → ℕ
waiting_for r = length r.tickets

no_more : (name : Text) (ticket : ℕ) (starts : List RunningStart) → Each (λ r. text_eq r.name name ≡ false) starts → map (waiting_if name ticket) starts ≡ starts
no_more name ticket [] h = refl
no_more name ticket (r ∷ rs) h = ap (λ q. q ∷ map (waiting_if name ticket) rs) (stays_out name ticket r h.0) ∙ ap (λ qs. r ∷ qs) (no_more name ticket rs h.1)

-- the start of the name gets the ticket, and no other
one_joins : (name : Text) (ticket : ℕ) (starts : List RunningStart) (found : RunningStart) → NamesDiffer starts → run_of starts name ≡ Some found → tickets_in (map (waiting_if name ticket) starts) ≡ tickets_in starts + 1
one_joins name ticket [] found h e = absurd (cc)
one_joins name ticket (r ∷ rs) found h e =
    let f : RunningStart → RunningStart = waiting_if name ticket in
    let after : tickets_in (f r ∷ map f rs) ≡ waiting_for (f r) + tickets_in (map f rs) = sum_by-cons waiting_for (f r) (map f rs) in
    let before : tickets_in (r ∷ rs) ≡ waiting_for r + tickets_in rs = sum_by-cons waiting_for r rs in
    elim (cases_Bool (text_eq r.name name)) [
      | inl same ↦
          let first : waiting_for (f r) ≡ waiting_for r + 1 = ap waiting_for (joins name ticket r same) ∙ length_push r.tickets ticket in
          let rest : tickets_in (map f rs) ≡ tickets_in rs = ap tickets_in (no_more name ticket rs
          (each_weaker (λ q. text_eq r.name q.name ≡ false) (λ q. text_eq q.name name ≡ false)
          (λ q differ. text_eq-swapped name q.name (ap (λ t. text_eq t q.name) (sym (text_eq-true r.name name same)) ∙ differ)) rs h.0)) in
          omega arith
      | inr other ↦
          let first : waiting_for (f r) ≡ waiting_for r = ap waiting_for (stays_out name ticket r other) in
          let later : run_of rs name ≡ Some found = ap (λ b. cond b (Some r) (run_of rs name)) (sym other) ∙ e in
          let rest : tickets_in (map f rs) ≡ tickets_in rs + 1 = one_joins name ticket rs found h.1 later in
          omega arith
    ]

pub one_more : (starts : List RunningStart) (t : WaitingTicket) → NamesDiffer starts → tickets_in (with_ticket starts t) ≡ tickets_in starts + 1
one_more starts t h = by_run (run_of starts t.name) refl
  where
    by_run : (o : Option RunningStart) → run_of starts t.name ≡ o → tickets_in (joined_by starts t o) ≡ tickets_in starts + 1
    by_run None none = sum_by-append waiting_for starts (new_start t ∷ [])
    by_run (Some r) found = one_joins t.name t.number starts r h found

counted : (starts : List RunningStart) (ts : List WaitingTicket) → NamesDiffer starts → tickets_in (starts_of starts ts) ≡ tickets_in starts + length ts
counted starts [] h = omega arith
counted starts (t ∷ ts) h =
    let rest = counted (with_ticket starts t) ts (differ_with starts t h) in
    let one = one_more starts t h in
    omega (arith, rest, one)

pub all_wait : (ts : List WaitingTicket) → tickets_in (starts_of [] ts) ≡ length ts
all_wait ts = let all = counted [] ts tt in let none : tickets_in [] ≡ 0 = refl in omega (arith, all, none)

pub starts_pushed : (starts : List RunningStart) (ts : List WaitingTicket) (t : WaitingTicket) → starts_of starts (ts ++ t ∷ []) ≡ with_ticket (starts_of starts ts) t
starts_pushed starts [] t = refl
starts_pushed starts (u ∷ ts) t = starts_pushed (with_ticket starts u) ts t

-- ## The start of a name

run_joined : (n : Text) (ticket : ℕ) (starts : List RunningStart) (name : Text) → run_of (map (waiting_if n ticket) starts) name ≡ option_map (waiting_if n ticket) (run_of starts name)
run_joined n ticket [] name = refl
run_joined n ticket (r ∷ rs) name =
    ap (λ t. cond (text_eq t name) (Some (waiting_if n ticket r)) (run_of (map (waiting_if n ticket) rs) name)) (name_kept n ticket r) ∙ by_test (text_eq r.name name) (run_joined n ticket rs name)
  where
    by_test : (b : Bool) → run_of (map (waiting_if n ticket) rs) name ≡ option_map (waiting_if n ticket) (run_of rs name) →
        cond b (Some (waiting_if n ticket r)) (run_of (map (waiting_if n ticket) rs) name) ≡ option_map (waiting_if n ticket) (cond b (Some r) (run_of rs name))
    by_test true others = refl
    by_test false others = others

-- the first that is found, or the last where none is
abbrev or_last : Option RunningStart → Bool → RunningStart → Option RunningStart
or_last None true last = Some last
or_last None false last = None
or_last (Some r) b last = Some r

run_pushed : (starts : List RunningStart) (last : RunningStart) (name : Text) → run_of (starts ++ last ∷ []) name ≡ or_last (run_of starts name) (text_eq last.name name) last
run_pushed [] last name = by_test (text_eq last.name name)
  where
    by_test : (b : Bool) → cond b (Some last) None ≡ or_last None b last
    by_test true = refl
    by_test false = refl
run_pushed (r ∷ rs) last name = by_test (text_eq r.name name) (run_pushed rs last name)
  where
    by_test : (b : Bool) → run_of (rs ++ last ∷ []) name ≡ or_last (run_of rs name) (text_eq last.name name) last →
        cond b (Some r) (run_of (rs ++ last ∷ []) name) ≡ or_last (cond b (Some r) (run_of rs name)) (text_eq last.name name) last
    by_test true others = refl
    by_test false others = others

-- ## Its number

abbrev number_of : Option RunningStart → Option ℕ
number_of o = option_map (λ r. r.number) o

abbrev or_else : Option ℕ → Option ℕ → Option ℕ
or_else None other = other
or_else (Some n) other = Some n

or_none : (o : Option ℕ) → or_else o None ≡ o
or_none None = refl
or_none (Some n) = refl

number_with : (starts : List RunningStart) (t : WaitingTicket) (name : Text) →
    number_of (run_of (with_ticket starts t) name) ≡ or_else (number_of (run_of starts name)) (cond (text_eq t.name name) (Some t.start) None)
number_with starts t name = by_run (run_of starts t.name) refl
  where
    pushed : (o : Option RunningStart) (b : Bool) → number_of (or_last o b (new_start t)) ≡ or_else (number_of o) (cond b (Some t.start) None)
    pushed None true = refl
    pushed None false = refl
    pushed (Some r) b = refl

    joined : (o : Option RunningStart) → number_of (option_map (waiting_if t.name t.number) o) ≡ number_of o
    joined None = refl
    joined (Some r) = ap Some (number_kept t.name t.number r)

    by_name : (r : RunningStart) → run_of starts t.name ≡ Some r → (b : Bool) → text_eq t.name name ≡ b →
        number_of (run_of starts name) ≡ or_else (number_of (run_of starts name)) (cond b (Some t.start) None)
    by_name r found true same =
        let is : run_of starts name ≡ Some r = ap (run_of starts) (sym (text_eq-true t.name name same)) ∙ found in
        rw is refl
    by_name r found false other = sym (or_none (number_of (run_of starts name)))

    by_run : (o : Option RunningStart) → run_of starts t.name ≡ o → number_of (run_of (joined_by starts t o) name) ≡ or_else (number_of (run_of starts name)) (cond (text_eq t.name name) (Some t.start) None)
    by_run None none = ap number_of (run_pushed starts (new_start t) name) ∙ pushed (run_of starts name) (text_eq t.name name)
    by_run (Some r) found = ap number_of (run_joined t.name t.number starts name) ∙ joined (run_of starts name) ∙ by_name r found (text_eq t.name name) refl

number_after : (starts : List RunningStart) (ts : List WaitingTicket) (name : Text) →
    number_of (run_of (starts_of starts ts) name) ≡ or_else (number_of (run_of starts name)) (option_map (λ t. t.start) (find (λ t. text_eq t.name name) ts))
number_after starts [] name = sym (or_none (number_of (run_of starts name)))
number_after starts (t ∷ ts) name =
    number_after (with_ticket starts t) ts name
    ∙ ap (λ o. or_else o (option_map (λ u. u.start) (find (λ u. text_eq u.name name) ts))) (number_with starts t name)
    ∙ by_test (number_of (run_of starts name)) (text_eq t.name name)
  where
    by_test : (o : Option ℕ) (b : Bool) →
        or_else (or_else o (cond b (Some t.start) None)) (option_map (λ u. u.start) (find (λ u. text_eq u.name name) ts))
        ≡ or_else o (option_map (λ u. u.start) (cond b (Some t) (find (λ u. text_eq u.name name) ts)))
    by_test None true = refl
    by_test None false = refl
    by_test (Some n) b = refl

pub number_is : (ts : List WaitingTicket) (name : Text) → option_map (λ r. r.number) (run_of (starts_of [] ts) name) ≡ option_map (λ t. t.start) (find (λ t. text_eq t.name name) ts)
number_is ts name = number_after [] ts name

-- ## Its tickets

abbrev settled_at : Fate → ℕ → SettledNumber
settled_at fate number = record { fate = fate; number = number }

tickets_with : (starts : List RunningStart) (t : WaitingTicket) (fate : Fate) (name : Text) →
    settled fate (run_of (with_ticket starts t) name) ≡ settled fate (run_of starts name) ++ (if text_eq t.name name then settled_at fate t.number ∷ [] else [])
tickets_with starts t fate name = by_run (run_of starts t.name) refl
  where
    grown : (ks : List ℕ) → map (settled_at fate) (ks ++ t.number ∷ []) ≡ map (settled_at fate) ks ++ settled_at fate t.number ∷ []
    grown [] = refl
    grown (k ∷ ks) = ap (λ rest. settled_at fate k ∷ rest) (grown ks)

    pushed : (o : Option RunningStart) (b : Bool) → run_of starts name ≡ o → text_eq t.name name ≡ b → run_of starts t.name ≡ None →
        settled fate (or_last o b (new_start t)) ≡ settled fate o ++ (if b then settled_at fate t.number ∷ [] else [])
    pushed None true e same none = refl
    pushed None false e same none = refl
    pushed (Some r) true e same none = let is : ◌≡◌ {A = Option RunningStart} (Some r) None = sym e ∙ ap (run_of starts) (sym (text_eq-true t.name name same)) ∙ none in absurd (cc)
    pushed (Some r) false e same none = sym (append-nil (settled fate (Some r)))

    joined : (o : Option RunningStart) (b : Bool) → run_of starts name ≡ o → text_eq t.name name ≡ b → (r : RunningStart) → run_of starts t.name ≡ Some r →
        settled fate (option_map (waiting_if t.name t.number) o) ≡ settled fate o ++ (if b then settled_at fate t.number ∷ [] else [])
    joined None true e same r found = let is : ◌≡◌ {A = Option RunningStart} None (Some r) = sym e ∙ ap (run_of starts) (sym (text_eq-true t.name name same)) ∙ found in absurd (cc)
    joined None false e other r found = refl
    joined (Some q) true e same r found =
        let its : text_eq q.name t.name ≡ true = ap (text_eq q.name) (text_eq-true t.name name same) ∙ find_passes (λ s. text_eq s.name name) starts q e in
        ap (λ s. settled fate (Some s)) (joins t.name t.number q its) ∙ grown q.tickets
    joined (Some q) false e other r found =
        let is : q.name ≡ name = text_eq-true q.name name (find_passes (λ s. text_eq s.name name) starts q e) in
        let not_its : text_eq q.name t.name ≡ false = ap (λ n. text_eq n t.name) is ∙ text_eq-swapped t.name name other in
        ap (λ s. settled fate (Some s)) (stays_out t.name t.number q not_its) ∙ sym (append-nil (settled fate (Some q)))

    by_run : (o : Option RunningStart) → run_of starts t.name ≡ o →
        settled fate (run_of (joined_by starts t o) name) ≡ settled fate (run_of starts name) ++ (if text_eq t.name name then settled_at fate t.number ∷ [] else [])
    by_run None none = ap (settled fate) (run_pushed starts (new_start t) name) ∙ pushed (run_of starts name) (text_eq t.name name) refl refl none
    by_run (Some r) found = ap (settled fate) (run_joined t.name t.number starts name) ∙ joined (run_of starts name) (text_eq t.name name) refl refl r found

tickets_after : (starts : List RunningStart) (ts : List WaitingTicket) (fate : Fate) (name : Text) → settled fate (run_of (starts_of starts ts) name) ≡ settled fate (run_of starts name) ++ numbers_of fate name ts
tickets_after starts [] fate name = sym (append-nil (settled fate (run_of starts name)))
tickets_after starts (t ∷ ts) fate name =
    tickets_after (with_ticket starts t) ts fate name ∙ ap (λ before. before ++ numbers_of fate name ts) (tickets_with starts t fate name)
    ∙ append_assoc (settled fate (run_of starts name)) (if text_eq t.name name then settled_at fate t.number ∷ [] else []) (numbers_of fate name ts)
    ∙ ap (λ rest. settled fate (run_of starts name) ++ rest) (by_test (text_eq t.name name))
  where
    by_test : (b : Bool) → (if b then settled_at fate t.number ∷ [] else []) ++ numbers_of fate name ts
        ≡ map (λ u. settled_at fate u.number) (cond b (t ∷ filter (λ u. text_eq u.name name) ts) (filter (λ u. text_eq u.name name) ts))
    by_test true = refl
    by_test false = refl

pub tickets_are : (ts : List WaitingTicket) (fate : Fate) (name : Text) → settled fate (run_of (starts_of [] ts) name) ≡ numbers_of fate name ts
tickets_are ts fate name = tickets_after [] ts fate name

pub numbers_pushed : (fate : Fate) (name : Text) (ts : List WaitingTicket) (t : WaitingTicket) → numbers_of fate name (ts ++ t ∷ []) ≡ numbers_of fate name ts ++ (if text_eq t.name name then settled_at fate t.number ∷ [] else [])
numbers_pushed fate name [] t = by_test (text_eq t.name name)
  where
    by_test : (b : Bool) → map (λ u. settled_at fate u.number) (cond b (t ∷ []) []) ≡ (if b then settled_at fate t.number ∷ [] else [])
    by_test true = refl
    by_test false = refl
numbers_pushed fate name (u ∷ ts) t = by_test (text_eq u.name name) (numbers_pushed fate name ts t)
  where
    by_test : (b : Bool) → numbers_of fate name (ts ++ t ∷ []) ≡ numbers_of fate name ts ++ (if text_eq t.name name then settled_at fate t.number ∷ [] else []) →
        map (λ v. settled_at fate v.number) (cond b (u ∷ filter (λ v. text_eq v.name name) (ts ++ t ∷ [])) (filter (λ v. text_eq v.name name) (ts ++ t ∷ [])))
        ≡ map (λ v. settled_at fate v.number) (cond b (u ∷ filter (λ v. text_eq v.name name) ts) (filter (λ v. text_eq v.name name) ts)) ++ (if text_eq t.name name then settled_at fate t.number ∷ [] else [])
    by_test true others = ap (λ rest. settled_at fate u.number ∷ rest) others
    by_test false others = others

-- ## A start that ends

abbrev others_than : Text → List RunningStart → List RunningStart
others_than name starts = filter (λ r. not (text_eq r.name name)) starts

-- where the start of a name ends, so does what its ticket did
ended_joins : (n : Text) (ticket : ℕ) (name : Text) → text_eq n name ≡ true → (starts : List RunningStart) → others_than name (map (waiting_if n ticket) starts) ≡ others_than name starts
ended_joins n ticket name same [] = refl
ended_joins n ticket name same (r ∷ rs) = elim (cases_Bool (text_eq r.name n)) [
  | inl its ↦
      let gone : text_eq r.name name ≡ true = ap (text_eq r.name) (sym (text_eq-true n name same)) ∙ its in
      let gone_too : text_eq (waiting_if n ticket r).name name ≡ true = ap (λ t. text_eq t name) (name_kept n ticket r) ∙ gone in
      rw (gone, gone_too) (ended_joins n ticket name same rs)
  | inr other ↦
      ap (λ q. others_than name (q ∷ map (waiting_if n ticket) rs)) (stays_out n ticket r other) ∙ ap (λ qs. cond (not (text_eq r.name name)) (r ∷ qs) qs) (ended_joins n ticket name same rs)
]

-- and leaves what those of others do
others_join : (n : Text) (ticket : ℕ) (name : Text) (starts : List RunningStart) → others_than name (map (waiting_if n ticket) starts) ≡ map (waiting_if n ticket) (others_than name starts)
others_join n ticket name [] = refl
others_join n ticket name (r ∷ rs) =
    ap (λ t. cond (not (text_eq t name)) (waiting_if n ticket r ∷ others_than name (map (waiting_if n ticket) rs)) (others_than name (map (waiting_if n ticket) rs))) (name_kept n ticket r)
    ∙ by_test (text_eq r.name name) (others_join n ticket name rs)
  where
    by_test : (b : Bool) → others_than name (map (waiting_if n ticket) rs) ≡ map (waiting_if n ticket) (others_than name rs) →
        cond (not b) (waiting_if n ticket r ∷ others_than name (map (waiting_if n ticket) rs)) (others_than name (map (waiting_if n ticket) rs))
        ≡ map (waiting_if n ticket) (cond (not b) (r ∷ others_than name rs) (others_than name rs))
    by_test true others = others
    by_test false others = ap (λ rest. waiting_if n ticket r ∷ rest) others

others_pushed : (name : Text) (starts : List RunningStart) (last : RunningStart) → others_than name (starts ++ last ∷ []) ≡ others_than name starts ++ (if text_eq last.name name then [] else last ∷ [])
others_pushed name [] last = by_test (text_eq last.name name)
  where
    by_test : (b : Bool) → cond (not b) (last ∷ []) [] ≡ (if b then [] else last ∷ [])
    by_test true = refl
    by_test false = refl
others_pushed name (r ∷ rs) last = by_test (text_eq r.name name) (others_pushed name rs last)
  where
    by_test : (b : Bool) → others_than name (rs ++ last ∷ []) ≡ others_than name rs ++ (if text_eq last.name name then [] else last ∷ []) →
        cond (not b) (r ∷ others_than name (rs ++ last ∷ [])) (others_than name (rs ++ last ∷ [])) ≡ cond (not b) (r ∷ others_than name rs) (others_than name rs) ++ (if text_eq last.name name then [] else last ∷ [])
    by_test true others = others
    by_test false others = ap (λ rest. r ∷ rest) others

-- another's start is still found
run_of_others : (name n : Text) → text_eq n name ≡ false → (starts : List RunningStart) → run_of (others_than name starts) n ≡ run_of starts n
run_of_others name n differ [] = refl
run_of_others name n differ (r ∷ rs) = by_tests (text_eq r.name name) (text_eq r.name n) refl refl (run_of_others name n differ rs)
  where
    by_tests : (gone its : Bool) → text_eq r.name name ≡ gone → text_eq r.name n ≡ its → run_of (others_than name rs) n ≡ run_of rs n → run_of (others_than name (r ∷ rs)) n ≡ run_of (r ∷ rs) n
    by_tests true true e f others = absurd (true≢false (sym (ap (λ t. text_eq t name) (sym (text_eq-true r.name n f)) ∙ e) ∙ differ))
    by_tests true false e f others = rw (e, f) others
    by_tests false true e f others = rw (e, f) refl
    by_tests false false e f others = rw (e, f) others

ended_with : (starts : List RunningStart) (t : WaitingTicket) (name : Text) → text_eq t.name name ≡ true → others_than name (with_ticket starts t) ≡ others_than name starts
ended_with starts t name same = by_run (run_of starts t.name)
  where
    by_run : (o : Option RunningStart) → others_than name (joined_by starts t o) ≡ others_than name starts
    by_run None =
        others_pushed name starts (new_start t)
        ∙ ap (λ b. others_than name starts ++ (if b then [] else new_start t ∷ [])) same ∙ append-nil (others_than name starts)
    by_run (Some r) = ended_joins t.name t.number name same starts

others_with : (starts : List RunningStart) (t : WaitingTicket) (name : Text) → text_eq t.name name ≡ false → others_than name (with_ticket starts t) ≡ with_ticket (others_than name starts) t
others_with starts t name other = by_run (run_of starts t.name) ∙ ap (joined_by (others_than name starts) t) (sym (run_of_others name t.name other starts))
  where
    by_run : (o : Option RunningStart) → others_than name (joined_by starts t o) ≡ joined_by (others_than name starts) t o
    by_run None =
        others_pushed name starts (new_start t)
        ∙ ap (λ b. others_than name starts ++ (if b then [] else new_start t ∷ [])) other
    by_run (Some r) = others_join t.name t.number name starts

pub ended : (name : Text) (starts : List RunningStart) (ts : List WaitingTicket) →
    others_than name (starts_of starts ts) ≡ starts_of (others_than name starts) (filter (λ t. not (text_eq t.name name)) ts)
ended name starts [] = refl
ended name starts (t ∷ ts) = by_test (text_eq t.name name) refl (ended name (with_ticket starts t) ts)
  where
    by_test : (b : Bool) → text_eq t.name name ≡ b →
        others_than name (starts_of (with_ticket starts t) ts) ≡ starts_of (others_than name (with_ticket starts t)) (filter (λ u. not (text_eq u.name name)) ts) →
        others_than name (starts_of (with_ticket starts t) ts) ≡ starts_of (others_than name starts) (cond (not (text_eq t.name name)) (t ∷ filter (λ u. not (text_eq u.name name)) ts) (filter (λ u. not (text_eq u.name name)) ts))
    by_test true same rest = rw same (rest ∙ ap (λ starts. starts_of starts (filter (λ u. not (text_eq u.name name)) ts)) (ended_with starts t name same))
    by_test false other rest = rw other (rest ∙ ap (λ starts. starts_of starts (filter (λ u. not (text_eq u.name name)) ts)) (others_with starts t name other))
