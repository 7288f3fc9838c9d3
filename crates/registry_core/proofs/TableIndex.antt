-- A table of names and its index.
use Rattle.std.proofs.Common.{◌≡◌, ℕ, zero, suc, ◌+◌, ◌<◌, ◌≤◌, ◌==◌, nat_lt, Bool, true, false, if◌then◌else◌, List, [], ◌∷◌, ◌++◌, map, filter, length, take, drop, insert, remove, get_or, refl, sym, ap, ◌∙◌, subst, arith}
use Rattle.std.specs.List.{AllByRecursion as Each, sum_by}
use Rattle.std.proofs.Math.ListN.{set}
use Rattle.std.proofs.lemmas.Bool.{true≢false, eq-eqb, eqb-true, ne_eqb}
use Rattle.std.proofs.lemmas.Bool.Decides.{nat_tests}
use Rattle.std.proofs.lemmas.List.Sums.{sum_by-cons, sum_by-append, sum_by-set, sum_by-insert, sum_by-remove, sum_by-le-sum_by, get_or-le-sum_by}
use Rattle.names.specs.Texts.{Text, text_lt}
use Rattle.match_rules.specs.Lists.{Pairwise}
use Rattle.owner_queues.specs.Queues.{is_in}
use Rattle.seq_bus_core.specs.BusState.{OwnedName, names_of, max_names}
use Rattle.seq_bus_core.proofs.Lists.{each_weaker}
use Rattle.seq_bus_core.proofs.TextLemmas.{text_lt-itself}
use Rattle.match_index.specs.PlaceIndexes.{places_of}
use Rattle.match_index.proofs.Lists.{each_at, each_inserted, each_removed}
use Rattle.registry_core.specs.NameIndexes.{IndexedNames, held, name_at, AreSorted}
use Rattle.registry_core.specs.NameTables.{owned_name, NamesRise, Entry, numbered, waits_here, AreIndexed}
use Rattle.registry_core.proofs.CountLemmas.{one_if_in}
use Rattle.registry_core.proofs.IndexLemmas.{one_at, times}

abbrev name_in : Entry → OwnedName
name_in e = owned_name e.value

abbrev has_number : ℕ → Entry → ℕ
has_number i e = if e.value.id == i then 1 else 0

-- ## Edits

each_set : {X : Type 0} (P : X → Type 0) (xs : List X) (i : ℕ) (y : X) → Each P xs → P y → Each P (set xs i y)
each_set P [] i y h p = tt
each_set P (x ∷ xs) zero y h p = (p, h.1)
each_set P (x ∷ xs) (suc i) y h p = (h.0, each_set P xs i y h.1 p)

waits_own : (c i : ℕ) (e : Entry) → e.value.id ≡ i → waits_here c i e ≡ one_if_in c e.value.queue
waits_own c i e same = rw (eq-eqb e.value.id i same) refl

waits_other : (c i : ℕ) (e : Entry) → (e.value.id == i) ≡ false → waits_here c i e ≡ 0
waits_other c i e other = rw other refl

same_number : (i : ℕ) (b e : Entry) → e.value.id ≡ b.value.id → has_number i e ≡ has_number i b
same_number i b e same = ap (λ k. if k == i then 1 else 0) same

-- each place of a queue is in the index
pub waits_at : (entries spare : List Entry) (place c : ℕ) (b : Entry) (x : IndexedNames) (queued : ℕ) → AreIndexed entries spare x queued → place < length entries → b ≡ get_or entries place b → one_if_in c b.value.queue ≤ held c b.value.id x.places
waits_at entries spare place c b x queued h lt is =
    let part : waits_here c b.value.id (get_or entries place b) ≤ sum_by (waits_here c b.value.id) entries = get_or-le-sum_by (waits_here c b.value.id) entries place b lt in
    let at : waits_here c b.value.id (get_or entries place b) ≡ one_if_in c b.value.queue = ap (waits_here c b.value.id) (sym is) ∙ waits_own c b.value.id b refl in
    let all : held c b.value.id x.places ≡ sum_by (waits_here c b.value.id) entries = h.places c b.value.id in
    omega (arith, part, at, all)

pub indexed_set : (entries spare : List Entry) (place : ℕ) (b e : Entry) (x y : IndexedNames) (queued after : ℕ) → AreIndexed entries spare x queued → place < length entries → b ≡ get_or entries place b → e.value.id ≡ b.value.id →
    e.value.name ≡ b.value.name → y.names ≡ x.names → ((c : ℕ) → held c b.value.id y.places + one_if_in c b.value.queue ≡ held c b.value.id x.places + one_if_in c e.value.queue) →
    ((c i : ℕ) → (b.value.id == i) ≡ false → held c i y.places ≡ held c i x.places) → length y.places ≡ after → AreIndexed (set entries place e) spare y after
indexed_set entries spare place b e x y queued after h lt is id name names its others all = record { once = once; named = named; places = places; all = all }
  where
    once : (i : ℕ) → numbered i (set entries place e) + numbered i spare ≤ (if nat_lt i max_names then 1 else 0)
    once i =
        let whole : numbered i (set entries place e) + has_number i (get_or entries place b) ≡ numbered i entries + has_number i e = sum_by-set (has_number i) entries place e b lt in
        let at : has_number i (get_or entries place b) ≡ has_number i b = ap (has_number i) (sym is) in
        let same : has_number i e ≡ has_number i b = same_number i b e id in
        let before : numbered i entries + numbered i spare ≤ (if nat_lt i max_names then 1 else 0) = h.once i in
        omega (arith, whole, at, same, before)

    named : Each (λ d. name_at y.names d.value.id ≡ d.value.name) (set entries place e)
    named =
        let before : Each (λ d. name_at y.names d.value.id ≡ d.value.name) entries = subst (λ ns. Each (λ d. name_at ns d.value.id ≡ d.value.name) entries) (sym names) h.named in
        let its_name : name_at y.names b.value.id ≡ b.value.name = subst (λ (d : Entry). name_at y.names d.value.id ≡ d.value.name) (sym is) (each_at (λ (d : Entry). name_at y.names d.value.id ≡ d.value.name) entries place b before lt) in
        each_set (λ d. name_at y.names d.value.id ≡ d.value.name) entries place e before (ap (name_at y.names) id ∙ its_name ∙ sym name)

    places : (c i : ℕ) → held c i y.places ≡ sum_by (waits_here c i) (set entries place e)
    places c i = by_test (b.value.id == i) refl
      where
        by_test : (t : Bool) → (b.value.id == i) ≡ t → held c i y.places ≡ sum_by (waits_here c i) (set entries place e)
        by_test true same =
            let number : b.value.id ≡ i = eqb-true b.value.id i same in
            let whole : sum_by (waits_here c i) (set entries place e) + waits_here c i (get_or entries place b) ≡ sum_by (waits_here c i) entries + waits_here c i e = sum_by-set (waits_here c i) entries place e b lt in
            let at : waits_here c i (get_or entries place b) ≡ one_if_in c b.value.queue = ap (waits_here c i) (sym is) ∙ waits_own c i b number in
            let new : waits_here c i e ≡ one_if_in c e.value.queue = waits_own c i e (id ∙ number) in
            let before : held c i x.places ≡ sum_by (waits_here c i) entries = h.places c i in
            let change : held c i y.places + one_if_in c b.value.queue ≡ held c i x.places + one_if_in c e.value.queue = subst (λ k. held c k y.places + one_if_in c b.value.queue ≡ held c k x.places + one_if_in c e.value.queue) number (its c) in
            omega (arith, whole, at, new, before, change)
        by_test false other =
            let whole : sum_by (waits_here c i) (set entries place e) + waits_here c i (get_or entries place b) ≡ sum_by (waits_here c i) entries + waits_here c i e = sum_by-set (waits_here c i) entries place e b lt in
            let at : waits_here c i (get_or entries place b) ≡ 0 = ap (waits_here c i) (sym is) ∙ waits_other c i b other in
            let new : waits_here c i e ≡ 0 = waits_other c i e (ap (λ k. k == i) id ∙ other) in
            let before : held c i x.places ≡ sum_by (waits_here c i) entries = h.places c i in
            let change : held c i y.places ≡ held c i x.places = others c i other in
            omega (arith, whole, at, new, before, change)

pub indexed_removed : (entries spare : List Entry) (place : ℕ) (b : Entry) (x y : IndexedNames) (queued after : ℕ) → AreIndexed entries spare x queued → place < length entries → b ≡ get_or entries place b → y.names ≡ x.names →
    ((c : ℕ) → held c b.value.id y.places + one_if_in c b.value.queue ≡ held c b.value.id x.places) → ((c i : ℕ) → (b.value.id == i) ≡ false → held c i y.places ≡ held c i x.places) → length y.places ≡ after →
    AreIndexed (remove entries place) (spare ++ b ∷ []) y after
indexed_removed entries spare place b x y queued after h lt is names its others all = record { once = once; named = named; places = places; all = all }
  where
    once : (i : ℕ) → numbered i (remove entries place) + numbered i (spare ++ b ∷ []) ≤ (if nat_lt i max_names then 1 else 0)
    once i =
        let whole : numbered i (remove entries place) + has_number i (get_or entries place b) ≡ numbered i entries = sum_by-remove (has_number i) entries place b lt in
        let at : has_number i (get_or entries place b) ≡ has_number i b = ap (has_number i) (sym is) in
        let more : numbered i (spare ++ b ∷ []) ≡ numbered i spare + numbered i (b ∷ []) = sum_by-append (has_number i) spare (b ∷ []) in
        let one : numbered i (b ∷ []) ≡ has_number i b + 0 = sum_by-cons (has_number i) b [] in
        let before : numbered i entries + numbered i spare ≤ (if nat_lt i max_names then 1 else 0) = h.once i in
        omega (arith, whole, at, more, one, before)

    named : Each (λ d. name_at y.names d.value.id ≡ d.value.name) (remove entries place)
    named = each_removed (λ d. name_at y.names d.value.id ≡ d.value.name) entries place (subst (λ ns. Each (λ d. name_at ns d.value.id ≡ d.value.name) entries) (sym names) h.named)

    places : (c i : ℕ) → held c i y.places ≡ sum_by (waits_here c i) (remove entries place)
    places c i = by_test (b.value.id == i) refl
      where
        by_test : (t : Bool) → (b.value.id == i) ≡ t → held c i y.places ≡ sum_by (waits_here c i) (remove entries place)
        by_test true same =
            let number : b.value.id ≡ i = eqb-true b.value.id i same in
            let whole : sum_by (waits_here c i) (remove entries place) + waits_here c i (get_or entries place b) ≡ sum_by (waits_here c i) entries = sum_by-remove (waits_here c i) entries place b lt in
            let at : waits_here c i (get_or entries place b) ≡ one_if_in c b.value.queue = ap (waits_here c i) (sym is) ∙ waits_own c i b number in
            let before : held c i x.places ≡ sum_by (waits_here c i) entries = h.places c i in
            let change : held c i y.places + one_if_in c b.value.queue ≡ held c i x.places = subst (λ k. held c k y.places + one_if_in c b.value.queue ≡ held c k x.places) number (its c) in
            omega (arith, whole, at, before, change)
        by_test false other =
            let whole : sum_by (waits_here c i) (remove entries place) + waits_here c i (get_or entries place b) ≡ sum_by (waits_here c i) entries = sum_by-remove (waits_here c i) entries place b lt in
            let at : waits_here c i (get_or entries place b) ≡ 0 = ap (waits_here c i) (sym is) ∙ waits_other c i b other in
            let before : held c i x.places ≡ sum_by (waits_here c i) entries = h.places c i in
            let change : held c i y.places ≡ held c i x.places = others c i other in
            omega (arith, whole, at, before, change)

-- the number of a spare entry is free
none_numbered : (entries spare less : List Entry) (s : Entry) (x : IndexedNames) (queued : ℕ) → AreIndexed entries spare x queued → spare ≡ less ++ s ∷ [] → (numbered s.value.id entries ≡ 0) × (numbered s.value.id less ≡ 0) × (s.value.id < max_names)
none_numbered entries spare less s x queued h is =
    let id : ℕ = s.value.id in
    let most : numbered id entries + numbered id spare ≤ (if nat_lt id max_names then 1 else 0) = h.once id in
    let parts : numbered id spare ≡ numbered id less + numbered id (s ∷ []) = ap (numbered id) is ∙ sum_by-append (has_number id) less (s ∷ []) in
    let one : numbered id (s ∷ []) ≡ has_number id s + 0 = sum_by-cons (has_number id) s [] in
    let own : has_number id s ≡ 1 = rw (eq-eqb id id refl) refl in
    by_test (nat_lt id max_names) refl most (omega (arith, parts, one, own))
  where
    by_test : (t : Bool) → nat_lt s.value.id max_names ≡ t → numbered s.value.id entries + numbered s.value.id spare ≤ (if t then 1 else 0) → numbered s.value.id less + 1 ≡ numbered s.value.id spare →
        (numbered s.value.id entries ≡ 0) × (numbered s.value.id less ≡ 0) × (s.value.id < max_names)
    by_test true e most own = (omega (arith, most, own), omega (arith, most, own), grind (arith, nat_tests))
    by_test false e most own = absurd (omega (arith, most, own))

pub free_number : (entries spare less : List Entry) (s : Entry) (x : IndexedNames) (queued : ℕ) → AreIndexed entries spare x queued → spare ≡ less ++ s ∷ [] → s.value.id < max_names
free_number entries spare less s x queued h is = (none_numbered entries spare less s x queued h is).2

waits_less : (c i : ℕ) (e : Entry) → waits_here c i e ≤ has_number i e
waits_less c i e = by_tests (e.value.id == i) (is_in c e.value.queue)
  where
    by_tests : (a b : Bool) → (if a then (if b then 1 else 0) else 0) ≤ (if a then 1 else 0)
    by_tests true true = omega arith
    by_tests true false = omega arith
    by_tests false b = omega arith

pub not_held : (entries spare less : List Entry) (s : Entry) (x : IndexedNames) (queued : ℕ) → AreIndexed entries spare x queued → spare ≡ less ++ s ∷ [] → (c : ℕ) → held c s.value.id x.places ≡ 0
not_held entries spare less s x queued h is c =
    let none : numbered s.value.id entries ≡ 0 = (none_numbered entries spare less s x queued h is).0 in
    let places : held c s.value.id x.places ≡ sum_by (waits_here c s.value.id) entries = h.places c s.value.id in
    let fewer : sum_by (waits_here c s.value.id) entries ≤ numbered s.value.id entries = sum_by-le-sum_by (waits_here c s.value.id) (has_number s.value.id) entries (waits_less c s.value.id) in
    omega (arith, none, places, fewer)

other_numbers : (i : ℕ) (entries : List Entry) → numbered i entries ≡ 0 → Each (λ e. (i == e.value.id) ≡ false) entries
other_numbers i [] none = tt
other_numbers i (e ∷ entries) none =
    let whole : numbered i (e ∷ entries) ≡ has_number i e + numbered i entries = sum_by-cons (has_number i) e entries in
    (here (omega (arith, whole, none)), other_numbers i entries (omega (arith, whole, none)))
  where
    here : has_number i e ≡ 0 → (i == e.value.id) ≡ false
    here zero_is = ne_eqb i e.value.id (λ same. let own : has_number i e ≡ 1 = rw (eq-eqb e.value.id i (sym same)) refl in omega (arith, own, zero_is))

pub indexed_added : (entries spare less : List Entry) (place : ℕ) (s e : Entry) (x y : IndexedNames) (queued after : ℕ) → AreIndexed entries spare x queued → spare ≡ less ++ s ∷ [] → e.value.id ≡ s.value.id → name_at y.names s.value.id ≡ e.value.name →
    ((i : ℕ) → (s.value.id == i) ≡ false → name_at y.names i ≡ name_at x.names i) → ((c : ℕ) → held c s.value.id y.places ≡ held c s.value.id x.places + one_if_in c e.value.queue) →
    ((c i : ℕ) → (s.value.id == i) ≡ false → held c i y.places ≡ held c i x.places) → length y.places ≡ after → AreIndexed (insert entries place e) less y after
indexed_added entries spare less place s e x y queued after h is id name names its others all = record { once = once; named = named; places = places; all = all }
  where
    once : (i : ℕ) → numbered i (insert entries place e) + numbered i less ≤ (if nat_lt i max_names then 1 else 0)
    once i =
        let whole : numbered i (insert entries place e) ≡ numbered i entries + has_number i e = sum_by-insert (has_number i) entries place e in
        let same : has_number i e ≡ has_number i s = same_number i s e id in
        let parts : numbered i spare ≡ numbered i less + numbered i (s ∷ []) = ap (numbered i) is ∙ sum_by-append (has_number i) less (s ∷ []) in
        let one : numbered i (s ∷ []) ≡ has_number i s + 0 = sum_by-cons (has_number i) s [] in
        let before : numbered i entries + numbered i spare ≤ (if nat_lt i max_names then 1 else 0) = h.once i in
        omega (arith, whole, same, parts, one, before)

    renamed : (es : List Entry) → Each (λ d. (s.value.id == d.value.id) ≡ false) es → Each (λ d. name_at x.names d.value.id ≡ d.value.name) es → Each (λ d. name_at y.names d.value.id ≡ d.value.name) es
    renamed [] a b = tt
    renamed (d ∷ es) a b = (names d.value.id a.0 ∙ b.0, renamed es a.1 b.1)

    named : Each (λ d. name_at y.names d.value.id ≡ d.value.name) (insert entries place e)
    named =
        each_inserted (λ d. name_at y.names d.value.id ≡ d.value.name) entries place e
        (renamed entries (other_numbers s.value.id entries (none_numbered entries spare less s x queued h is).0) h.named) (ap (name_at y.names) id ∙ name)

    places : (c i : ℕ) → held c i y.places ≡ sum_by (waits_here c i) (insert entries place e)
    places c i = by_test (s.value.id == i) refl
      where
        by_test : (t : Bool) → (s.value.id == i) ≡ t → held c i y.places ≡ sum_by (waits_here c i) (insert entries place e)
        by_test true same =
            let number : s.value.id ≡ i = eqb-true s.value.id i same in
            let whole : sum_by (waits_here c i) (insert entries place e) ≡ sum_by (waits_here c i) entries + waits_here c i e = sum_by-insert (waits_here c i) entries place e in
            let new : waits_here c i e ≡ one_if_in c e.value.queue = waits_own c i e (id ∙ number) in
            let before : held c i x.places ≡ sum_by (waits_here c i) entries = h.places c i in
            let change : held c i y.places ≡ held c i x.places + one_if_in c e.value.queue = subst (λ k. held c k y.places ≡ held c k x.places + one_if_in c e.value.queue) number (its c) in
            omega (arith, whole, new, before, change)
        by_test false other =
            let whole : sum_by (waits_here c i) (insert entries place e) ≡ sum_by (waits_here c i) entries + waits_here c i e = sum_by-insert (waits_here c i) entries place e in
            let new : waits_here c i e ≡ 0 = waits_other c i e (ap (λ k. k == i) id ∙ other) in
            let before : held c i x.places ≡ sum_by (waits_here c i) entries = h.places c i in
            let change : held c i y.places ≡ held c i x.places = others c i other in
            omega (arith, whole, new, before, change)

-- a table without names
pub indexed_new : (spare : List Entry) (x : IndexedNames) → ((i : ℕ) → numbered i spare ≡ (if nat_lt i max_names then 1 else 0)) → x.places ≡ [] → AreIndexed [] spare x 0
indexed_new spare x numbers none = record {
  once = λ i. let all : numbered i spare ≡ (if nat_lt i max_names then 1 else 0) = numbers i in let no_entry : numbered i [] ≡ 0 = refl in omega (arith, all, no_entry);
  named = tt;
  places = λ c i. ap (held c i) none;
  all = ap length none;
}

-- one spare entry more
pub next_number : (spare : List Entry) (e : Entry) (n : ℕ) → ((i : ℕ) → numbered i spare ≡ (if nat_lt i n then 1 else 0)) → e.value.id ≡ n → (i : ℕ) → numbered i (spare ++ e ∷ []) ≡ (if nat_lt i (n + 1) then 1 else 0)
next_number spare e n h is i =
    let parts : numbered i (spare ++ e ∷ []) ≡ numbered i spare + numbered i (e ∷ []) = sum_by-append (has_number i) spare (e ∷ []) in
    let one : numbered i (e ∷ []) ≡ has_number i e + 0 = sum_by-cons (has_number i) e [] in
    let own : has_number i e ≡ (if n == i then 1 else 0) = ap (λ k. if k == i then 1 else 0) is in
    let before : numbered i spare ≡ (if nat_lt i n then 1 else 0) = h i in
    let next : (if nat_lt i n then 1 else 0) + (if n == i then 1 else 0) ≡ (if nat_lt i (n + 1) then 1 else 0) = by_tests (nat_lt i n) (n == i) refl refl in
    omega (arith, parts, one, own, before, next)
  where
    by_tests : (a b : Bool) → nat_lt i n ≡ a → (n == i) ≡ b → (if a then 1 else 0) + (if b then 1 else 0) ≡ (if nat_lt i (n + 1) then 1 else 0)
    by_tests true true e f = absurd (let lt : i < n = grind (arith, nat_tests) in let same : n ≡ i = eqb-true n i f in omega (arith, lt, same))
    by_tests true false e f = let less : nat_lt i (n + 1) ≡ true = grind (arith, nat_tests) in rw less (omega arith)
    by_tests false true e f = let less : nat_lt i (n + 1) ≡ true = grind (arith, nat_tests) in rw less (omega arith)
    by_tests false false e f = let more : nat_lt i (n + 1) ≡ false = grind (arith, nat_tests) in rw more (omega arith)

-- ## The names of a connection

-- the numbers of the names in whose queues a connection stands
abbrev pub ids_in : ℕ → List Entry → List ℕ
ids_in c entries = map (λ e. e.value.id) (filter (λ e. is_in c e.value.queue) entries)

abbrev pub its_names : ℕ → List OwnedName → List OwnedName
its_names c names = filter (λ n. is_in c n.queue) names

if_zero : (t : Bool) → ◌≡◌ {A = ℕ} (if t then 0 else 0) 0
if_zero true = refl
if_zero false = refl

times_in : (c i : ℕ) (es : List Entry) → sum_by (waits_here c i) es ≡ times i (ids_in c es)
times_in c i [] = refl
times_in c i (x ∷ xs) = by_test (is_in c x.value.queue) refl (times_in c i xs)
  where
    by_test : (t : Bool) → is_in c x.value.queue ≡ t → sum_by (waits_here c i) xs ≡ times i (ids_in c xs) → sum_by (waits_here c i) (x ∷ xs) ≡ times i (ids_in c (x ∷ xs))
    by_test true e rest =
        let whole : sum_by (waits_here c i) (x ∷ xs) ≡ waits_here c i x + sum_by (waits_here c i) xs = sum_by-cons (waits_here c i) x xs in
        let more : times i (x.value.id ∷ ids_in c xs) ≡ one_at i x.value.id + times i (ids_in c xs) = sum_by-cons (one_at i) x.value.id (ids_in c xs) in
        let here : waits_here c i x ≡ one_at i x.value.id = rw e refl in
        let ids : ids_in c (x ∷ xs) ≡ x.value.id ∷ ids_in c xs = rw e refl in
        let same : times i (ids_in c (x ∷ xs)) ≡ times i (x.value.id ∷ ids_in c xs) = ap (times i) ids in
        omega (arith, whole, more, here, same, rest)
    by_test false e rest =
        let whole : sum_by (waits_here c i) (x ∷ xs) ≡ waits_here c i x + sum_by (waits_here c i) xs = sum_by-cons (waits_here c i) x xs in
        let here : waits_here c i x ≡ 0 = rw e (if_zero (x.value.id == i)) in
        let ids : ids_in c (x ∷ xs) ≡ ids_in c xs = rw e refl in
        let same : times i (ids_in c (x ∷ xs)) ≡ times i (ids_in c xs) = ap (times i) ids in
        omega (arith, whole, here, same, rest)

-- the names of a connection rise along the table
numbers_rise : (names : List Text) (c : ℕ) (es : List Entry) → NamesRise (map name_in es) → Each (λ e. name_at names e.value.id ≡ e.value.name) es → Pairwise (λ i j. text_lt (name_at names i) (name_at names j) ≡ true) (ids_in c es)
numbers_rise names c [] h named = tt
numbers_rise names c (x ∷ xs) h named = by_test (is_in c x.value.queue) refl (numbers_rise names c xs h.1 named.1)
  where
    above : (ys : List Entry) → Each (λ n. text_lt x.value.name n.name ≡ true) (map name_in ys) → Each (λ e. name_at names e.value.id ≡ e.value.name) ys → Each (λ j. text_lt (name_at names x.value.id) (name_at names j) ≡ true) (ids_in c ys)
    above [] k its = tt
    above (y ∷ ys) k its = by_other (is_in c y.value.queue) refl (above ys k.1 its.1)
      where
        by_other : (t : Bool) → is_in c y.value.queue ≡ t → Each (λ j. text_lt (name_at names x.value.id) (name_at names j) ≡ true) (ids_in c ys) → Each (λ j. text_lt (name_at names x.value.id) (name_at names j) ≡ true) (ids_in c (y ∷ ys))
        by_other true f rest = rw f (ap (λ t. text_lt t (name_at names y.value.id)) named.0 ∙ ap (text_lt x.value.name) its.0 ∙ k.0, rest)
        by_other false f rest = rw f rest

    by_test : (t : Bool) → is_in c x.value.queue ≡ t → Pairwise (λ i j. text_lt (name_at names i) (name_at names j) ≡ true) (ids_in c xs) → Pairwise (λ i j. text_lt (name_at names i) (name_at names j) ≡ true) (ids_in c (x ∷ xs))
    by_test true e rest = rw e (above xs h.0 named.1, rest)
    by_test false e rest = rw e rest

each_counted : (P : ℕ → Type 0) (i : ℕ) (ids : List ℕ) → Each P ids → 0 < times i ids → P i
each_counted P i [] h some = absurd (omega (arith, some))
each_counted P i (j ∷ ids) h some = by_test (j == i) refl (λ more. each_counted P i ids h.1 more)
  where
    by_test : (t : Bool) → (j == i) ≡ t → (0 < times i ids → P i) → P i
    by_test true e others = subst P (eqb-true j i e) h.0
    by_test false e others =
        let whole : times i (j ∷ ids) ≡ one_at i j + times i ids = sum_by-cons (one_at i) j ids in
        let none : one_at i j ≡ 0 = rw e refl in
        others (omega (arith, whole, none, some))

own_time : (i : ℕ) (ids : List ℕ) → 0 < times i (i ∷ ids)
own_time i ids =
    let whole : times i (i ∷ ids) ≡ one_at i i + times i ids = sum_by-cons (one_at i) i ids in
    let one : one_at i i ≡ 1 = rw (eq-eqb i i refl) refl in
    omega (arith, whole, one)

-- two lists of the same numbers that both rise are the same
same_ids : (key : ℕ → Text) (xs ys : List ℕ) → Pairwise (λ i j. text_lt (key j) (key i) ≡ false) xs → Pairwise (λ i j. text_lt (key i) (key j) ≡ true) ys → ((i : ℕ) → times i xs ≡ times i ys) → xs ≡ ys
same_ids key [] [] a b same = refl
same_ids key [] (y ∷ ys) a b same = let some : 0 < times y (y ∷ ys) = own_time y ys in let none : times y [] ≡ 0 = refl in let is : times y [] ≡ times y (y ∷ ys) = same y in absurd (omega (arith, some, none, is))
same_ids key (x ∷ xs) [] a b same = let some : 0 < times x (x ∷ xs) = own_time x xs in let none : times x [] ≡ 0 = refl in let is : times x (x ∷ xs) ≡ times x [] = same x in absurd (omega (arith, some, none, is))
same_ids key (x ∷ xs) (y ∷ ys) a b same = by_test (x == y) refl (λ rest. same_ids key xs ys a.1 b.1 rest)
  where
    by_test : (t : Bool) → (x == y) ≡ t → (((i : ℕ) → times i xs ≡ times i ys) → xs ≡ ys) → x ∷ xs ≡ y ∷ ys
    by_test true e others =
        let first : x ≡ y = eqb-true x y e in
        let rest : xs ≡ ys = others (λ i. let one : times i (x ∷ xs) ≡ one_at i x + times i xs = sum_by-cons (one_at i) x xs in let two : times i (y ∷ ys) ≡ one_at i y + times i ys = sum_by-cons (one_at i) y ys in let heads : one_at i x ≡ one_at i y = ap (one_at i) first in let all : times i (x ∷ xs) ≡ times i (y ∷ ys) = same i in omega (arith, one, two, heads, all)) in
        ap (λ i. i ∷ xs) first ∙ ap (λ is. y ∷ is) rest
    by_test false e others =
        let back : (y == x) ≡ false = ne_eqb y x (λ k. true≢false (sym (eq-eqb x y (sym k)) ∙ e)) in
        let x_more : times x (y ∷ ys) ≡ one_at x y + times x ys = sum_by-cons (one_at x) y ys in
        let x_none : one_at x y ≡ 0 = rw back refl in
        let x_some : 0 < times x (x ∷ xs) = own_time x xs in
        let x_all : times x (x ∷ xs) ≡ times x (y ∷ ys) = same x in
        let y_more : times y (x ∷ xs) ≡ one_at y x + times y xs = sum_by-cons (one_at y) x xs in
        let y_none : one_at y x ≡ 0 = rw e refl in
        let y_some : 0 < times y (y ∷ ys) = own_time y ys in
        let y_all : times y (x ∷ xs) ≡ times y (y ∷ ys) = same y in
        let below : text_lt (key y) (key x) ≡ true = each_counted (λ j. text_lt (key y) (key j) ≡ true) x ys b.0 (omega (arith, x_more, x_none, x_some, x_all)) in
        let not_below : text_lt (key y) (key x) ≡ false = each_counted (λ j. text_lt (key j) (key x) ≡ false) y xs a.0 (omega (arith, y_more, y_none, y_some, y_all)) in
        absurd (true≢false (sym below ∙ not_below))

pub ids_are : (c : ℕ) (entries spare : List Entry) (x : IndexedNames) (queued : ℕ) → AreIndexed entries spare x queued → NamesRise (map name_in entries) → AreSorted x.names x.places → places_of c x.places ≡ ids_in c entries
ids_are c entries spare x queued h rise sorted =
    same_ids (name_at x.names) (places_of c x.places) (ids_in c entries) (sorted c) (numbers_rise x.names c entries rise h.named)
    (λ i. h.places c i ∙ times_in c i entries)

pub ids_length : (c : ℕ) (entries : List Entry) → length (ids_in c entries) ≡ names_of c (map name_in entries)
ids_length c [] = refl
ids_length c (e ∷ es) = by_test (is_in c e.value.queue) refl (ids_length c es)
  where
    by_test : (t : Bool) → is_in c e.value.queue ≡ t → length (ids_in c es) ≡ names_of c (map name_in es) → length (ids_in c (e ∷ es)) ≡ names_of c (map name_in (e ∷ es))
    by_test true f rest =
        let whole : names_of c (map name_in (e ∷ es)) ≡ one_if_in c e.value.queue + names_of c (map name_in es) = sum_by-cons (λ (n : OwnedName). one_if_in c n.queue) (name_in e) (map name_in es) in
        let one : one_if_in c e.value.queue ≡ 1 = rw f refl in
        let more : length (ids_in c (e ∷ es)) ≡ suc (length (ids_in c es)) = rw f refl in
        omega (arith, whole, one, more, rest)
    by_test false f rest =
        let whole : names_of c (map name_in (e ∷ es)) ≡ one_if_in c e.value.queue + names_of c (map name_in es) = sum_by-cons (λ (n : OwnedName). one_if_in c n.queue) (name_in e) (map name_in es) in
        let none : one_if_in c e.value.queue ≡ 0 = rw f refl in
        let same : length (ids_in c (e ∷ es)) ≡ length (ids_in c es) = rw f refl in
        omega (arith, whole, none, same, rest)

-- a name of a connection by its number
pub nth_named : (names : List Text) (c n : ℕ) (d : OwnedName) (es : List Entry) → Each (λ e. name_at names e.value.id ≡ e.value.name) es → n < length (ids_in c es) →
    (n < length (its_names c (map name_in es))) × (name_at names (get_or (ids_in c es) n 0) ≡ (get_or (its_names c (map name_in es)) n d).name)
nth_named names c n d [] named lt = absurd (omega (arith, lt))
nth_named names c n d (e ∷ es) named lt = by_test (is_in c e.value.queue) refl n lt (λ k less. nth_named names c k d es named.1 less)
  where
    by_test : (t : Bool) → is_in c e.value.queue ≡ t → (m : ℕ) → m < length (ids_in c (e ∷ es)) → ((k : ℕ) → k < length (ids_in c es) → (k < length (its_names c (map name_in es))) × (name_at names (get_or (ids_in c es) k 0) ≡ (get_or (its_names c (map name_in es)) k d).name)) →
        (m < length (its_names c (map name_in (e ∷ es)))) × (name_at names (get_or (ids_in c (e ∷ es)) m 0) ≡ (get_or (its_names c (map name_in (e ∷ es))) m d).name)
    by_test true f zero less others = rw f (omega arith, named.0)
    by_test true f (suc m) less others =
        let more : length (ids_in c (e ∷ es)) ≡ suc (length (ids_in c es)) = rw f refl in
        let rest = others m (omega (arith, less, more)) in
        rw f (omega (arith, rest.0), rest.1)
    by_test false f m less others =
        let same : length (ids_in c (e ∷ es)) ≡ length (ids_in c es) = rw f refl in
        rw f (others m (omega (arith, less, same)))

-- a name stands behind those that come before it
pub stands_at : (name : Text) (place : ℕ) (names : List OwnedName) → NamesRise names → Each (λ n. text_lt n.name name ≡ true) (take place names) → Each (λ n. text_lt n.name name ≡ false) (drop place names) →
    Each (λ n. n.name ≡ name → (place < length names) × ((d : OwnedName) → get_or names place d ≡ n)) names
stands_at name place [] rise before behind = tt
stands_at name zero (x ∷ xs) rise before behind = (
  λ is. (omega arith, λ d. refl),
  each_weaker (λ n. text_lt x.name n.name ≡ true) (λ n. n.name ≡ name → (0 < length (x ∷ xs)) × ((d : OwnedName) → x ≡ n)) (λ n up is. absurd (true≢false (sym up ∙ ap (text_lt x.name) is ∙ behind.0))) xs rise.0,
)
stands_at name (suc place) (x ∷ xs) rise before behind = (
  λ is. absurd (true≢false (sym before.0 ∙ ap (λ t. text_lt t name) is ∙ text_lt-itself name)),
  each_weaker (λ n. n.name ≡ name → (place < length xs) × ((d : OwnedName) → get_or xs place d ≡ n)) (λ n. n.name ≡ name → (suc place < length (x ∷ xs)) × ((d : OwnedName) → get_or xs place d ≡ n))
      (λ n at is. (let lt : place < length xs = (at is).0 in omega (arith, lt), (at is).1)) xs (stands_at name place xs rise.1 before.1 behind),
)
