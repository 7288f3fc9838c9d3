-- Names by rising bytes, and the place of one of them.
use Rattle.std.proofs.Common.{inl, inr, Ordering, Result, Ok, Err, ◌≡◌, ℕ, zero, suc, ◌+◌, ◌-◌, ◌<◌, ◌≤◌, nat_le, ◌&&◌, not, true, false, cond, if◌then◌else◌, List, [], ◌∷◌, ◌++◌, map, filter, length, take, drop, insert, remove, get_or, refl, sym, ap, ◌∙◌, subst, arith, append_assoc, append-nil}
use Rattle.std.specs.List.{AllByRecursion as Each, sum_by}
use Rattle.std.specs.List.Sorted.{IsBinarySearchResult, IsNonDecreasingBy, IsSearchInRange}
use Rattle.std.specs.Ordering.{nat_cmp, is_lt, ordering_index, ordering_reverse}
use Rattle.std.specs.declared.cmp.Ordering.TheVariants.{Less, Equal, Greater}
use Rattle.std.specs.Cmp.Lexicographic.{slice_cmp}
use Rattle.std.proofs.Math.ListN.{set}
use Rattle.std.proofs.lemmas.Bool.{true≢false, cases_Bool}
use Rattle.std.proofs.lemmas.Bool.Decides.{nat_tests}
use Rattle.std.proofs.lemmas.Cmp.{nat_list_cmp_total}
use Rattle.std.proofs.lemmas.List.{length-append, length-map, length-take-le, take-append-drop}
use Rattle.std.proofs.lemmas.List.Edits.{length-insert}
use Rattle.std.proofs.lemmas.List.Sums.{sum_by-cons, sum_by-append, length-filter}
use Rattle.names.specs.Texts.{Text, text_eq, text_lt}
use Rattle.owner_queues.specs.Queues.{Queue, IsQueue, without, is_free, is_in}
use Rattle.owner_queues.proofs.QueueLemmas.{length-without, without-absent, is_in-without}
use Rattle.seq_bus_core.specs.BusState.{OwnedName, queue_of, with_queue, kept_name, queued_in, names_of, max_names, max_queued, max_names_of_one}
use Rattle.seq_bus_core.specs.Steps.{names_without}
use Rattle.seq_bus_core.proofs.Counts.{OfQueue, kept_sum}
use Rattle.seq_bus_core.proofs.Lists.{each_always, each_passing}
use Rattle.seq_bus_core.proofs.TextLemmas.{text_lt-trans, text_eq-true, text_eq-swapped, text_eq-tied, text_lt-itself, text_lt-back, text_lt-differs}
use Rattle.registry_core.specs.NameTables.{NamesRise, AreOwned, AreInTable, IsAt, WouldStand, SearchGives, are_within}
use Rattle.registry_core.proofs.CountLemmas.{one_if_in, left_length}
use Rattle.match_index.proofs.Lists.{before_place, behind_place, dropped_mapped, each_at, each_mapped, taken_mapped}

abbrev pub Below : OwnedName → OwnedName → Type 0
Below a b = text_lt a.name b.name ≡ true

-- ## Names before and behind another

text_lt-greater : (a b : Text) → slice_cmp nat_cmp a b ≡ Greater → text_lt b a ≡ true
text_lt-greater a b e = ap is_lt (nat_list_cmp_total.antisymm b a ∙ ap ordering_reverse e)

above_differs : (a b : Text) → text_lt b a ≡ true → text_eq a b ≡ false
above_differs a b h = text_eq-swapped b a (text_lt-differs b a h)

front_below : (name : Text) (front back : List OwnedName) → Each (λ n. text_lt n.name name ≡ true) front → filter (λ n. text_lt n.name name) (front ++ back) ≡ front ++ filter (λ n. text_lt n.name name) back
front_below name [] back h = refl
front_below name (n ∷ front) back h = rw h.0 (ap (λ rest. n ∷ rest) (front_below name front back h.1))

front_not_above : (name : Text) (front back : List OwnedName) → Each (λ n. text_lt n.name name ≡ true) front → filter (λ n. text_lt name n.name) (front ++ back) ≡ filter (λ n. text_lt name n.name) back
front_not_above name [] back h = refl
front_not_above name (n ∷ front) back h = rw (text_lt-back n.name name h.0) (front_not_above name front back h.1)

front_queue : (name : Text) (front back : List OwnedName) → Each (λ n. text_lt n.name name ≡ true) front → queue_of (front ++ back) name ≡ queue_of back name
front_queue name [] back h = refl
front_queue name (n ∷ front) back h = rw (text_lt-differs n.name name h.0) (front_queue name front back h.1)

back_not_below : (name : Text) (back : List OwnedName) → Each (λ n. text_lt name n.name ≡ true) back → filter (λ n. text_lt n.name name) back ≡ []
back_not_below name [] h = refl
back_not_below name (n ∷ back) h = rw (text_lt-back name n.name h.0) (back_not_below name back h.1)

back_above : (name : Text) (back : List OwnedName) → Each (λ n. text_lt name n.name ≡ true) back → filter (λ n. text_lt name n.name) back ≡ back
back_above name [] h = refl
back_above name (n ∷ back) h = rw h.0 (ap (λ rest. n ∷ rest) (back_above name back h.1))

back_queue : (name : Text) (back : List OwnedName) → Each (λ n. text_lt name n.name ≡ true) back → queue_of back name ≡ []
back_queue name [] h = refl
back_queue name (n ∷ back) h = rw (above_differs n.name name h.0) (back_queue name back h.1)

pub rise_behind : (front back : List OwnedName) → NamesRise (front ++ back) → NamesRise back
rise_behind [] back h = h
rise_behind (n ∷ front) back h = rise_behind front back h.1

-- a name that is found between others
pub found : (names front back : List OwnedName) (n : OwnedName) (name : Text) (place : ℕ) → names ≡ front ++ n ∷ back → length front ≡ place → NamesRise names →
    Each (λ m. text_lt m.name name ≡ true) front → text_eq n.name name ≡ true → IsAt names name place
found names front back n name place names_are place_is rise before same =
    let is : n.name ≡ name = text_eq-true n.name name same in
    let above : Each (λ m. text_lt name m.name ≡ true) back = subst (λ t. Each (λ m. text_lt t m.name ≡ true) back) is (rise_behind front (n ∷ back) (subst NamesRise names_are rise)).0 in
    let not_below : text_lt n.name name ≡ false = ap (λ t. text_lt t name) is ∙ text_lt-itself name in
    let not_above : text_lt name n.name ≡ false = ap (text_lt name) is ∙ text_lt-itself name in
    let here : List OwnedName → List OwnedName = λ rest. cond (text_lt n.name name) (n ∷ rest) rest in
    record {
      front = front;
      queue = n.queue;
      back = back;
      names_are = names_are ∙ ap (λ t. front ++ record { name = t; queue = n.queue } ∷ back) is;
      between = record {
        place_is = place_is;
        before = ap (filter (λ m. text_lt m.name name)) names_are ∙ front_below name front (n ∷ back) before ∙ ap (λ rest. front ++ rest) (rw not_below (back_not_below name back above)) ∙ append-nil front;
        behind = ap (filter (λ m. text_lt name m.name)) names_are ∙ front_not_above name front (n ∷ back) before ∙ rw not_above (back_above name back above);
        queue_is = ap (λ ns. queue_of ns name) names_are ∙ front_queue name front (n ∷ back) before ∙ rw same refl;
      };
    }

stands : (names front back : List OwnedName) (name : Text) (place : ℕ) → names ≡ front ++ back → length front ≡ place →
    Each (λ m. text_lt m.name name ≡ true) front → Each (λ m. text_lt name m.name ≡ true) back → WouldStand names name place
stands names front back name place names_are place_is before above = record {
  front = front;
  back = back;
  names_are = names_are;
  between = record {
    place_is = place_is;
    before = ap (filter (λ m. text_lt m.name name)) names_are ∙ front_below name front back before ∙ ap (λ rest. front ++ rest) (back_not_below name back above) ∙ append-nil front;
    behind = ap (filter (λ m. text_lt name m.name)) names_are ∙ front_not_above name front back before ∙ back_above name back above;
    queue_is = ap (λ ns. queue_of ns name) names_are ∙ front_queue name front back before ∙ back_queue name back above;
  };
}

-- the names before a place, the one there and those behind it
pub split_at : {X : Type 0} (f : X → OwnedName) (xs : List X) (i : ℕ) (d : X) → i < length xs →
    (map f xs ≡ take i (map f xs) ++ f (get_or xs i d) ∷ drop (suc i) (map f xs)) × (length (take i (map f xs)) ≡ i) × (drop i (map f xs) ≡ f (get_or xs i d) ∷ drop (suc i) (map f xs))
split_at f [] i d lt = absurd (omega (arith, lt))
split_at f (x ∷ xs) zero d lt = (refl, refl, refl)
split_at f (x ∷ xs) (suc i) d lt =
    let rest = split_at f xs i d (omega (arith, lt)) in
    (ap (λ more. f x ∷ more) rest.0, ap suc rest.1, rest.2)

-- ## What is found

-- a name that comes before another does not compare higher
compares_lower : (a b name : Text) → text_lt a b ≡ true → ordering_index (slice_cmp nat_cmp a name) ≤ ordering_index (slice_cmp nat_cmp b name)
compares_lower a b name lower = by_order (slice_cmp nat_cmp a name) (slice_cmp nat_cmp b name) refl refl
  where
    by_order : (o p : Ordering) → slice_cmp nat_cmp a name ≡ o → slice_cmp nat_cmp b name ≡ p → ordering_index o ≤ ordering_index p
    by_order Less p e f = omega arith
    by_order Equal Less e f = absurd (true≢false (sym (text_lt-trans a b name lower (ap is_lt f)) ∙ ap is_lt e))
    by_order Greater Less e f = absurd (true≢false (sym (text_lt-trans a b name lower (ap is_lt f)) ∙ ap is_lt e))
    by_order Equal Equal e f = omega arith
    by_order Equal Greater e f = omega arith
    by_order Greater Equal e f = absurd (true≢false (sym (ap (text_lt a) (sym (text_eq-true b name (text_eq-tied b name f))) ∙ lower) ∙ ap is_lt e))
    by_order Greater Greater e f = omega arith

compared_rise : {X : Type 0} (f : X → OwnedName) (name : Text) (xs : List X) → NamesRise (map f xs) → IsNonDecreasingBy (λ x. ordering_index (slice_cmp nat_cmp (f x).name name)) xs
compared_rise f name [] h i j d le lt = absurd (omega (arith, lt))
compared_rise f name (x ∷ xs) h zero zero d le lt = omega arith
compared_rise f name (x ∷ xs) h zero (suc j) d le lt = compares_lower (f x).name (f (get_or xs j d)).name name (each_at (λ y. Below (f x) (f y)) xs j d (each_mapped (Below (f x)) f xs h.0) (omega (arith, lt)))
compared_rise f name (x ∷ xs) h (suc i) zero d le lt = absurd (omega (arith, le))
compared_rise f name (x ∷ xs) h (suc i) (suc j) d le lt = compared_rise f name xs h.1 i j d (omega (arith, le)) (omega (arith, lt))

-- the names before one that is found
before_found : (front back : List OwnedName) (n : OwnedName) (name : Text) → NamesRise (front ++ n ∷ back) → n.name ≡ name → Each (λ m. text_lt m.name name ≡ true) front
before_found [] back n name h is = tt
before_found (m ∷ front) back n name h is = (subst (λ t. text_lt m.name t ≡ true) is (at_place front h.0), before_found front back n name h.1 is)
  where
    at_place : (front : List OwnedName) → Each (Below m) (front ++ n ∷ back) → text_lt m.name n.name ≡ true
    at_place [] h = h.0
    at_place (o ∷ front) h = at_place front h.1

-- what a binary search by the order of names finds
pub searched : {X : Type 0} (f : X → OwnedName) (name : Text) (xs : List X) (r : Result ℕ ℕ) → NamesRise (map f xs) → IsSearchInRange r (length xs) → IsBinarySearchResult (λ x. slice_cmp nat_cmp (f x).name name) xs r → SearchGives (map f xs) name r
searched {X} f name xs (Ok i) rise there equal =
    let d : X = one_of xs i there in
    let split = split_at f xs i d there in
    let same : text_eq (f (get_or xs i d)).name name ≡ true = text_eq-tied (f (get_or xs i d)).name name (equal d) in
    found (map f xs) (take i (map f xs)) (drop (suc i) (map f xs)) (f (get_or xs i d)) name i split.0 split.1 rise
    (before_found (take i (map f xs)) (drop (suc i) (map f xs)) (f (get_or xs i d)) name (subst NamesRise split.0 rise) (text_eq-true (f (get_or xs i d)).name name same)) same
  where
    one_of : (xs : List X) (i : ℕ) → i < length xs → X
    one_of [] i lt = absurd (omega (arith, lt))
    one_of (x ∷ xs) i lt = x
searched f name xs (Err i) rise there parted =
    let sides = parted (compared_rise f name xs rise) in
    let below = taken_mapped (λ n. text_lt n.name name ≡ true) f xs i (before_place (λ x. text_lt (f x).name name ≡ true) xs i there (λ k d low high. ap is_lt (sides.0 k d low high))) in
    let above = dropped_mapped (λ n. text_lt name n.name ≡ true) f xs i (behind_place (λ x. text_lt name (f x).name ≡ true) xs i (λ k d low high. text_lt-greater (f (get_or xs k d)).name name (sides.1 k d low high))) in
    stands (map f xs) (take i (map f xs)) (drop i (map f xs)) name i (sym (take-append-drop i (map f xs))) (length-take-le i (map f xs) (omega (arith, there, length-map xs f))) below above

-- ## Edits

pub split_same : {X : Type 0} (front back other rest : List X) (n m : X) → front ++ n ∷ back ≡ other ++ m ∷ rest → length front ≡ length other → (front ≡ other) × (n ≡ m) × (back ≡ rest)
split_same [] back [] rest n m e is = let first : n ≡ m = cc in let more : back ≡ rest = cc in (refl, first, more)
split_same [] back (y ∷ other) rest n m e is = absurd (omega (arith, is))
split_same (x ∷ front) back [] rest n m e is = absurd (omega (arith, is))
split_same {X} (x ∷ front) back (y ∷ other) rest n m e is =
    let first : x ≡ y = cc in
    let more : front ++ n ∷ back ≡ other ++ m ∷ rest = cc in
    let same = split_same front back other rest n m more (omega (arith, is)) in
    (ap (λ z. z ∷ front) first ∙ ap (λ (zs : List X). y ∷ zs) same.0, same.1, same.2)

pub map_at : {X Y : Type 0} (f : X → Y) (xs : List X) (i : ℕ) (d : X) (front back : List Y) (n : Y) → map f xs ≡ front ++ n ∷ back → length front ≡ i → f (get_or xs i d) ≡ n
map_at f [] i d [] back n e is = cc
map_at f [] i d (m ∷ front) back n e is = cc
map_at f (x ∷ xs) zero d [] back n e is = let same : f x ≡ n = cc in same
map_at f (x ∷ xs) (suc i) d [] back n e is = absurd (omega (arith, is))
map_at f (x ∷ xs) zero d (m ∷ front) back n e is = absurd (omega (arith, is))
map_at f (x ∷ xs) (suc i) d (m ∷ front) back n e is = let rest : map f xs ≡ front ++ n ∷ back = cc in map_at f xs i d front back n rest (omega (arith, is))

pub map_set : {X Y : Type 0} (f : X → Y) (xs : List X) (i : ℕ) (x : X) (front back : List Y) (n : Y) → map f xs ≡ front ++ n ∷ back → length front ≡ i → map f (set xs i x) ≡ front ++ f x ∷ back
map_set f [] i x [] back n e is = cc
map_set f [] i x (m ∷ front) back n e is = cc
map_set f (y ∷ xs) zero x [] back n e is = let same : map f xs ≡ back = cc in ap (λ rest. f x ∷ rest) same
map_set f (y ∷ xs) (suc i) x [] back n e is = absurd (omega (arith, is))
map_set f (y ∷ xs) zero x (m ∷ front) back n e is = absurd (omega (arith, is))
map_set {X} {Y} f (y ∷ xs) (suc i) x (m ∷ front) back n e is =
    let first : f y ≡ m = cc in
    let rest : map f xs ≡ front ++ n ∷ back = cc in
    ap (λ (o : Y). o ∷ map f (set xs i x)) first ∙ ap (λ (more : List Y). m ∷ more) (map_set f xs i x front back n rest (omega (arith, is)))

pub map_removed : {X Y : Type 0} (f : X → Y) (xs : List X) (i : ℕ) (front back : List Y) (n : Y) → map f xs ≡ front ++ n ∷ back → length front ≡ i → map f (remove xs i) ≡ front ++ back
map_removed f [] i [] back n e is = cc
map_removed f [] i (m ∷ front) back n e is = cc
map_removed f (x ∷ xs) zero [] back n e is = let same : map f xs ≡ back = cc in same
map_removed f (x ∷ xs) (suc i) [] back n e is = absurd (omega (arith, is))
map_removed f (x ∷ xs) zero (m ∷ front) back n e is = absurd (omega (arith, is))
map_removed {X} {Y} f (x ∷ xs) (suc i) (m ∷ front) back n e is =
    let first : f x ≡ m = cc in
    let rest : map f xs ≡ front ++ n ∷ back = cc in
    ap (λ (o : Y). o ∷ map f (remove xs i)) first ∙ ap (λ (more : List Y). m ∷ more) (map_removed f xs i front back n rest (omega (arith, is)))

pub map_inserted : {X Y : Type 0} (f : X → Y) (xs : List X) (i : ℕ) (x : X) → i ≤ length xs → map f (insert xs i x) ≡ insert (map f xs) i (f x)
map_inserted f xs zero x le = refl
map_inserted f [] (suc i) x le = absurd (omega (arith, le))
map_inserted f (y ∷ xs) (suc i) x le = ap (λ rest. f y ∷ rest) (map_inserted f xs i x (omega (arith, le)))

pub inserted_between : (front back : List OwnedName) (i : ℕ) (n : OwnedName) → length front ≡ i → insert (front ++ back) i n ≡ front ++ n ∷ back
inserted_between [] back i n is = let none : 0 ≡ i = is in rw (← none) refl
inserted_between (m ∷ front) back zero n is = absurd (omega (arith, is))
inserted_between (m ∷ front) back (suc i) n is = ap (λ rest. m ∷ rest) (inserted_between front back i n (omega (arith, is)))

-- a name that has another queue stands where it stood
rise_kept : (front back : List OwnedName) (n : OwnedName) (queue : Queue) → NamesRise (front ++ n ∷ back) → NamesRise (front ++ kept_name n.name queue ++ back)
rise_kept [] back n [] h = h.1
rise_kept [] back n (owner ∷ waiting) h = h
rise_kept (m ∷ front) back n queue h = (each_kept_between (Below m) front back n queue (λ q above. above) h.0, rise_kept front back n queue h.1)
  where
    each_kept_between : (P : OwnedName → Type 0) (f b : List OwnedName) (k : OwnedName) (q : Queue) → ((r : Queue) → P k → P (record k { queue = r })) → Each P (f ++ k ∷ b) → Each P (f ++ kept_name k.name q ++ b)
    each_kept_between P [] b k [] same e = e.1
    each_kept_between P [] b k (owner ∷ waiting) same e = (same (owner ∷ waiting) e.0, e.1)
    each_kept_between P (o ∷ f) b k q same e = (e.0, each_kept_between P f b k q same e.1)

rise_renewed : (front back : List OwnedName) (n : OwnedName) (queue : Queue) → NamesRise (front ++ n ∷ back) → NamesRise (front ++ record n { queue = queue } ∷ back)
rise_renewed [] back n queue h = h
rise_renewed (m ∷ front) back n queue h = (each_renewed (Below m) front back n queue (λ q above. above) h.0, rise_renewed front back n queue h.1)
  where
    each_renewed : (P : OwnedName → Type 0) (f b : List OwnedName) (k : OwnedName) (q : Queue) → ((r : Queue) → P k → P (record k { queue = r })) → Each P (f ++ k ∷ b) → Each P (f ++ record k { queue = q } ∷ b)
    each_renewed P [] b k q same e = (same q e.0, e.1)
    each_renewed P (o ∷ f) b k q same e = (e.0, each_renewed P f b k q same e.1)

-- each name has an owner
owned_renewed : (front back : List OwnedName) (n m : OwnedName) → AreOwned (front ++ n ∷ back) → is_free m.queue ≡ false → AreOwned (front ++ m ∷ back)
owned_renewed [] back n m h some = (some, h.1)
owned_renewed (o ∷ front) back n m h some = (h.0, owned_renewed front back n m h.1 some)

owned_dropped : (front back : List OwnedName) (n : OwnedName) → AreOwned (front ++ n ∷ back) → AreOwned (front ++ back)
owned_dropped [] back n h = h.1
owned_dropped (o ∷ front) back n h = (h.0, owned_dropped front back n h.1)

owned_inserted : (names : List OwnedName) (i : ℕ) (n : OwnedName) → AreOwned names → is_free n.queue ≡ false → AreOwned (insert names i n)
owned_inserted names zero n h some = (some, h)
owned_inserted [] (suc i) n h some = (some, tt)
owned_inserted (m ∷ names) (suc i) n h some = (h.0, owned_inserted names i n h.1 some)

pub owned_kept : (front back : List OwnedName) (n : OwnedName) (queue : Queue) → AreOwned (front ++ n ∷ back) → AreOwned (front ++ kept_name n.name queue ++ back)
owned_kept [] back n [] h = h.1
owned_kept [] back n (owner ∷ waiting) h = (refl, h.1)
owned_kept (m ∷ front) back n queue h = (h.0, owned_kept front back n queue h.1)

pub owned_at : (front back : List OwnedName) (n : OwnedName) → AreOwned (front ++ n ∷ back) → is_free n.queue ≡ false
owned_at [] back n h = h.0
owned_at (o ∷ front) back n h = owned_at front back n h.1

-- ## Places in all queues

abbrev places : OwnedName → ℕ
places n = length n.queue

pub queued_between : (front back : List OwnedName) (n : OwnedName) → queued_in (front ++ n ∷ back) ≡ queued_in front + (length n.queue + queued_in back)
queued_between front back n = sum_by-append places front (n ∷ back) ∙ ap (λ k. queued_in front + k) (sum_by-cons places n back)

pub queued_dropped : (front back : List OwnedName) (n : OwnedName) → n.queue ≡ [] → queued_in (front ++ n ∷ back) ≡ queued_in (front ++ back)
queued_dropped front back n none =
    let before : queued_in (front ++ n ∷ back) ≡ queued_in front + (length n.queue + queued_in back) = queued_between front back n in
    let after : queued_in (front ++ back) ≡ queued_in front + queued_in back = sum_by-append places front back in
    let empty : length n.queue ≡ 0 = ap length none in
    omega arith

pub queued_kept : (front back : List OwnedName) (name : Text) (queue : Queue) → queued_in (front ++ record { name = name; queue = queue } ∷ back) ≡ queued_in (front ++ kept_name name queue ++ back)
queued_kept front back name [] = queued_dropped front back (record { name = name; queue = [] }) refl ∙ ap (λ ns. queued_in (ns ++ back)) (sym (append-nil front))
queued_kept front back name (owner ∷ waiting) = ap queued_in (sym (append_assoc front (record { name = name; queue = owner ∷ waiting } ∷ []) back))

-- ## The table

pub place_counts : (names front back : List OwnedName) (n : OwnedName) (spare queued room spare_room : ℕ) → AreInTable names spare queued room spare_room → names ≡ front ++ n ∷ back → length n.queue ≤ queued
place_counts names front back n spare queued room spare_room h is = let all : queued ≡ queued_in front + (length n.queue + queued_in back) = h.counted ∙ ap queued_in is ∙ queued_between front back n in omega arith

pub requeued : (names front back : List OwnedName) (n : OwnedName) (queue : Queue) (spare queued room spare_room : ℕ) → AreInTable names spare queued room spare_room → names ≡ front ++ n ∷ back →
    is_free queue ≡ false → queued_in (front ++ record n { queue = queue } ∷ back) ≤ max_queued → AreInTable (front ++ record n { queue = queue } ∷ back) spare (queued - length n.queue + length queue) room spare_room
requeued names front back n queue spare queued room spare_room h is some few =
    let all : queued ≡ queued_in front + (length n.queue + queued_in back) = h.counted ∙ ap queued_in is ∙ queued_between front back n in
    let after : queued_in (front ++ record n { queue = queue } ∷ back) ≡ queued_in front + (length queue + queued_in back) = queued_between front back (record n { queue = queue }) in
    let counted : queued - length n.queue + length queue ≡ queued_in (front ++ record n { queue = queue } ∷ back) = omega arith in
    record {
      rise = rise_renewed front back n queue (subst NamesRise is h.rise);
      owned = owned_renewed front back n (record n { queue = queue }) (subst AreOwned is h.owned) some;
      entries = ap (λ k. k + spare) (length-append front (record n { queue = queue } ∷ back) ∙ sym (length-append front (n ∷ back)) ∙ ap length (sym is)) ∙ h.entries;
      counted = counted;
      few_places = subst (λ k. k ≤ max_queued) (sym counted) few;
      has_room = h.has_room;
      has_spare_room = h.has_spare_room;
    }

pub fewer_places : (names front back : List OwnedName) (n : OwnedName) (c spare queued room spare_room : ℕ) → AreInTable names spare queued room spare_room → names ≡ front ++ n ∷ back →
    queued_in (front ++ record n { queue = without c n.queue } ∷ back) ≤ max_queued
fewer_places names front back n c spare queued room spare_room h is =
    let all : queued ≡ queued_in front + (length n.queue + queued_in back) = h.counted ∙ ap queued_in is ∙ queued_between front back n in
    let after : queued_in (front ++ record n { queue = without c n.queue } ∷ back) ≡ queued_in front + (length (without c n.queue) + queued_in back) = queued_between front back (record n { queue = without c n.queue }) in
    let fewer : length (without c n.queue) ≤ length n.queue = length-without c n.queue in
    let few : queued ≤ max_queued = h.few_places in
    omega arith

pub free_queue : (queue : Queue) → is_free queue ≡ true → queue ≡ []
free_queue [] h = refl
free_queue (owner ∷ waiting) h = cc

pub kept_whole : (name : Text) (queue : Queue) → is_free queue ≡ false → kept_name name queue ≡ record { name = name; queue = queue } ∷ []
kept_whole name [] h = cc
kept_whole name (owner ∷ waiting) h = refl

pub dropped : (names front back : List OwnedName) (n : OwnedName) (spare queued room spare_room : ℕ) → AreInTable names spare queued room spare_room → names ≡ front ++ n ∷ back →
    AreInTable (front ++ back) (spare + 1) (queued - length n.queue) room spare_room
dropped names front back n spare queued room spare_room h is =
    let whole : length names ≡ length front + suc (length back) = ap length is ∙ length-append front (n ∷ back) in
    let rest : length (front ++ back) ≡ length front + length back = length-append front back in
    let all : length names + spare ≡ max_names = h.entries in
    let before : queued ≡ queued_in front + (length n.queue + queued_in back) = h.counted ∙ ap queued_in is ∙ queued_between front back n in
    let after : queued_in (front ++ back) ≡ queued_in front + queued_in back = sum_by-append places front back in
    let few : queued ≤ max_queued = h.few_places in
    record {
      rise = subst (λ ns. NamesRise (ns ++ back)) (append-nil front) (rise_kept front back n [] (subst NamesRise is h.rise));
      owned = owned_dropped front back n (subst AreOwned is h.owned);
      entries = omega arith;
      counted = omega arith;
      few_places = omega arith;
      has_room = h.has_room;
      has_spare_room = h.has_spare_room;
    }

pub added : (names : List OwnedName) (place : ℕ) (n : OwnedName) (spare less queued room spare_room : ℕ) → AreInTable names spare queued room spare_room → place ≤ length names → NamesRise (insert names place n) →
    is_free n.queue ≡ false → spare ≡ less + 1 → queued + length n.queue ≤ max_queued → AreInTable (insert names place n) less (queued + length n.queue) room spare_room
added names place n spare less queued room spare_room h le rise some one few =
    let longer : length (insert names place n) ≡ length names + 1 = length-insert names place n le in
    let all : length names + spare ≡ max_names = h.entries in
    let parts : names ≡ take place names ++ drop place names = sym (take-append-drop place names) in
    let before : queued ≡ queued_in (take place names) + queued_in (drop place names) = h.counted ∙ ap queued_in parts ∙ sum_by-append places (take place names) (drop place names) in
    let after : queued_in (insert names place n) ≡ queued_in (take place names) + (length n.queue + queued_in (drop place names)) = queued_between (take place names) (drop place names) n in
    record {
      rise = rise;
      owned = owned_inserted names place n h.owned some;
      entries = omega arith;
      counted = omega arith;
      few_places = few;
      has_room = h.has_room;
      has_spare_room = h.has_spare_room;
    }

-- ## The queue of a name

pub with_found : (names : List OwnedName) (name : Text) (place : ℕ) (queue : Queue) (at : IsAt names name place) → with_queue name queue names ≡ at.front ++ kept_name name queue ++ at.back
with_found names name place queue at =
    ap (λ ns. ns ++ kept_name name queue ++ filter (λ n. text_lt name n.name) names) at.between.before ∙ ap (λ ns. at.front ++ kept_name name queue ++ ns) at.between.behind

pub with_absent : (names : List OwnedName) (name : Text) (place : ℕ) (queue : Queue) (at : WouldStand names name place) → with_queue name queue names ≡ at.front ++ kept_name name queue ++ at.back
with_absent names name place queue at =
    ap (λ ns. ns ++ kept_name name queue ++ filter (λ n. text_lt name n.name) names) at.between.before ∙ ap (λ ns. at.front ++ kept_name name queue ++ ns) at.between.behind

pub requeued_places : (names front back : List OwnedName) (n : OwnedName) (name : Text) (place : ℕ) (queue : Queue) → IsAt names name place → names ≡ front ++ n ∷ back → length front ≡ place →
    queued_in (front ++ record n { queue = queue } ∷ back) ≡ queued_in (with_queue name queue names)
requeued_places names front back n name place queue at is place_is =
    let same = split_same front back at.front at.back n (record { name = name; queue = at.queue }) (sym is ∙ at.names_are) (place_is ∙ sym at.between.place_is) in
    ap (λ ns. queued_in (ns ++ record n { queue = queue } ∷ back)) same.0 ∙ ap (λ (m : OwnedName). queued_in (at.front ++ record m { queue = queue } ∷ back)) same.1
    ∙ ap (λ ns. queued_in (at.front ++ record { name = name; queue = queue } ∷ ns)) same.2
    ∙ queued_kept at.front at.back name queue ∙ ap queued_in (sym (with_found names name place queue at))

pub added_is : (names : List OwnedName) (name : Text) (place : ℕ) (queue : Queue) → WouldStand names name place → is_free queue ≡ false → insert names place (record { name = name; queue = queue }) ≡ with_queue name queue names
added_is names name place queue at some =
    let n : OwnedName = record { name = name; queue = queue } in
    ap (λ ns. insert ns place n) at.names_are ∙ inserted_between at.front at.back place n at.between.place_is ∙ sym (append_assoc at.front (n ∷ []) at.back)
    ∙ ap (λ ns. at.front ++ ns ++ at.back) (sym (kept_whole name queue some)) ∙ sym (with_absent names name place queue at)

-- the same table, with as much room or more
pub resized : (names same : List OwnedName) (spare spare_same queued queued_same room more spare_room spare_more : ℕ) → AreInTable names spare queued room spare_room →
    same ≡ names → spare_same ≡ spare → queued_same ≡ queued → room ≤ more → spare_room ≤ spare_more → AreInTable same spare_same queued_same more spare_more
resized names same spare spare_same queued queued_same room more spare_room spare_more h e f g k l = record {
  rise = subst NamesRise (sym e) h.rise;
  owned = subst AreOwned (sym e) h.owned;
  entries = ap (λ ns. length ns + spare_same) e ∙ ap (λ m. length names + m) f ∙ h.entries;
  counted = g ∙ h.counted ∙ ap queued_in (sym e);
  few_places = subst (λ m. m ≤ max_queued) (sym g) h.few_places;
  has_room = let less : max_names ≤ room = h.has_room in omega arith;
  has_spare_room = let less : max_names ≤ spare_room = h.has_spare_room in omega arith;
}

between_sum : (g : Queue → ℕ) → g [] ≡ 0 → (front back : List OwnedName) (name : Text) (queue : Queue) →
    sum_by (OfQueue g) (front ++ kept_name name queue ++ back) ≡ sum_by (OfQueue g) front + g queue + sum_by (OfQueue g) back
between_sum g none front back name queue =
    let f : OwnedName → ℕ = OfQueue g in
    let kept : sum_by f (kept_name name queue) ≡ g queue = kept_sum g none name queue in
    let first : sum_by f (front ++ kept_name name queue) ≡ sum_by f front + sum_by f (kept_name name queue) = sum_by-append f front (kept_name name queue) in
    let whole : sum_by f (front ++ kept_name name queue ++ back) ≡ sum_by f (front ++ kept_name name queue) + sum_by f back = sum_by-append f (front ++ kept_name name queue) back in
    omega arith

pub sum_found : (g : Queue → ℕ) → g [] ≡ 0 → (names : List OwnedName) (name : Text) (place : ℕ) (queue : Queue) (at : IsAt names name place) →
    sum_by (OfQueue g) (with_queue name queue names) + g at.queue ≡ sum_by (OfQueue g) names + g queue
sum_found g none names name place queue at =
    let f : OwnedName → ℕ = OfQueue g in
    let n : OwnedName = record { name = name; queue = at.queue } in
    let after : sum_by f (with_queue name queue names) ≡ sum_by f at.front + g queue + sum_by f at.back = ap (sum_by f) (with_found names name place queue at) ∙ between_sum g none at.front at.back name queue in
    let before : sum_by f names ≡ sum_by f at.front + sum_by f (n ∷ at.back) = ap (sum_by f) at.names_are ∙ sum_by-append f at.front (n ∷ at.back) in
    let first : sum_by f (n ∷ at.back) ≡ g at.queue + sum_by f at.back = sum_by-cons f n at.back in
    omega arith

pub sum_absent : (g : Queue → ℕ) → g [] ≡ 0 → (names : List OwnedName) (name : Text) (place : ℕ) (queue : Queue) → WouldStand names name place →
    sum_by (OfQueue g) (with_queue name queue names) ≡ sum_by (OfQueue g) names + g queue
sum_absent g none names name place queue at =
    let f : OwnedName → ℕ = OfQueue g in
    let after : sum_by f (with_queue name queue names) ≡ sum_by f at.front + g queue + sum_by f at.back = ap (sum_by f) (with_absent names name place queue at) ∙ between_sum g none at.front at.back name queue in
    let before : sum_by f names ≡ sum_by f at.front + sum_by f at.back = ap (sum_by f) at.names_are ∙ sum_by-append f at.front at.back in
    omega arith

kept_length : (name : Text) (queue : Queue) → length (kept_name name queue) ≡ (if not (is_free queue) then 1 else 0)
kept_length name [] = refl
kept_length name (owner ∷ waiting) = refl

between_length : (front back : List OwnedName) (name : Text) (queue : Queue) → length (front ++ kept_name name queue ++ back) ≡ length front + (if not (is_free queue) then 1 else 0) + length back
between_length front back name queue =
    let kept : length (kept_name name queue) ≡ (if not (is_free queue) then 1 else 0) = kept_length name queue in
    let first : length (front ++ kept_name name queue) ≡ length front + length (kept_name name queue) = length-append front (kept_name name queue) in
    let whole : length (front ++ kept_name name queue ++ back) ≡ length (front ++ kept_name name queue) + length back = length-append (front ++ kept_name name queue) back in
    omega arith

pub length_found : (names : List OwnedName) (name : Text) (place : ℕ) (queue : Queue) → IsAt names name place → length (with_queue name queue names) + 1 ≡ length names + (if not (is_free queue) then 1 else 0)
length_found names name place queue at =
    let after = ap length (with_found names name place queue at) ∙ between_length at.front at.back name queue in
    let before : length names ≡ length at.front + suc (length at.back) = ap length at.names_are ∙ length-append at.front (record { name = name; queue = at.queue } ∷ at.back) in
    omega (arith, after)

pub length_absent : (names : List OwnedName) (name : Text) (place : ℕ) (queue : Queue) → WouldStand names name place → length (with_queue name queue names) ≡ length names + (if not (is_free queue) then 1 else 0)
length_absent names name place queue at =
    let after = ap length (with_absent names name place queue at) ∙ between_length at.front at.back name queue in
    let before : length names ≡ length at.front + length at.back = ap length at.names_are ∙ length-append at.front at.back in
    omega (arith, after)

pub count_found : (names : List OwnedName) (name : Text) (place : ℕ) (queue : Queue) (c : ℕ) (at : IsAt names name place) → names_of c (with_queue name queue names) + one_if_in c at.queue ≡ names_of c names + one_if_in c queue
count_found names name place queue c at = sum_found (one_if_in c) refl names name place queue at

pub count_absent : (names : List OwnedName) (name : Text) (place : ℕ) (queue : Queue) (c : ℕ) → WouldStand names name place → names_of c (with_queue name queue names) ≡ names_of c names + one_if_in c queue
count_absent names name place queue c at = sum_absent (one_if_in c) refl names name place queue at

pub queued_found : (names : List OwnedName) (name : Text) (place : ℕ) (queue : Queue) (at : IsAt names name place) → queued_in (with_queue name queue names) + length at.queue ≡ queued_in names + length queue
queued_found names name place queue at = sum_found length refl names name place queue at

pub queued_absent : (names : List OwnedName) (name : Text) (place : ℕ) (queue : Queue) → WouldStand names name place → queued_in (with_queue name queue names) ≡ queued_in names + length queue
queued_absent names name place queue at = sum_absent length refl names name place queue at

pub within_by : (names : List OwnedName) (c a b d : ℕ) → a ≡ length names → b ≡ queued_in names → d ≡ names_of c names → (nat_le a max_names && nat_le b max_queued && nat_le d max_names_of_one) ≡ are_within names c
within_by names c a b d e f g = rw (e, f, g) refl

-- a queue takes no more than where the name had none
pub at_most_absent : (names : List OwnedName) (name : Text) (found : Result ℕ ℕ) (queue : Queue) (c : ℕ) → SearchGives names name found →
    (length (with_queue name queue names) ≤ length names + (if not (is_free queue) then 1 else 0)) × (queued_in (with_queue name queue names) ≤ queued_in names + length queue)
    × (names_of c (with_queue name queue names) ≤ names_of c names + one_if_in c queue)
at_most_absent names name (Ok place) queue c at =
    let all_names = length_found names name place queue at in
    let all_places = queued_found names name place queue at in
    let all_its = count_found names name place queue c at in
    (omega (arith, all_names), omega (arith, all_places), omega (arith, all_its))
at_most_absent names name (Err place) queue c at =
    let all_names = length_absent names name place queue at in
    let all_places = queued_absent names name place queue at in
    let all_its = count_absent names name place queue c at in
    (omega (arith, all_names), omega (arith, all_places), omega (arith, all_its))

-- the limits hold where they hold of more
pub within_more : (names : List OwnedName) (c a b d : ℕ) → length names ≤ a → queued_in names ≤ b → names_of c names ≤ d →
    (nat_le a max_names && nat_le b max_queued && nat_le d max_names_of_one) ≡ true → are_within names c ≡ true
within_more names c a b d e f g h = grind (arith, nat_tests)

-- ## The names of a connection

names_between : (c : ℕ) (front back : List OwnedName) (n : OwnedName) → names_of c (front ++ n ∷ back) ≡ names_of c front + (one_if_in c n.queue + names_of c back)
names_between c front back n =
    let f : OwnedName → ℕ = OfQueue (one_if_in c) in
    let first : sum_by f (front ++ n ∷ back) ≡ sum_by f front + sum_by f (n ∷ back) = sum_by-append f front (n ∷ back) in
    let rest : sum_by f (n ∷ back) ≡ one_if_in c n.queue + sum_by f back = sum_by-cons f n back in
    first ∙ ap (λ k. sum_by f front + k) rest

pub few_at : (names front back : List OwnedName) (n : OwnedName) (queue : Queue) (all : ℕ) → all ≡ queued_in names → names ≡ front ++ n ∷ back → queued_in (front ++ record n { queue = queue } ∷ back) ≤ max_queued → all + length queue ≤ max_queued + length n.queue
few_at names front back n queue all is parts few =
    let before : all ≡ queued_in front + (length n.queue + queued_in back) = is ∙ ap queued_in parts ∙ queued_between front back n in
    let after : queued_in (front ++ record n { queue = queue } ∷ back) ≡ queued_in front + (length queue + queued_in back) = queued_between front back (record n { queue = queue }) in
    omega (arith, before, after, few)

one_absent : (c : ℕ) (queue : Queue) → one_if_in c queue ≡ 0 → is_in c queue ≡ false
one_absent c queue none = elim (cases_Bool (is_in c queue)) [ inl there ↦ absurd (let one : one_if_in c queue ≡ 1 = rw there refl in omega (arith, one, none)) | inr absent ↦ absent ]

-- a connection without names leaves all as they are
pub leave_ended : (c : ℕ) (names : List OwnedName) → AreOwned names → names_of c names ≡ 0 → names_without c names ≡ names
leave_ended c [] h none = refl
leave_ended c (n ∷ names) h none =
    let whole : names_of c (n ∷ names) ≡ one_if_in c n.queue + names_of c names = sum_by-cons (OfQueue (one_if_in c)) n names in
    let here : one_if_in c n.queue ≡ 0 = omega (arith, whole, none) in
    let more : names_of c names ≡ 0 = omega (arith, whole, none) in
    ap (λ (q : Queue). kept_name n.name q ++ names_without c names) (without-absent c n.queue (one_absent c n.queue here)) ∙ ap (λ ns. ns ++ names_without c names) (kept_whole n.name n.queue h.0)
    ∙ ap (λ ns. n ∷ ns) (leave_ended c names h.1 more)

without_append : (c : ℕ) (xs ys : List OwnedName) → names_without c (xs ++ ys) ≡ names_without c xs ++ names_without c ys
without_append c [] ys = refl
without_append c (n ∷ xs) ys =
    let kept : List OwnedName = kept_name n.name (without c n.queue) in
    ap (λ rest. kept ++ rest) (without_append c xs ys) ∙ sym (append_assoc kept (names_without c xs) (names_without c ys))

without_again : (c : ℕ) (name : Text) (queue : Queue) → is_in c queue ≡ false → names_without c (kept_name name queue) ≡ kept_name name queue
without_again c name [] absent = refl
without_again c name (o ∷ os) absent = append-nil (kept_name name (without c (o ∷ os))) ∙ ap (kept_name name) (without-absent c (o ∷ os) absent)

-- a connection that leaves one of its queues has the others to leave
pub leave_next : (c : ℕ) (front back : List OwnedName) (n : OwnedName) → names_without c (front ++ kept_name n.name (without c n.queue) ++ back) ≡ names_without c (front ++ n ∷ back)
leave_next c front back n =
    let kept : List OwnedName = kept_name n.name (without c n.queue) in
    without_append c (front ++ kept) back ∙ ap (λ ns. ns ++ names_without c back) (without_append c front kept ∙ ap (λ ns. names_without c front ++ ns) (without_again c n.name (without c n.queue) (is_in-without c n.queue)))
    ∙ append_assoc (names_without c front) kept (names_without c back) ∙ sym (without_append c front (n ∷ back))

-- and has one name fewer
pub leave_counts : (c : ℕ) (front back : List OwnedName) (n : OwnedName) → is_in c n.queue ≡ true → names_of c (front ++ n ∷ back) ≡ names_of c (front ++ kept_name n.name (without c n.queue) ++ back) + 1
leave_counts c front back n is =
    let before : names_of c (front ++ n ∷ back) ≡ names_of c front + (one_if_in c n.queue + names_of c back) = names_between c front back n in
    let after : names_of c (front ++ kept_name n.name (without c n.queue) ++ back) ≡ names_of c front + one_if_in c (without c n.queue) + names_of c back = between_sum (one_if_in c) refl front back n.name (without c n.queue) in
    let one : one_if_in c n.queue ≡ 1 = rw is refl in
    let none : one_if_in c (without c n.queue) ≡ 0 = rw (is_in-without c n.queue) refl in
    omega (arith, before, after, one, none)

-- the names before a place, the one there and those behind it
pub parts_at : (names : List OwnedName) (i : ℕ) (d : OwnedName) → i < length names → (names ≡ take i names ++ get_or names i d ∷ drop (suc i) names) × (length (take i names) ≡ i)
parts_at [] i d lt = absurd (omega (arith, lt))
parts_at (n ∷ names) zero d lt = (refl, refl)
parts_at (n ∷ names) (suc i) d lt = let rest = parts_at names i d (omega (arith, lt)) in (ap (λ more. n ∷ more) rest.0, ap suc rest.1)

-- a connection waits for each of its names
pub nth_waits : (c n place : ℕ) (names : List OwnedName) (d : OwnedName) → n < names_of c names → get_or names place d ≡ get_or (filter (λ m. is_in c m.queue) names) n d → is_in c (get_or names place d).queue ≡ true
nth_waits c n place names d lt same =
    let its : List OwnedName = filter (λ m. is_in c m.queue) names in
    let all : Each (λ m. is_in c m.queue ≡ true) its = each_passing (λ m. Unit {0}) (λ m. is_in c m.queue ≡ true) (λ m. is_in c m.queue) (λ m h passes. passes) names (each_always (λ m. Unit {0}) (λ m. tt) names) in
    let less : n < length its = omega (arith, lt, length-filter (λ (m : OwnedName). is_in c m.queue) names) in
    ap (λ (m : OwnedName). is_in c m.queue) same ∙ each_at (λ m. is_in c m.queue ≡ true) its n d all less

pub between_at : (front back : List OwnedName) (n d : OwnedName) (i : ℕ) → length front ≡ i → get_or (front ++ n ∷ back) i d ≡ n
between_at [] back n d i is = let none : 0 ≡ i = is in rw (← none) refl
between_at (m ∷ front) back n d zero is = absurd (omega (arith, is))
between_at (m ∷ front) back n d (suc i) is = between_at front back n d i (omega (arith, is))

pub still_owned : (c : ℕ) (queue : Queue) → IsQueue queue → is_in c queue ≡ true → 1 < length queue → is_free (without c queue) ≡ false
still_owned c queue h is more =
    let less : length queue ≡ length (without c queue) + 1 = left_length c queue h is in
    by_length (without c queue) (omega (arith, less, more))
  where
    by_length : (q : Queue) → 0 < length q → is_free q ≡ false
    by_length [] some = absurd (omega (arith, some))
    by_length (o ∷ os) some = refl

pub last_leaves : (c : ℕ) (queue : Queue) → IsQueue queue → is_in c queue ≡ true → length queue ≤ 1 → without c queue ≡ []
last_leaves c queue h is few =
    let less : length queue ≡ length (without c queue) + 1 = left_length c queue h is in
    by_length (without c queue) (omega (arith, less, few))
  where
    by_length : (q : Queue) → length q ≤ 0 → q ≡ []
    by_length [] none = refl
    by_length (o ∷ os) none = absurd (omega (arith, none))

-- ## One name, once a connection stands in its queue no longer

pub kept_shorter : (c : ℕ) (front back : List OwnedName) (n : OwnedName) → is_free (without c n.queue) ≡ false →
    front ++ record n { queue = without c n.queue } ∷ back ≡ front ++ kept_name n.name (without c n.queue) ++ back
kept_shorter c front back n some =
    sym (append_assoc front (record n { queue = without c n.queue } ∷ []) back) ∙ ap (λ ns. front ++ ns ++ back) (sym (kept_whole n.name (without c n.queue) some))

pub kept_none : (c : ℕ) (front back : List OwnedName) (n : OwnedName) → without c n.queue ≡ [] → front ++ back ≡ front ++ kept_name n.name (without c n.queue) ++ back
kept_none c front back n none = ap (λ ns. ns ++ back) (sym (append-nil front)) ∙ ap (λ (q : Queue). front ++ kept_name n.name q ++ back) (sym none)
