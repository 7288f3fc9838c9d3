-- A table of names that is the same as another.
use Rattle.std.proofs.Common.{◌≡◌, ◌==◌, ℕ, zero, suc, ◌+◌, ◌<◌, ◌≤◌, List, [], ◌∷◌, ◌++◌, map, sum_by, length, take, get_or, refl, sym, ap, ◌∙◌, subst, arith, if◌then◌else◌}
use Rattle.std.specs.List.{AllByRecursion as Each}
use Rattle.std.proofs.Math.ListN.{set}
use Rattle.std.proofs.lemmas.List.{length-map}
use Rattle.std.proofs.lemmas.List.Sums.{sum_by-cons}
use Rattle.std.proofs.lemmas.Simd.{map-map}
use Rattle.owner_queues.specs.Queues.{is_in}
use Rattle.seq_bus_core.specs.BusState.{OwnedName, max_names}
use Rattle.seq_bus_core.proofs.Lists.{each_map}
use Rattle.registry_core.specs.NameIndexes.{IndexedNames, name_at}
use Rattle.registry_core.specs.NameTables.{Entry, owned_name, numbered, numbers_of, values_of, waits_here, AreIndexed, AreInTable}
use Rattle.registry_core.specs.declared.name_table.NameEntry.{NameEntry}
use Rattle.match_index.proofs.Lists.{done_is}

each_unmap : {X Y : Type 0} (Q : Y → Type 0) (f : X → Y) (xs : List X) → Each Q (map f xs) → Each (λ x. Q (f x)) xs
each_unmap Q f [] h = tt
each_unmap Q f (x ∷ xs) h = (h.0, each_unmap Q f xs h.1)

sum_map : {X Y : Type 0} (g : Y → ℕ) (f : X → Y) (xs : List X) → sum_by g (map f xs) ≡ sum_by (λ x. g (f x)) xs
sum_map g f [] = refl
sum_map g f (x ∷ xs) = sum_by-cons g (f x) (map f xs) ∙ ap (λ n. g (f x) + n) (sum_map g f xs) ∙ sym (sum_by-cons (λ y. g (f y)) x xs)

abbrev one_if : ℕ → ℕ → ℕ
one_if id n = if n == id then 1 else 0

numbered_by : (id : ℕ) (entries others : List Entry) → numbers_of entries ≡ numbers_of others → numbered id entries ≡ numbered id others
numbered_by id entries others same = sym (sum_map (one_if id) (λ (e : Entry). e.value.id) entries) ∙ ap (sum_by (one_if id)) same ∙ sum_map (one_if id) (λ (e : Entry). e.value.id) others

abbrev waits : ℕ → ℕ → NameEntry → ℕ
waits c id e = if e.id == id then (if is_in c e.queue then 1 else 0) else 0

waits_by : (c id : ℕ) (entries others : List Entry) → values_of entries ≡ values_of others → sum_by (waits_here c id) entries ≡ sum_by (waits_here c id) others
waits_by c id entries others same = sym (sum_map (waits c id) (λ (e : Entry). e.value) entries) ∙ ap (sum_by (waits c id)) same ∙ sum_map (waits c id) (λ (e : Entry). e.value) others

numbers_by : (entries others : List Entry) → values_of entries ≡ values_of others → numbers_of entries ≡ numbers_of others
numbers_by entries others same =
    let id : NameEntry → ℕ = λ e. e.id in
    sym (map-map id (λ (e : Entry). e.value) entries) ∙ ap (map id) same ∙ map-map id (λ (e : Entry). e.value) others

pub names_by : (entries others : List Entry) → values_of entries ≡ values_of others → map (λ (e : Entry). owned_name e.value) entries ≡ map (λ (e : Entry). owned_name e.value) others
names_by entries others same = sym (map-map owned_name (λ (e : Entry). e.value) entries) ∙ ap (map owned_name) same ∙ map-map owned_name (λ (e : Entry). e.value) others

pub indexed_by : (entries spare others other_spare : List Entry) (index : IndexedNames) (queued : ℕ) → values_of entries ≡ values_of others → numbers_of spare ≡ numbers_of other_spare →
    AreIndexed others other_spare index queued → AreIndexed entries spare index queued
indexed_by entries spare others other_spare index queued same same_spare h = record {
  once = λ id. rw (numbered_by id entries others (numbers_by entries others same), numbered_by id spare other_spare same_spare) (h.once id);
  named = each_unmap (λ (e : NameEntry). name_at index.names e.id ≡ e.name) (λ (e : Entry). e.value) entries
      (subst (Each (λ (e : NameEntry). name_at index.names e.id ≡ e.name)) (sym same)
      (each_map (λ (e : Entry). name_at index.names e.value.id ≡ e.value.name) (λ (e : NameEntry). name_at index.names e.id ≡ e.name) (λ (e : Entry). e.value) (λ e is. is) others h.named));
  places = λ c id. h.places c id ∙ sym (waits_by c id entries others same);
  all = h.all;
}

pub table_by : (entries others : List Entry) (spare other_spare queued room spare_room other_room other_spare_room : ℕ) → values_of entries ≡ values_of others → spare ≡ other_spare → max_names ≤ room → max_names ≤ spare_room →
    AreInTable (map (λ (e : Entry). owned_name e.value) others) other_spare queued other_room other_spare_room → AreInTable (map (λ (e : Entry). owned_name e.value) entries) spare queued room spare_room
table_by entries others spare other_spare queued room spare_room other_room other_spare_room same same_spare has_room has_spare_room h =
    subst (λ (ns : List OwnedName). AreInTable ns spare queued room spare_room) (sym (names_by entries others same)) (record {
      rise = h.rise;
      owned = h.owned;
      entries = omega (arith, h.entries, same_spare);
      counted = h.counted;
      few_places = h.few_places;
      has_room = has_room;
      has_spare_room = has_spare_room;
    })

-- what is written at a place comes behind what stands before it
pub written : (xs : List ℕ) (i x : ℕ) → i < length xs → take (i + 1) (set xs i x) ≡ take i xs ++ x ∷ []
written [] i x lt = absurd (omega (arith, lt))
written (y ∷ xs) zero x lt = refl
written (y ∷ xs) (suc i) x lt = let next : suc i + 1 ≡ suc (i + 1) = omega arith in rw next (ap (λ ys. y ∷ ys) (written xs i x (omega (arith, lt))))

pub numbers_set : (entries : List Entry) (i : ℕ) (e : Entry) → numbers_of (set entries i e) ≡ set (numbers_of entries) i e.value.id
numbers_set [] i e = refl
numbers_set (x ∷ xs) zero e = refl
numbers_set (x ∷ xs) (suc i) e = ap (λ ns. x.value.id ∷ ns) (numbers_set xs i e)

-- the number of the entry at a place
pub number_at_place : (entries : List Entry) (i : ℕ) (e : Entry) → i < length entries → e ≡ get_or entries i e → e.value.id ≡ get_or (numbers_of entries) i e.value.id
number_at_place entries i e lt is = ap (λ (x : Entry). x.value.id) is ∙ sym (mapped entries i)
  where
    mapped : (es : List Entry) (j : ℕ) → get_or (numbers_of es) j e.value.id ≡ (get_or es j e).value.id
    mapped [] j = refl
    mapped (x ∷ es) zero = refl
    mapped (x ∷ es) (suc j) = mapped es j

pub renumbered : (entries others : List Entry) (i : ℕ) (e other : Entry) → i < length entries → length entries ≡ length others → other ≡ get_or others i other → e.value.id ≡ other.value.id →
    take i (numbers_of entries) ≡ take i (numbers_of others) → take (i + 1) (numbers_of (set entries i e)) ≡ take (i + 1) (numbers_of others)
renumbered entries others i e other lt long is id_is before =
    let within : i < length (numbers_of entries) = omega (arith, lt, length-map entries (λ (x : Entry). x.value.id)) in
    let within_others : i < length (numbers_of others) = omega (arith, lt, long, length-map others (λ (x : Entry). x.value.id)) in
    ap (take (i + 1)) (numbers_set entries i e) ∙ written (numbers_of entries) i e.value.id within
    ∙ ap (λ ns. ns ++ e.value.id ∷ []) before ∙ ap (λ n. take i (numbers_of others) ++ n ∷ []) id_is
    ∙ sym (done_is (numbers_of others) i other.value.id within_others (number_at_place others i other (omega (arith, lt, long)) is))
