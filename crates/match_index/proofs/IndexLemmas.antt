-- Entries whose indexes change with them.
use Rattle.std.proofs.Common.{◌≡◌, ℕ, zero, suc, ◌+◌, ◌<◌, ◌≤◌, ◌==◌, Bool, true, false, not, cond, Some, List, [], ◌∷◌, ◌++◌, length, map, filter, take, drop, get_or, remove, refl, sym, ap, ◌∙◌, subst, arith, if◌then◌else◌, set}
use Rattle.std.specs.List.{position}
use Rattle.std.proofs.lemmas.Bool.{eq-eqb, eqb-true}
use Rattle.std.proofs.lemmas.List.{append-nil, length-append, take_at}
use Rattle.match_rules.specs.OwnedRules.{OwnedRule, rules_without}
use Rattle.match_index.specs.Buckets.{bucket_of}
use Rattle.match_index.specs.Entries.{ArePlaced, Key, by_code, by_connection, has_key, is_there, live, marked, new_places, positions}
use Rattle.match_index.specs.Indexes.{AreFiled, AreIndexed, AreShaped}
use Rattle.match_index.specs.PlaceIndexes.{places_in, places_of}
use Rattle.match_index.specs.declared.entries.Entry.{Entry}
use Rattle.match_index.specs.declared.place_index.KeyedPlace.{KeyedPlace}
use Rattle.match_index.proofs.EntryLemmas.{IsAmong, IsNth, among, live_added, nth_position, position_added, positions_within, swept_live, swept_places, taken_all, taken_other, taken_own}
use Rattle.match_index.proofs.Lists.{each_at, first_place, place_passes, position_is}

-- what is written back into a vector through a slice of it
pub written_back : {X : Type 0} (n : ℕ) (xs ys : List X) → length ys ≡ n → take n (ys ++ drop (length ys) xs) ≡ ys
written_back n xs ys size = take_at ys (drop (length ys) xs) n size

pub place_at : (ps : List KeyedPlace) (i : ℕ) (d : KeyedPlace) → get_or (places_in ps) i d.place ≡ (get_or ps i d).place
place_at [] i d = refl
place_at (p ∷ ps) zero d = refl
place_at (p ∷ ps) (suc i) d = place_at ps i d

-- ## Where they are

-- the others are where they were, and one key has other places
changed : (key : Key) (n : ℕ) (ps qs : List KeyedPlace) (es fs : List Entry) → ((k : ℕ) → places_of k ps ≡ positions key k es) → places_of n qs ≡ positions key n fs →
    ((k : ℕ) → (n == k) ≡ false → places_of k qs ≡ places_of k ps) → ((k : ℕ) → (n == k) ≡ false → positions key k fs ≡ positions key k es) → (k : ℕ) → places_of k qs ≡ positions key k fs
changed key n ps qs es fs placed own others same k = by_test (n == k) refl
  where
    by_test : (b : Bool) → (n == k) ≡ b → places_of k qs ≡ positions key k fs
    by_test true is = subst (λ c. places_of c qs ≡ positions key c fs) (eqb-true n k is) own
    by_test false is = others k is ∙ placed k ∙ sym (same k is)

pub placed_added : (key : Key) (n : ℕ) (ps qs : List KeyedPlace) (es : List Entry) (e : Entry) → ArePlaced key es ps → is_there e ≡ true → ((k : ℕ) → has_key key k e ≡ (n == k)) → places_of n qs ≡ places_of n ps ++ length es ∷ [] →
    ((k : ℕ) → (n == k) ≡ false → places_of k qs ≡ places_of k ps) → length qs ≡ length ps + 1 → ArePlaced key (es ++ e ∷ []) qs
placed_added key n ps qs es e placed there its own others all =
    let behind : (k : ℕ) (b : Bool) → (n == k) ≡ b → positions key k (es ++ e ∷ []) ≡ positions key k es ++ (if b then length es ∷ [] else []) =
    λ k b is. position_added key k es e ∙ ap (λ t. positions key k es ++ (if t then length es ∷ [] else [])) (its k ∙ is) in
    let same : (n == n) ≡ true = eq-eqb n n refl in
    record {
      places_are = changed key n ps qs es (es ++ e ∷ []) placed.places_are (own ∙ ap (λ ks. ks ++ length es ∷ []) (placed.places_are n) ∙ sym (behind n true same)) others (λ k other. behind k false other ∙ append-nil (positions key k es));
      all = let more = ap length (live_added es e ∙ ap (λ t. live es ++ (if t then record { connection = e.connection; rule = e.rule } ∷ [] else [])) there) in
          let two = length-append (live es) (record { connection = e.connection; rule = e.rule } ∷ []) in
          omega (arith, all, placed.all, more, two);
    }

pub placed_taken : (key : Key) (n j p : ℕ) (ps qs : List KeyedPlace) (es : List Entry) → ArePlaced key es ps → IsNth key n j es p → places_of n qs ≡ remove (places_of n ps) j → ((k : ℕ) → (n == k) ≡ false → places_of k qs ≡ places_of k ps) →
    length qs + 1 ≡ length ps → ArePlaced key (marked es p) qs
placed_taken key n j p ps qs es placed nth own others all = record {
  places_are = changed key n ps qs es (marked es p) placed.places_are (own ∙ ap (λ ks. remove ks j) (placed.places_are n) ∙ sym (taken_own key n j es p nth)) others (λ k other. taken_other key k n j es p nth other);
  all = let less = taken_all key n j es p nth in omega (arith, all, placed.all, less);
}

pub placed_swept : (key : Key) (ps qs : List KeyedPlace) (es : List Entry) → ArePlaced key es ps → ((k : ℕ) → places_of k qs ≡ map (λ place. get_or (new_places 0 es) place 0) (places_of k ps)) → length qs ≡ length ps → ArePlaced key (filter is_there es) qs
placed_swept key ps qs es placed places all = record {
  places_are = λ k. places k ∙ ap (map (λ place. get_or (new_places 0 es) place 0)) (placed.places_are k) ∙ swept_places key k es;
  all = all ∙ placed.all ∙ ap length (sym (swept_live es));
}

-- ## Their buckets

pub filed_marked : (es : List Entry) (p : ℕ) → AreFiled es → AreFiled (marked es p)
filed_marked [] p h = tt
filed_marked (e ∷ es) zero h = (h.0, h.1)
filed_marked (e ∷ es) (suc p) h = (h.0, filed_marked es p h.1)

pub filed_added : (es : List Entry) (e : Entry) → AreFiled es → e.bucket ≡ bucket_of e.rule → AreFiled (es ++ e ∷ [])
filed_added [] e h is = (is, tt)
filed_added (x ∷ es) e h is = (h.0, filed_added es e h.1 is)

pub filed_swept : (es : List Entry) → AreFiled es → AreFiled (filter is_there es)
filed_swept [] h = tt
filed_swept (e ∷ es) h = by_test (is_there e) (filed_swept es h.1)
  where
    by_test : (b : Bool) → AreFiled (filter is_there es) → AreFiled (cond b (e ∷ filter is_there es) (filter is_there es))
    by_test true rest = (h.0, rest)
    by_test false rest = rest

-- ## All of them

pub indexed_taken : (c j p k : ℕ) (es : List Entry) (cs codes ds others : List KeyedPlace) → AreIndexed es cs codes → IsNth by_connection c j es p → (its : IsAmong by_code k es p) →
    places_of c ds ≡ remove (places_of c cs) j → ((x : ℕ) → (c == x) ≡ false → places_of x ds ≡ places_of x cs) → length ds + 1 ≡ length cs →
    places_of k others ≡ remove (places_of k codes) its.place → ((x : ℕ) → (k == x) ≡ false → places_of x others ≡ places_of x codes) → length others + 1 ≡ length codes →
    AreIndexed (marked es p) ds others
indexed_taken c j p k es cs codes ds others indexed nth its own_c other_c all_c own_b other_b all_b = record {
  owned = placed_taken by_connection c j p cs ds es indexed.owned nth own_c other_c all_c;
  coded = placed_taken by_code k its.place p codes others es indexed.coded its.nth own_b other_b all_b;
  filed = filed_marked es p indexed.filed;
}

pub indexed_swept : (es : List Entry) (cs codes ds others : List KeyedPlace) → AreIndexed es cs codes →
    ((k : ℕ) → places_of k ds ≡ map (λ place. get_or (new_places 0 es) place 0) (places_of k cs)) → length ds ≡ length cs →
    ((k : ℕ) → places_of k others ≡ map (λ place. get_or (new_places 0 es) place 0) (places_of k codes)) → length others ≡ length codes →
    AreIndexed (filter is_there es) ds others
indexed_swept es cs codes ds others indexed own_c all_c own_b all_b = record {
  owned = placed_swept by_connection cs ds es indexed.owned own_c all_c;
  coded = placed_swept by_code codes others es indexed.coded own_b all_b;
  filed = filed_swept es indexed.filed;
}

-- ## What is taken out

-- the rule of a connection that is taken out, at its place
pub record IsChosen (c n : ℕ) (es : List Entry) (p : ℕ) (d : Entry) : Type 0 where
  pub nth : IsNth by_connection c n es p
  pub its : IsAmong by_code (by_code (get_or es p d)) es p
  pub below : p < length es

pub chosen : (c n : ℕ) (es : List Entry) (d : Entry) → n < length (positions by_connection c es) → IsChosen c n es (get_or (positions by_connection c es) n 0) d
chosen c n es d lt =
    let nth = nth_position by_connection c n es lt in
    record {
      nth = nth;
      its = among by_code by_connection c n es (get_or (positions by_connection c es) n 0) d nth;
      below = each_at (λ k. k < length es) (positions by_connection c es) n 0 (positions_within by_connection c es) lt;
    }

pub chosen_place : (c n : ℕ) (es : List Entry) (cs codes ps : List KeyedPlace) (d : KeyedPlace) → AreIndexed es cs codes → places_in ps ≡ places_of c cs → d.place ≡ 0 → (get_or ps n d).place ≡ get_or (positions by_connection c es) n 0
chosen_place c n es cs codes ps d indexed is none = sym (place_at ps n d) ∙ ap (get_or (places_in ps) n) none ∙ ap (λ ks. get_or ks n 0) (is ∙ indexed.owned.places_are c)

-- its number among the places of its bucket
pub chosen_number : (k p m : ℕ) (es : List Entry) (cs codes : List KeyedPlace) → AreIndexed es cs codes → (its : IsAmong by_code k es p) → ((i : ℕ) → position (λ q. q == p) (places_of k codes) ≡ Some i → m ≡ i) → m ≡ its.place
chosen_number k p m es cs codes indexed its given = given its.place (position_is (λ q. q == p) (places_of k codes) ∙ ap (first_place (λ q. q == p)) (indexed.coded.places_are k) ∙ its.found)

pub number_below : (k p m : ℕ) (es : List Entry) (cs codes : List KeyedPlace) → AreIndexed es cs codes → (its : IsAmong by_code k es p) → m ≡ its.place → m < length (places_of k codes)
number_below k p m es cs codes indexed its is =
    let below = (place_passes (λ q. q == p) (positions by_code k es) its.place its.found).0 in
    let same = ap length (indexed.coded.places_are k) in
    omega (arith, below, same, is)

pub length_removed : (xs : List ℕ) (n : ℕ) → n < length xs → length (remove xs n) + 1 ≡ length xs
length_removed [] n lt = absurd (omega (arith, lt))
length_removed (x ∷ xs) zero lt = omega arith
length_removed (x ∷ xs) (suc n) lt = let rest = length_removed xs n (omega (arith, lt)) in omega (arith, rest)

-- ## How many there are

pub fewer_without : (c : ℕ) (rules : List OwnedRule) → length (rules_without c rules) ≤ length rules
fewer_without c [] = omega arith
fewer_without c (r ∷ rules) = by_test (r.connection == c) (fewer_without c rules)
  where
    by_test : (b : Bool) → length (rules_without c rules) ≤ length rules → length (cond (not b) (r ∷ rules_without c rules) (rules_without c rules)) ≤ suc (length rules)
    by_test true h = omega (arith, h)
    by_test false h = omega (arith, h)

-- ## Shapes

pub shaped_marked : (shapes : List Bool) (es : List Entry) (p : ℕ) → AreShaped shapes es → AreShaped shapes (marked es p)
shaped_marked shapes [] p h = tt
shaped_marked shapes (e ∷ es) zero h = (h.0, h.1)
shaped_marked shapes (e ∷ es) (suc p) h = (h.0, shaped_marked shapes es p h.1)

pub shaped_swept : (shapes : List Bool) (es : List Entry) → AreShaped shapes es → AreShaped shapes (filter is_there es)
shaped_swept shapes [] h = tt
shaped_swept shapes (e ∷ es) h = by_test (is_there e) (shaped_swept shapes es h.1)
  where
    by_test : (b : Bool) → AreShaped shapes (filter is_there es) → AreShaped shapes (cond b (e ∷ filter is_there es) (filter is_there es))
    by_test true rest = (h.0, rest)
    by_test false rest = rest

set_stays : (shapes : List Bool) (i k : ℕ) → get_or shapes k false ≡ true → get_or (set shapes i true) k false ≡ true
set_stays [] i k h = h
set_stays (b ∷ shapes) zero zero h = refl
set_stays (b ∷ shapes) zero (suc k) h = h
set_stays (b ∷ shapes) (suc i) zero h = h
set_stays (b ∷ shapes) (suc i) (suc k) h = set_stays shapes i k h

set_there : (shapes : List Bool) (i : ℕ) → i < length shapes → get_or (set shapes i true) i false ≡ true
set_there [] i lt = absurd (omega (arith, lt))
set_there (b ∷ shapes) zero lt = refl
set_there (b ∷ shapes) (suc i) lt = set_there shapes i (omega (arith, lt))

pub shaped_added : (shapes : List Bool) (es : List Entry) (e : Entry) → AreShaped shapes es → e.bucket.shape < length shapes → AreShaped (set shapes e.bucket.shape true) (es ++ e ∷ [])
shaped_added shapes [] e h lt = (set_there shapes e.bucket.shape lt, tt)
shaped_added shapes (x ∷ es) e h lt = (set_stays shapes e.bucket.shape x.bucket.shape h.0, shaped_added shapes es e h.1 lt)
