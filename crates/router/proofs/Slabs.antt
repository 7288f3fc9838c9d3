-- Connections in a slab.
use Rattle.std.proofs.Common.{◌≡◌, ℕ, zero, suc, ◌+◌, ◌<◌, ◌≤◌, Bool, false, true, Option, Some, None, List, [], ◌∷◌, length, take, get_or, set, position, cond, nat_lt, count_by, refl, sym, ap, ◌∙◌, subst, inl, inr, arith}
use Rattle.std.specs.Prelude.{IsSome}
use Rattle.std.proofs.lemmas.Bool.{cases_eq, cases_lt, false≢true, lt-ltb, le-ltb}
use Rattle.std.proofs.lemmas.List.{get_or_past, set-get_or}
use Rattle.std.proofs.lemmas.List.Sums.{position_or_len_is, sum_by-cons}
use Rattle.seq_bus_core.specs.Histories.{History}
use Rattle.sasl.specs.Settings.{Login}
use Rattle.slab.specs.Slab.{Slab, get, with_value, Updates}
use Rattle.router_core.specs.Deeds.{GatedCall}
use Rattle.router_core.specs.Events.{OfPeer, for_entry, for_peer}
use Rattle.router_core.specs.Scripts.{Gives, World, Comes}
use Rattle.router_core.specs.Standing.{Peer, Standing, before_all, trimmed, placed, peer_at, with_peer}
use Rattle.router_core.proofs.Trimmed.{get-trimmed, trimmed-set, trimmed-same, trimmed-placed, get-placed, get-placed_other}
use Rattle.router_steps.specs.Noting.{after_noting}
use Rattle.router_steps.proofs.Nexts.{for_some}
use Rattle.router_steps.proofs.Sequels.{comes_then}

-- whoever is there is within the list
pub there_within : {A : Type 0} (xs : List (Option A)) (k : ℕ) (x : A) → get_or xs k None ≡ Some x → k < length xs
there_within xs k x is =
    elim (cases_lt k (length xs)) [
      | inl inside ↦ inside
      | inr past ↦ absurd (never (sym (get_or_past xs k None past) ∙ is))
    ]
  where
    never : None ≡ Some x → ⊥
    never e = cc

length-before : {A : Type 0} (o : Option A) (os : List (Option A)) → length (before_all o os) ≤ suc (length os)
length-before None [] = omega arith
length-before None (x ∷ xs) = omega arith
length-before (Some x) os = omega arith

pub length-trimmed : {A : Type 0} (os : List (Option A)) → length (trimmed os) ≤ length os
length-trimmed [] = omega arith
length-trimmed (o ∷ os) = omega (arith, length-before o (trimmed os), length-trimmed os)

-- ## The first that passes

module _ {A : Type 0} (test : Option A → Bool) (none : test None ≡ false) (xs : List (Option A)) where
  within : (k : ℕ) → test (get_or xs k None) ≡ true → k < length xs
  within k is =
      elim (cases_lt k (length xs)) [
        | inl inside ↦ inside
        | inr past ↦ absurd (false≢true (sym none ∙ ap test (sym (get_or_past xs k None past)) ∙ is))
      ]

  pub first_is : (key : ℕ) → ((k : ℕ) → k < key → test (get_or xs k None) ≡ false) → test (get_or xs key None) ≡ true → position test xs ≡ Some key
  first_is key before is =
      let inside = within key is in
      let first = position_or_len_is test xs key None (omega (arith, inside)) before (λ _. is) in
      ap (λ n. cond (nat_lt n (length xs)) (Some n) None) first ∙ ap (λ b. cond b (Some key) None) (lt-ltb key (length xs) inside)

  pub none_is : ((k : ℕ) → test (get_or xs k None) ≡ false) → position test xs ≡ None
  none_is all =
      let past = position_or_len_is test xs (length xs) None (omega arith) (λ k before. all k) (λ inside. absurd (omega (arith, inside))) in
      ap (λ n. cond (nat_lt n (length xs)) (Some n) None) past ∙ ap (λ b. cond b (Some (length xs)) None) (le-ltb (length xs) (length xs) (omega arith))

-- those before the next key pass no more than those before this one
pub passes_until : {A : Type 0} (test : Option A → Bool) (xs : List (Option A)) (key : ℕ) → ((k : ℕ) → k < key → test (get_or xs k None) ≡ false) → test (get_or xs key None) ≡ false → (k : ℕ) → k < key + 1 → test (get_or xs k None) ≡ false
passes_until test xs key before here k less =
    elim (cases_eq k key) [
      | inl same ↦ ap (λ n. test (get_or xs n None)) same ∙ here
      | inr other ↦ before k (omega (arith, less, other))
    ]

-- ## How many pass

module _ {A : Type 0} (test : Option A → Bool) (none : test None ≡ false) where
  abbrev one_if : Bool → ℕ
  one_if b = cond b 1 0

  abbrev one : Option A → ℕ
  one o = one_if (test o)

  count_next : (xs : List (Option A)) (k : ℕ) → count_by test (take (suc k) xs) ≡ count_by test (take k xs) + one (get_or xs k None)
  count_next [] zero = let never : one None ≡ 0 = ap (λ (b : Bool). one_if b) none in omega (arith, never)
  count_next [] (suc k) = let never : one None ≡ 0 = ap (λ (b : Bool). one_if b) none in omega (arith, never)
  count_next (x ∷ xs) zero = omega (arith, sum_by-cons one x [])
  count_next (x ∷ xs) (suc k) = omega (arith, sum_by-cons one x (take (suc k) xs), sum_by-cons one x (take k xs), count_next xs k)

  pub count_more : (xs : List (Option A)) (k : ℕ) (b : Bool) → test (get_or xs k None) ≡ b → count_by test (take (k + 1) xs) ≡ count_by test (take k xs) + one_if b
  count_more xs k b is =
      let next : k + 1 ≡ suc k = omega arith in
      ap (λ n. count_by test (take n xs)) next ∙ count_next xs k ∙ ap (λ (c : Bool). count_by test (take k xs) + one_if c) is

-- the same of the connections of a slab, whatever vacant places stand behind them
module _ (test : Option Peer → Bool) (none : test None ≡ false) (slots : List (Option Peer)) where
  at : (k : ℕ) (b : Bool) → test (get_or slots k None) ≡ b → test (get_or (trimmed slots) k None) ≡ b
  at k b is = ap test (get-trimmed slots k) ∙ is

  pub first_of_all : (key : ℕ) → ((k : ℕ) → k < key → test (get_or slots k None) ≡ false) → test (get_or slots key None) ≡ true → position test (trimmed slots) ≡ Some key
  first_of_all key before is = first_is test none (trimmed slots) key (λ k less. at k false (before k less)) (at key true is)

  pub none_at_all : ((k : ℕ) → test (get_or slots k None) ≡ false) → position test (trimmed slots) ≡ None
  none_at_all all = none_is test none (trimmed slots) (λ k. at k false (all k))

  pub none_of_all : (count : ℕ) → length slots ≤ count → ((k : ℕ) → k < count → test (get_or slots k None) ≡ false) → position test (trimmed slots) ≡ None
  none_of_all count all before = none_is test none (trimmed slots) (λ k. at k false (by_count k))
    where
      by_count : (k : ℕ) → test (get_or slots k None) ≡ false
      by_count k =
          elim (cases_lt k count) [
            | inl less ↦ before k less
            | inr past ↦ ap test (get_or_past slots k None (omega (arith, past, all))) ∙ none
          ]

-- ## Connections that come and go

pub slab_opened : (old new : Slab Peer) (key : ℕ) (p : Peer) → Updates old new key (Some p) → trimmed new.slots ≡ placed (trimmed old.slots) key p
slab_opened old new key p updates = trimmed-same new.slots (placed old.slots key p) at ∙ trimmed-placed old.slots key p
  where
    at : (k : ℕ) → get_or new.slots k None ≡ get_or (placed old.slots key p) k None
    at k =
        elim (cases_eq k key) [
          | inl same ↦ ap (λ n. get_or new.slots n None) same ∙ updates.changed ∙ sym (get-placed old.slots key p) ∙ ap (λ n. get_or (placed old.slots key p) n None) (sym same)
          | inr other ↦ updates.others k other ∙ sym (get-placed_other old.slots key k p other)
        ]

-- ## One connection

-- the connections of a slab, with what else stands
abbrev pub standing_of : Slab Peer → List ℕ → Option Login → Standing
standing_of slab due login = record { peers = trimmed slab.slots; due_leaves = due; login = login }

pub nobody : {A : Type 0} (o : Option A) → (IsSome o → ⊥) → o ≡ None
nobody None never = refl
nobody (Some x) never = absurd (never refl)

pub is_there : (o : Option Peer) (p : Peer) → o ≡ Some p → IsSome o
is_there o p is = subst (λ (x : Option Peer). IsSome x) (sym is) refl

module _ (slab : Slab Peer) (due : List ℕ) (login : Option Login) (key : ℕ) where
  pub stands : (o : Option Peer) → get slab key ≡ o → peer_at (standing_of slab due login) key ≡ o
  stands o is = get-trimmed slab.slots key ∙ is

  pub stood : (o : Option Peer) → peer_at (standing_of slab due login) key ≡ o → get slab key ≡ o
  stood o is = sym (get-trimmed slab.slots key) ∙ is

  pub written : (p q : Peer) → get slab key ≡ Some p → with_peer (standing_of slab due login) key (Some q) ≡ standing_of (with_value slab key q) due login
  written p q there = λ i. record { peers = sym (trimmed-set slab.slots key q p there) i; due_leaves = due; login = login }

  -- it was read, and stays
  pub rewritten : (p : Peer) → get slab key ≡ Some p → with_value slab key p ≡ slab
  rewritten p there =
      let same : set slab.slots key (Some p) ≡ slab.slots = ap (set slab.slots key) (sym there) ∙ set-get_or slab.slots key None in
      λ i. record slab { slots = same i }

  pub stays_so : (p q : Peer) → get slab key ≡ Some p → q ≡ p → standing_of (with_value slab key q) due login ≡ standing_of slab due login
  stays_so p q there same = ap (λ (x : Peer). standing_of (with_value slab key x) due login) same ∙ ap (λ (x : Slab Peer). standing_of x due login) (rewritten p there)

  module _ {N G : Type 0} (told : N → History) (registry_of : N → ℕ) (passes : G → GatedCall → G → Type 0) (alone : Bool) (p q : Peer) (there : get slab key ≡ Some p) (work : Peer → OfPeer) (w v : World N G) where
    pub for_there : Comes told registry_of passes alone (work p) w q v → Comes told registry_of passes alone (for_peer (standing_of slab due login) key (peer_at (standing_of slab due login) key) work) w (standing_of (with_value slab key q) due login) v
    for_there done =
        let s = standing_of slab due login in
        let here = for_some told registry_of passes alone s key p q work w v done in
        let found = subst (λ (o : Option Peer). Comes told registry_of passes alone (for_peer s key o work) w (with_peer s key (Some q)) v) (sym (stands (Some p) there)) here in
        subst (λ (t : Standing). Comes told registry_of passes alone (for_peer s key (peer_at s key) work) w t v) (written p q there) found

module _ (slab : Slab Peer) (due : List ℕ) (login : Option Login) (key : ℕ) {N G : Type 0} (told : N → History) (registry_of : N → ℕ) (passes : G → GatedCall → G → Type 0) (alone : Bool) (none : get slab key ≡ None) (work : Peer → OfPeer) (w : World N G) where
  -- nobody has the key
  pub for_nobody : Comes told registry_of passes alone (for_peer (standing_of slab due login) key (peer_at (standing_of slab due login) key) work) w (standing_of slab due login) w
  for_nobody =
      let s = standing_of slab due login in
      let here = stands slab due login key None none in
      let whole : with_peer s key None ≡ s = ap (with_peer s key) (sym here) ∙ (λ i. record s { peers = set-get_or s.peers key None i }) in
      subst (λ (o : Option Peer). Comes told registry_of passes alone (for_peer s key o work) w s w) (sym here) (sym whole, refl)

-- what is done for one that is there
pub for_one : {N G : Type 0} (told : N → History) (registry_of : N → ℕ) (passes : G → GatedCall → G → Type 0) (alone : Bool) (p q : Peer) (work : Peer → OfPeer) (w v : World N G) →
    Comes told registry_of passes alone (work p) w q v → Comes told registry_of passes alone (for_entry (Some p) work) w (Some q) v
for_one told registry_of passes alone p q work w v done = comes_then told registry_of passes alone (λ (r : Peer). Gives (Some r)) q v (Some q) v (refl, refl) (work p) w done

pub for_one_noted : {N G : Type 0} (told : N → History) (registry_of : N → ℕ) (passes : G → GatedCall → G → Type 0) (alone : Bool) (w v : World N G) (held : Option History) (p q : Peer) (work : Peer → OfPeer) →
    Comes told registry_of passes alone (after_noting held (work p)) w q v → Comes told registry_of passes alone (after_noting held (for_entry (Some p) work)) w (Some q) v
for_one_noted told registry_of passes alone w v None p q work done = for_one told registry_of passes alone p q work w v done
for_one_noted told registry_of passes alone w v (Some history) p q work done = (done.0, done.1, for_one told registry_of passes alone p q work done.0 v done.2)
