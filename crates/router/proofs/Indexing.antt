-- The index of slots: what is found in it, and what keeps it true.
use Rattle.std.proofs.Common.{◌≡◌, ◌≢◌, ◌⊎◌, ℕ, zero, suc, ◌<◌, ◌≤◌, Bool, true, false, ◌==◌, cond, Option, Some, None, Result, Ok, Err, OnOk, OnErr, IfOk, List, [], ◌∷◌, length, get_or, set, position, refl, sym, ap, ◌∙◌, inl, inr, arith, subst}
use Rattle.std.specs.List.{position_or_len}
use Rattle.std.proofs.lemmas.Bool.{false≢true, false_from_ne_true, eqb-true, lt-ltb, cases_eq, cases_lt, and_parts}
use Rattle.std.proofs.lemmas.List.{get_or-set_same, get_or-set_other, get_or_past, set_past}
use Rattle.std.proofs.lemmas.List.Sums.{fails_before_first}
use Rattle.seq_bus_core.specs.declared.connection.Conn.{Conn}
use Rattle.slab.specs.Slab.{Slab, Updates}
use Rattle.router_core.specs.Standing.{Peer, Stage, Authenticating, Unnamed, Named, Closing, has_slot, is_conn, trimmed}
use Rattle.router_core.proofs.Trimmed.{get-trimmed}
use Rattle.router.specs.Indexed.{slot_count, IsIndexed, IsVacant, AwaitsHello}
use Rattle.router.proofs.Slabs.{first_of_all, none_at_all}

-- ---- what is found

-- who has a slot is there
pub slot_there : (slot : ℕ) (o : Option Peer) → has_slot slot o ≡ true → (p : Peer) × (o ≡ Some p)
slot_there slot None has = absurd (false≢true has)
slot_there slot (Some p) has = (p, refl)

pub conn_there : (slot number : ℕ) (o : Option Peer) → is_conn slot number o ≡ true → (p : Peer) × (o ≡ Some p)
conn_there slot number None is = absurd (false≢true is)
conn_there slot number (Some p) is = (p, refl)

-- a connection of a slot and a number has the slot
pub slot_of_conn : (slot number : ℕ) (o : Option Peer) → is_conn slot number o ≡ true → has_slot slot o ≡ true
slot_of_conn slot number None is = is
slot_of_conn slot number (Some p) is = in_stage p.stage is
  where
    in_stage : (stage : Stage) → is_conn slot number (Some (record p { stage = stage })) ≡ true → has_slot slot (Some (record p { stage = stage })) ≡ true
    in_stage (Named conn) is = (and_parts (conn.slot == slot) (conn.number == number) is).0
    in_stage (Authenticating setting state) is = is
    in_stage (Unnamed privileged) is = is
    in_stage (Closing conn) is = is

module _ (test : Option Peer → Bool) (none : test None ≡ false) (slot : ℕ) (of_slot : (o : Option Peer) → test o ≡ true → has_slot slot o ≡ true) (slots : List (Option Peer)) (key_of_slot : List ℕ) (indexed : IsIndexed slots key_of_slot) (below : slot < slot_count) where
  only : (k : ℕ) → (get_or key_of_slot slot 0 ≡ k → ⊥) → test (get_or slots k None) ≡ false
  only k other = false_from_ne_true (test (get_or slots k None)) (λ is. other (indexed k slot below (of_slot (get_or slots k None) is)))

  pub found_here : (key : ℕ) → get_or key_of_slot slot 0 ≡ key → test (get_or slots key None) ≡ true → position test (trimmed slots) ≡ Some key
  found_here key kept is = first_of_all test none slots key (λ k before. only k (λ e. omega (arith, before, e, kept))) is

  pub found_nowhere : (key : ℕ) → get_or key_of_slot slot 0 ≡ key → test (get_or slots key None) ≡ false → position test (trimmed slots) ≡ None
  found_nowhere key kept isnt = none_at_all test none slots at
    where
      at : (k : ℕ) → test (get_or slots k None) ≡ false
      at k =
          elim (cases_eq key k) [
            | inl e ↦ subst (λ n. test (get_or slots n None) ≡ false) e isnt
            | inr ne ↦ only k (λ e. ne (sym kept ∙ e))
          ]

-- ---- vacant places behind the connections make no difference

pub index_trimmed : (slots : List (Option Peer)) (key_of_slot : List ℕ) → IsIndexed slots key_of_slot → IsIndexed (trimmed slots) key_of_slot
index_trimmed slots key_of_slot indexed = λ key slot below has. indexed key slot below (subst (λ (o : Option Peer). has_slot slot o ≡ true) (get-trimmed slots key) has)

pub index_untrimmed : (slots : List (Option Peer)) (key_of_slot : List ℕ) → IsIndexed (trimmed slots) key_of_slot → IsIndexed slots key_of_slot
index_untrimmed slots key_of_slot indexed = λ key slot below has. indexed key slot below (subst (λ (o : Option Peer). has_slot slot o ≡ true) (sym (get-trimmed slots key)) has)

pub vacant_trimmed : (slot : ℕ) (slots : List (Option Peer)) → IsVacant slot slots → IsVacant slot (trimmed slots)
vacant_trimmed slot slots vacant = λ key below has. vacant key below (subst (λ (o : Option Peer). has_slot slot o ≡ true) (get-trimmed slots key) has)

pub vacant_untrimmed : (slot : ℕ) (slots : List (Option Peer)) → IsVacant slot (trimmed slots) → IsVacant slot slots
vacant_untrimmed slot slots vacant = λ key below has. vacant key below (subst (λ (o : Option Peer). has_slot slot o ≡ true) (sym (get-trimmed slots key)) has)

-- ---- what keeps it true

-- whoever has a slot then had it before
abbrev pub Keeps : Option Peer → Option Peer → Type 0
Keeps old new = (slot : ℕ) → has_slot slot new ≡ true → has_slot slot old ≡ true

abbrev pub KeepsAll : List (Option Peer) → List (Option Peer) → Type 0
KeepsAll old new = (k : ℕ) → Keeps (get_or old k None) (get_or new k None)

pub index_kept : (old new : List (Option Peer)) (key_of_slot : List ℕ) → KeepsAll old new → IsIndexed old key_of_slot → IsIndexed new key_of_slot
index_kept old new key_of_slot keeps indexed = λ key slot below has. indexed key slot below (keeps key slot has)

pub set_keeps : (peers : List (Option Peer)) (key : ℕ) (new : Option Peer) → Keeps (get_or peers key None) new → KeepsAll peers (set peers key new)
set_keeps [] key new keeps k = λ slot has. has
set_keeps (x ∷ xs) zero new keeps zero = keeps
set_keeps (x ∷ xs) zero new keeps (suc k) = λ slot has. has
set_keeps (x ∷ xs) (suc key) new keeps zero = λ slot has. has
set_keeps (x ∷ xs) (suc key) new keeps (suc k) = set_keeps xs key new keeps k

-- one place of a slab was written
pub updates_keep : (old new : Slab Peer) (key : ℕ) (slot : Option Peer) → Updates old new key slot → Keeps (get_or old.slots key None) slot → KeepsAll old.slots new.slots
updates_keep old new key slot updates keeps k =
    elim (cases_eq k key) [
      | inl same ↦ subst (λ n. Keeps (get_or old.slots n None) (get_or new.slots n None)) (sym same) (λ s has. keeps s (subst (λ (o : Option Peer). has_slot s o ≡ true) updates.changed has))
      | inr other ↦ λ s has. subst (λ (o : Option Peer). has_slot s o ≡ true) (updates.others k other) has
    ]

pub same_keeps : (old new : Option Peer) → new ≡ old → Keeps old new
same_keeps old new same = λ slot has. subst (λ o. has_slot slot o ≡ true) same has

-- a place was written, of which this was read
pub index_at : (peers : List (Option Peer)) (key_of_slot : List ℕ) (key : ℕ) (old new : Option Peer) → old ≡ get_or peers key None → Keeps old new → IsIndexed peers key_of_slot → IsIndexed (set peers key new) key_of_slot
index_at peers key_of_slot key old new there keeps indexed =
    index_kept peers (set peers key new) key_of_slot (set_keeps peers key new (subst (λ o. Keeps o new) there keeps)) indexed

-- one that has no slot was written
pub index_without : (peers : List (Option Peer)) (key_of_slot : List ℕ) (key : ℕ) (new : Option Peer) → Keeps None new → IsIndexed peers key_of_slot → IsIndexed (set peers key new) key_of_slot
index_without peers key_of_slot key new without indexed =
    index_kept peers (set peers key new) key_of_slot (set_keeps peers key new (λ slot has. absurd (false≢true (without slot has)))) indexed

pub if_ok_or_err : {T E Q R : Type 0} {P : T → Type 0} (r : Result T E) → IfOk r P → OnErr r Q → ((x : T) → P x → R) → (Q → R) → R
if_ok_or_err (Ok x) p q f g = f x p
if_ok_or_err (Err e) p q f g = g q

pub either_way : {T E P Q R : Type 0} (r : Result T E) → OnOk r P → OnErr r Q → (P → R) → (Q → R) → R
either_way (Ok x) p q f g = f p
either_way (Err e) p q f g = g q

-- ---- a connection that got its name

-- an element is the one that was written, or as it was
either_set : {A : Type 0} (xs : List A) (key k : ℕ) (x d : A) → ((k ≡ key) × (get_or (set xs key x) k d ≡ x)) ⊎ (get_or (set xs key x) k d ≡ get_or xs k d)
either_set [] key k x d = inr refl
either_set (y ∷ ys) zero zero x d = inl (refl, refl)
either_set (y ∷ ys) zero (suc k) x d = inr refl
either_set (y ∷ ys) (suc key) zero x d = inr refl
either_set (y ∷ ys) (suc key) (suc k) x d =
    elim (either_set ys key k x d) [
      | inl p ↦ inl (ap suc p.0, p.1)
      | inr same ↦ inr same
    ]

module _ (peers : List (Option Peer)) (key_of_slot : List ℕ) (indexed : IsIndexed peers key_of_slot) (key : ℕ) (p : Peer) (conn : Conn) (vacant : IsVacant conn.slot peers) where
  abbrev named : Option Peer
  named = Some (record p { stage = Named conn })

  index_within : length key_of_slot ≡ slot_count → conn.slot < slot_count → IsIndexed (set peers key named) (set key_of_slot conn.slot key)
  index_within whole inside = λ k slot below has.
      elim (either_set peers key k named None) [
        | inl e ↦
            let is : conn.slot ≡ slot = eqb-true conn.slot slot (subst (λ o. has_slot slot o ≡ true) e.1 has) in
            let there : conn.slot < length key_of_slot = omega (arith, whole, inside) in
            subst (λ n. get_or (set key_of_slot conn.slot key) n 0 ≡ k) is (get_or-set_same key_of_slot conn.slot key 0 there ∙ sym e.0)
        | inr same ↦
            let had : has_slot slot (get_or peers k None) ≡ true = subst (λ o. has_slot slot o ≡ true) same has in
            let other : slot ≢ conn.slot = λ e. vacant k inside (subst (λ n. has_slot n (get_or peers k None) ≡ true) e had) in
            get_or-set_other key_of_slot conn.slot slot key 0 other ∙ indexed k slot below had
      ]

  -- no key is kept for its slot
  index_beyond : slot_count ≤ conn.slot → IsIndexed (set peers key named) key_of_slot
  index_beyond beyond = λ k slot below has.
      elim (either_set peers key k named None) [
        | inl e ↦
            let is : conn.slot ≡ slot = eqb-true conn.slot slot (subst (λ o. has_slot slot o ≡ true) e.1 has) in
            absurd (omega (arith, is, beyond, below))
        | inr same ↦ indexed k slot below (subst (λ o. has_slot slot o ≡ true) same has)
      ]

  pub index_named : length key_of_slot ≡ slot_count → IsIndexed (set peers key named) (set key_of_slot conn.slot key)
  index_named whole =
      elim (cases_lt conn.slot slot_count) [
        | inl inside ↦ index_within whole inside
        | inr beyond ↦
            let past : length key_of_slot ≤ conn.slot = omega (arith, whole, beyond) in
            subst (λ ns. IsIndexed (set peers key named) ns) (sym (set_past key_of_slot conn.slot key past)) (index_beyond beyond)
      ]

inside_from_has : (slot key : ℕ) (peers : List (Option Peer)) → has_slot slot (get_or peers key None) ≡ true → key < length peers
inside_from_has slot key peers has =
    elim (cases_lt key (length peers)) [
      | inl inside ↦ inside
      | inr past ↦
          let never : false ≡ true = ap (has_slot slot) (sym (get_or_past peers key None past)) ∙ has in
          absurd (false≢true never)
    ]

none_or_some : (n : ℕ) → ◌≡◌ {A = Option ℕ} None (Some n) → ⊥
none_or_some n e = cc

-- where nobody is found who has the slot
pub vacant_unfound : (slot : ℕ) (peers : List (Option Peer)) → position (has_slot slot) peers ≡ None → IsVacant slot peers
vacant_unfound slot peers none = λ k below has.
    let first = position_or_len (has_slot slot) peers in
    let inside : k < length peers = inside_from_has slot k peers has in
    elim (cases_lt first (length peers)) [
      | inl found ↦
          let some : position (has_slot slot) peers ≡ Some first = ap (λ b. cond b (Some first) None) (lt-ltb first (length peers) found) in
          none_or_some first (sym none ∙ some)
      | inr past ↦ false≢true (sym (fails_before_first (has_slot slot) peers k None (omega (arith, inside, past))) ∙ has)
    ]

-- whoever has the slot is closed
pub vacant_closed : (slot key : ℕ) (new : Option Peer) (peers : List (Option Peer)) (key_of_slot : List ℕ) → IsIndexed peers key_of_slot → has_slot slot (get_or peers key None) ≡ true → Keeps None new → IsVacant slot (set peers key new)
vacant_closed slot key new peers key_of_slot indexed has gone = λ k below still.
    elim (cases_eq k key) [
      | inl e ↦
          let here = subst (λ n. has_slot slot (get_or (set peers key new) n None) ≡ true) e still in
          let is_new = get_or-set_same peers key new None (inside_from_has slot key peers has) in
          false≢true (gone slot (subst (λ o. has_slot slot o ≡ true) is_new here))
      | inr ne ↦
          let had = subst (λ o. has_slot slot o ≡ true) (get_or-set_other peers key k new None ne) still in
          ne (sym (indexed k slot below had) ∙ indexed key slot below has)
    ]

-- a connection without a name has no slot
pub unnamed_keeps : (p q : Peer) → AwaitsHello p.stage → q.stage ≡ p.stage → Keeps None (Some q)
unnamed_keeps p q unnamed same = λ slot has. absurd (false≢true (sym (none slot q.stage (subst (λ (stage : Stage). AwaitsHello stage) (sym same) unnamed)) ∙ has))
  where
    none : (slot : ℕ) (stage : Stage) → AwaitsHello stage → has_slot slot (Some (record q { stage = stage })) ≡ false
    none slot (Authenticating setting state) is = absurd is
    none slot (Unnamed privileged) is = refl
    none slot (Named conn) is = absurd is
    none slot (Closing conn) is = absurd is

-- one that is at the same stage has the same slot
pub like_keeps : (p q : Peer) → q.stage ≡ p.stage → Keeps (Some p) (Some q)
like_keeps p q like = λ slot has. subst (λ (stage : Stage). has_slot slot (Some (record q { stage = stage })) ≡ true) like has
