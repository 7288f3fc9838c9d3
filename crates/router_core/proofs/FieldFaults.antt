-- The fields of a header end in one fault.
use Rattle.std.proofs.Common.{◌≡◌, ◌⊎◌, ℕ, ◌+◌, ◌≤◌, ◌<◌, List, [], ◌∷◌, ◌++◌, length, drop, refl, sym, ap, subst, ◌∙◌, append_assoc, arith, inl, inr}
use Rattle.std.proofs.lemmas.List.{append-nil, drop_at, length-append}
use Rattle.marshal_core.specs.declared.order.Order.{Order}
use Rattle.message_core.specs.Announcements.{fixed_length}
use Rattle.message_core.specs.HeaderFields.{Field, MayFollow, AreFields}
use Rattle.message_core.specs.Places.{part, code_at, AreSpelled, FaultyFields}
use Rattle.message_core.proofs.FieldReading.{part_join, length_part}
use Rattle.message_core.proofs.NoMessages.{AreElements, same_fields}
use Rattle.message_core.proofs.Unread.{one_field}

-- What is spelled goes on from xs, which take a and leave x, to ys, which leave y.
pub record GoesOn (order : Order) (at : ℕ) (xs ys : List Field) (a x y : List ℕ) : Type 0 where
  pub more : List Field
  pub bytes : List ℕ
  pub fields : ys ≡ xs ++ more
  pub spelled : AreElements order (at + length a) more bytes
  pub behind : x ≡ bytes ++ y

one_more : (order : Order) (at : ℕ) (f g : Field) (fs gs : List Field) (a b c x y : List ℕ) → f ≡ g → a ≡ b ++ c → GoesOn order (at + length b) fs gs c x y → GoesOn order at (f ∷ fs) (g ∷ gs) a x y
one_more order at f g fs gs a b c x y same split h =
    let place : at + length b + length c ≡ at + length a = omega (arith, ap length split, length-append b c) in
    record {
      more = h.more;
      bytes = h.bytes;
      fields = ap (λ (z : Field). z ∷ gs) (sym same) ∙ ap (λ (zs : List Field). f ∷ zs) h.fields;
      spelled = subst (λ (n : ℕ). AreElements order n h.more h.bytes) place h.spelled;
      behind = h.behind;
    }

-- Of two lists of fields that begin the same bytes one goes on from the other.
one_goes_on : (order : Order) (at : ℕ) (xs ys : List Field) (a b x y : List ℕ) → AreElements order at xs a → AreElements order at ys b → a ++ x ≡ b ++ y → GoesOn order at xs ys a x y ⊎ GoesOn order at ys xs b y x
one_goes_on order at [] ys a b x y h k e =
    inl
    record {
      more = ys;
      bytes = b;
      fields = refl;
      spelled = subst (λ (n : ℕ). AreElements order n ys b) (omega (arith, ap length h)) k;
      behind = sym (ap (λ (z : List ℕ). z ++ x) h) ∙ e;
    }
one_goes_on order at (f ∷ fs) [] a b x y h k e =
    inr
    record {
      more = f ∷ fs;
      bytes = a;
      fields = refl;
      spelled = subst (λ (n : ℕ). AreElements order n (f ∷ fs) a) (omega (arith, ap length k)) h;
      behind = sym (ap (λ (z : List ℕ). z ++ y) k) ∙ sym e;
    }
one_goes_on order at (f ∷ fs) (g ∷ gs) a b x y h k e =
    let both : h.0 ++ (h.1 ++ x) ≡ k.0 ++ (k.1 ++ y) =
    sym (append_assoc h.0 h.1 x) ∙ ap (λ (z : List ℕ). z ++ x) (sym h.4) ∙ e ∙ ap (λ (z : List ℕ). z ++ y) k.4 ∙ append_assoc k.0 k.1 y in
    let same = one_field order at f g h.0 k.0 (h.1 ++ x) (k.1 ++ y) h.2 k.2 both in
    let rest : h.1 ++ x ≡ k.1 ++ y =
    sym (drop_at h.0 (h.1 ++ x) (length h.0) refl) ∙ ap (drop (length h.0)) both ∙ drop_at k.0 (k.1 ++ y) (length h.0) (ap length (sym same.0)) in
    by_rest same (one_goes_on order (at + length h.0) fs gs h.1 k.1 x y h.3 (subst (λ (z : List ℕ). AreElements order (at + length z) gs k.1) (sym same.0) k.3) rest)
  where
    by_rest : (h.0 ≡ k.0) × (f ≡ g) → GoesOn order (at + length h.0) fs gs h.1 x y ⊎ GoesOn order (at + length h.0) gs fs k.1 y x → GoesOn order at (f ∷ fs) (g ∷ gs) a x y ⊎ GoesOn order at (g ∷ gs) (f ∷ fs) b y x
    by_rest same (inl on) = inl (one_more order at f g fs gs a h.0 h.1 x y same.1 h.4 on)
    by_rest same (inr on) = inr (one_more order at g f gs fs b h.0 k.1 y x (sym same.1) (k.4 ∙ ap (λ (z : List ℕ). z ++ k.1) (sym same.0)) on)

may_follow : (before xs zs : List Field) (f : Field) → AreFields before (xs ++ f ∷ zs) → MayFollow (before ++ xs) f
may_follow before [] zs f h = subst (λ (fs : List Field). MayFollow fs f) (sym (append-nil before)) h.0
may_follow before (g ∷ gs) zs f h = subst (λ (fs : List Field). MayFollow fs f) (append_assoc before (g ∷ []) gs) (may_follow (before ++ g ∷ []) gs zs f h.1)

module _ (order : Order) (bytes : List ℕ) (end : ℕ) (ends : end ≤ length bytes) where
  -- the fields up to a place, and what follows them
  split : (at : ℕ) → fixed_length ≤ at → at ≤ end → part fixed_length end bytes ≡ part fixed_length at bytes ++ part at end bytes
  split at begins inside = part_join bytes fixed_length at end begins inside

  place : (at : ℕ) → fixed_length ≤ at → at ≤ end → fixed_length + length (part fixed_length at bytes) ≡ at
  place at begins inside = omega (arith, length_part bytes fixed_length at begins (omega (arith, inside, ends)), begins)

  -- no field that is permitted follows those before the fault
  none_follows : (code : ℕ) (f : FaultyFields order bytes end code) (g : Field) (gs : List Field) (here y : List ℕ) → AreElements order (fixed_length + length (part fixed_length f.at bytes)) (g ∷ gs) here →
      part f.at end bytes ≡ here ++ y → AreFields [] (f.sent ++ g ∷ gs) → ⊥
  none_follows code f g gs here y spelled behind permitted =
      let at : fixed_length + length (part fixed_length f.at bytes) ≡ f.at = place f.at f.within.0 (omega (arith, f.within.1)) in
      let now = subst (λ (n : ℕ). AreElements order n (g ∷ gs) here) at spelled in
      f.none g now.0 (now.1 ++ y) (behind ∙ ap (λ (z : List ℕ). z ++ y) now.4 ∙ append_assoc now.0 now.1 y) now.2 (may_follow [] f.sent gs g permitted)

  -- where the same is left, it is left from the same place
  same_place : (at bt : ℕ) → at < end → bt < end → part at end bytes ≡ part bt end bytes → at ≡ bt
  same_place at bt inside within same =
      omega (arith, inside, within, ap length same, length_part bytes at end (omega (arith, inside)) ends, length_part bytes bt end (omega (arith, within)) ends)

  nothing_more : (code other : ℕ) (f : FaultyFields order bytes end code) (g : FaultyFields order bytes end other) (more : List Field) (here : List ℕ) →
      AreElements order (fixed_length + length (part fixed_length f.at bytes)) more here → g.sent ≡ f.sent ++ more → part f.at end bytes ≡ here ++ part g.at end bytes → code ≡ other
  nothing_more code other f g [] here spelled fields behind =
      let left : part f.at end bytes ≡ part g.at end bytes = behind ∙ ap (λ (z : List ℕ). z ++ part g.at end bytes) spelled in
      f.told ∙ ap (λ (z : List ℕ). code_at f.at z) left ∙ ap (λ (n : ℕ). code_at n (part g.at end bytes)) (same_place f.at g.at f.within.1 g.within.1 left) ∙ sym g.told
  nothing_more code other f g (m ∷ more) here spelled fields behind =
      absurd (none_follows code f m more here (part g.at end bytes) spelled behind (subst (AreFields []) fields g.before.permitted))

  -- one code is told
  pub one_code : (code other : ℕ) → FaultyFields order bytes end code → FaultyFields order bytes end other → code ≡ other
  one_code code other f g =
      by_order
      (one_goes_on order fixed_length f.sent g.sent (part fixed_length f.at bytes) (part fixed_length g.at bytes) (part f.at end bytes) (part g.at end bytes) f.before.spelled g.before.spelled
      (sym (split f.at f.within.0 (omega (arith, f.within.1))) ∙ split g.at g.within.0 (omega (arith, g.within.1))))
    where
      by_order : GoesOn order fixed_length f.sent g.sent (part fixed_length f.at bytes) (part f.at end bytes) (part g.at end bytes) ⊎ GoesOn order fixed_length g.sent f.sent (part fixed_length g.at bytes) (part g.at end bytes) (part f.at end bytes) → code ≡ other
      by_order (inl on) = nothing_more code other f g on.more on.bytes on.spelled on.fields on.behind
      by_order (inr on) = sym (nothing_more other code g f on.more on.bytes on.spelled on.fields on.behind)

  something_left : (at : ℕ) → at < end → part at end bytes ≡ [] → ⊥
  something_left at inside none = omega (arith, inside, ap length none, length_part bytes at end (omega (arith, inside)) ends)

  -- fields that are as they must be up to the end are at no fault
  pub not_faulty : (code : ℕ) (sent : List Field) → FaultyFields order bytes end code → AreSpelled order bytes end sent → ⊥
  not_faulty code sent f all =
      by_order
      (one_goes_on order fixed_length f.sent sent (part fixed_length f.at bytes) (part fixed_length end bytes) (part f.at end bytes) [] f.before.spelled all.spelled
      (sym (split f.at f.within.0 (omega (arith, f.within.1))) ∙ sym (append-nil (part fixed_length end bytes))))
    where
      by_more : (more : List Field) (here : List ℕ) → AreElements order (fixed_length + length (part fixed_length f.at bytes)) more here → sent ≡ f.sent ++ more → part f.at end bytes ≡ here ++ [] → ⊥
      by_more [] here spelled fields behind = something_left f.at f.within.1 (behind ∙ append-nil here ∙ spelled)
      by_more (m ∷ more) here spelled fields behind = none_follows code f m more here [] spelled behind (subst (AreFields []) fields all.permitted)

      by_order : GoesOn order fixed_length f.sent sent (part fixed_length f.at bytes) (part f.at end bytes) [] ⊎ GoesOn order fixed_length sent f.sent (part fixed_length end bytes) [] (part f.at end bytes) → ⊥
      by_order (inl on) = by_more on.more on.bytes on.spelled on.fields on.behind
      by_order (inr on) =
          omega (arith, ap length on.behind, length-append on.bytes (part f.at end bytes), f.within.1, length_part bytes f.at end (omega (arith, f.within.1)) ends)

  -- the fields are one list
  pub one_list : (sent others : List Field) → AreSpelled order bytes end sent → AreSpelled order bytes end others → sent ≡ others
  one_list sent others h k = same_fields order fixed_length others sent (part fixed_length end bytes) k.spelled h.spelled
