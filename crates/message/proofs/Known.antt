-- The fields of known codes, which stand before the others.
use Rattle.std.proofs.Common.{◌≡◌, ℕ, suc, ◌≤◌, ◌<◌, Bool, true, false, cond, List, [], ◌∷◌, Option, Some, refl, sym, ap, subst, arith, inl, inr}
use Rattle.std.specs.Prelude.{◌⊎◌, ◌==◌, nat_lt, if◌then◌else◌}
use Rattle.std.specs.List.{AllByRecursion}
use Rattle.std.proofs.lemmas.Bool.{ne_eqb, lt-ltb, le-ltb, ltb-false}
use Rattle.marshal_core.specs.declared.order.Order.{Order}
use Rattle.marshal_core.specs.Values.{Val}
use Rattle.marshal_core.proofs.Results.{leb_true, leb_false}
use Rattle.message_core.specs.declared.field_place.FieldPlace.{FieldPlace}
use Rattle.message_core.specs.declared.header_field.HeaderField.{HeaderField}
use Rattle.message_core.specs.declared.header_field.HeaderField.TheVariants as field
use Rattle.message_core.specs.Kinds.{code_of}
use Rattle.message_core.specs.HeaderFields.{Field, IsField, value_of}
use Rattle.message_core.specs.Places.{ArePlaced}
use Rattle.message.specs.Senders.{known_fields}
use Rattle.message.specs.Layout.{AreWithin, count_below, known_places}
use Rattle.message.proofs.Lines.{within_take}
use Rattle.message.proofs.Rising.{Rises, rises_lower, times, le_or_above}
use Rattle.message.proofs.Spelled.{AreSpelledSo}

pub rises_known : (low : ℕ) (fs : List Field) → Rises low fs → Rises low (known_fields fs)
rises_known low [] h = tt
rises_known low (f ∷ fs) h = at (nat_lt f.code 10) (rises_known f.code fs h.1) where
  at : (b : Bool) → Rises f.code (known_fields fs) → Rises low (cond b (f ∷ known_fields fs) (known_fields fs))
  at true ih = (h.0, ih)
  at false ih = rises_lower low f.code (known_fields fs) h.0 ih

pub all_known : (fs : List Field) → AllByRecursion IsField fs → AllByRecursion IsField (known_fields fs)
all_known [] all = tt
all_known (f ∷ fs) all = at (nat_lt f.code 10) (all_known fs all.1) where
  at : (b : Bool) → AllByRecursion IsField (known_fields fs) → AllByRecursion IsField (cond b (f ∷ known_fields fs) (known_fields fs))
  at true ih = (all.0, ih)
  at false ih = ih

pub spelled_known : (order : Order) (fs : List Field) → AreSpelledSo order fs → AreSpelledSo order (known_fields fs)
spelled_known order [] h = tt
spelled_known order (f ∷ fs) h = at (nat_lt f.code 10) (spelled_known order fs h.1) where
  at : (b : Bool) → AreSpelledSo order (known_fields fs) → AreSpelledSo order (cond b (f ∷ known_fields fs) (known_fields fs))
  at true ih = (h.0, ih)
  at false ih = ih

pub fewer_known : (c : ℕ) (fs : List Field) → times c (known_fields fs) ≤ times c fs
fewer_known c [] = omega arith
fewer_known c (f ∷ fs) = subst (λ (n : ℕ). n ≤ times c (f ∷ fs)) (sym (split (nat_lt f.code 10))) (at (nat_lt f.code 10) (f.code == c) (fewer_known c fs)) where
  split : (b : Bool) → times c (cond b (f ∷ known_fields fs) (known_fields fs)) ≡ cond b (times c (f ∷ known_fields fs)) (times c (known_fields fs))
  split true = refl
  split false = refl

  at : (b d : Bool) → times c (known_fields fs) ≤ times c fs → cond b (cond d (suc (times c (known_fields fs))) (times c (known_fields fs))) (times c (known_fields fs)) ≤ cond d (suc (times c fs)) (times c fs)
  at true true ih = omega (arith, ih)
  at true false ih = ih
  at false true ih = omega (arith, ih)
  at false false ih = ih

-- ---- what known fields say

code_small : (k : HeaderField) → code_of k < 10
code_small field.Path = omega arith
code_small field.Interface = omega arith
code_small field.Member = omega arith
code_small field.ErrorName = omega arith
code_small field.ReplySerial = omega arith
code_small field.Destination = omega arith
code_small field.Sender = omega arith
code_small field.Signature = omega arith
code_small field.UnixFds = omega arith

pub value_known : (k : HeaderField) (fs : List Field) → value_of k (known_fields fs) ≡ value_of k fs
value_known k [] = refl
value_known k (f ∷ fs) = at (nat_lt f.code 10) refl (value_known k fs) where
  at : (b : Bool) → nat_lt f.code 10 ≡ b → value_of k (known_fields fs) ≡ value_of k fs → value_of k (cond b (f ∷ known_fields fs) (known_fields fs)) ≡ value_of k (f ∷ fs)
  at true e ih = ap (λ (o : Option Val). if f.code == code_of k then Some f.value else o) ih
  at false e ih = rw (ne_eqb f.code (code_of k) (λ s. omega (arith, s, ltb-false f.code 10 e, code_small k))) ih

-- ---- their places

none_known : (low : ℕ) (fs : List Field) → 10 ≤ low → Rises low fs → known_fields fs ≡ []
none_known low [] le h = refl
none_known low (f ∷ fs) le h = rw (le-ltb f.code 10 (omega (arith, le, h.0))) (none_known f.code fs (omega (arith, le, h.0)) h.1)

pub placed_known : (order : Order) (bytes : List ℕ) (low : ℕ) (ps : List FieldPlace) (fs : List Field) → Rises low fs → ArePlaced order bytes ps fs → ArePlaced order bytes (known_places ps) (known_fields fs)
placed_known order bytes low [] [] h k = tt
placed_known order bytes low [] (f ∷ fs) h k = absurd k
placed_known order bytes low (p ∷ ps) [] h k = absurd k
placed_known order bytes low (p ∷ ps) (f ∷ fs) h k = at (le_or_above 10 f.code) (placed_known order bytes f.code ps fs h.1 k.1) where
  at : (10 ≤ f.code) ⊎ (f.code < 10) → ArePlaced order bytes (known_places ps) (known_fields fs) → ArePlaced order bytes (known_places (p ∷ ps)) (known_fields (f ∷ fs))
  at (inl more) ih = rw (le-ltb f.code 10 more, leb_true 10 p.code (omega (arith, k.0.code, more)), none_known f.code fs more h.1) tt
  at (inr less) ih = rw (lt-ltb f.code 10 less, leb_false 10 p.code (omega (arith, k.0.code, less))) (k.0, ih)

pub within_known : (n : ℕ) (ps : List FieldPlace) → AreWithin n ps → AreWithin n (known_places ps)
within_known n ps h = within_take n (count_below 10 ps) ps h
