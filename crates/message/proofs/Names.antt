-- SENDER among the fields.
use Rattle.std.proofs.Common.{◌≡◌, ℕ, suc, ◌≤◌, Bool, true, false, cond, leb, List, [], ◌∷◌, Option, Some, refl, sym, ap, subst, ◌∙◌, arith, lit<, inl}
use Rattle.std.specs.Prelude.{◌==◌, if◌then◌else◌, is_some, IsUtf8}
use Rattle.std.specs.List.{AllByRecursion}
use Rattle.names.specs.Texts.{Text}
use Rattle.names.specs.UniqueName.{IsUniqueName}
use Rattle.marshal_core.specs.declared.order.Order.{Order}
use Rattle.marshal_core.specs.Values.{Val, a_string}
use Rattle.marshal_core.proofs.Results.{eqb-yes}
use Rattle.match_rules.specs.declared.kind.MessageKind.{MessageKind}
use Rattle.match_rules.specs.declared.kind.MessageKind.TheVariants.{MethodCall, MethodReturn, Error, Signal, Unknown}
use Rattle.message_core.specs.declared.header_field.HeaderField.{HeaderField}
use Rattle.message_core.specs.declared.header_field.HeaderField.TheVariants as field
use Rattle.message_core.specs.Kinds.{code_of, required}
use Rattle.message_core.specs.HeaderFields.{Field, IsField, IsStringOf, value_of, missing, insert_field}
use Rattle.message_core.specs.Places.{SpellField}
use Rattle.message_core.proofs.FieldReading.{same_field}
use Rattle.message_core.proofs.NameTexts.{name_string}
use Rattle.message_core.proofs.Shape.{basic_spelled}
use Rattle.message.specs.Senders.{sender_field, without_sender}
use Rattle.message.specs.Layout.{sender_bytes}
use Rattle.message.proofs.Rising.{Rises, rises_lower, times, times_insert, AreOnce}

-- ---- SENDER of it

pub sender_spelled : (order : Order) (name : Text) → IsUniqueName name → IsUtf8 name → SpellField order 0 (sender_field name) (sender_bytes order name)
sender_spelled order name h utf8 = basic_spelled order 0 7 (a_string name) refl (lit< tt) (name_string name (inl h) utf8)

pub sender_is : (name : Text) → IsUniqueName name → IsField (sender_field name)
sender_is name h = (lit< tt, λ k e. subst (λ (j : HeaderField). IsStringOf j name) (same_field field.Sender k e) (inl h))

-- ---- the fields but SENDER

pub rises_without : (low : ℕ) (fs : List Field) → Rises low fs → Rises low (without_sender fs)
rises_without low [] h = tt
rises_without low (f ∷ fs) h = at (f.code == 7) (rises_without f.code fs h.1) where
  at : (b : Bool) → Rises f.code (without_sender fs) → Rises low (cond b (without_sender fs) (f ∷ without_sender fs))
  at true ih = rises_lower low f.code (without_sender fs) h.0 ih
  at false ih = (h.0, ih)

pub all_without : (fs : List Field) → AllByRecursion IsField fs → AllByRecursion IsField (without_sender fs)
all_without [] all = tt
all_without (f ∷ fs) all = at (f.code == 7) (all_without fs all.1) where
  at : (b : Bool) → AllByRecursion IsField (without_sender fs) → AllByRecursion IsField (cond b (without_sender fs) (f ∷ without_sender fs))
  at true ih = ih
  at false ih = (all.0, ih)

fewer_times : (c : ℕ) (fs : List Field) → times c (without_sender fs) ≤ times c fs
fewer_times c [] = omega arith
fewer_times c (f ∷ fs) = subst (λ (n : ℕ). n ≤ times c (f ∷ fs)) (sym (split (f.code == 7))) (at (f.code == 7) (f.code == c) (fewer_times c fs)) where
  split : (b : Bool) → times c (cond b (without_sender fs) (f ∷ without_sender fs)) ≡ cond b (times c (without_sender fs)) (times c (f ∷ without_sender fs))
  split true = refl
  split false = refl

  at : (b d : Bool) → times c (without_sender fs) ≤ times c fs → cond b (times c (without_sender fs)) (cond d (suc (times c (without_sender fs))) (times c (without_sender fs))) ≤ cond d (suc (times c fs)) (times c fs)
  at true true ih = omega (arith, ih)
  at true false ih = ih
  at false true ih = omega (arith, ih)
  at false false ih = ih

no_times : (fs : List Field) → times 7 (without_sender fs) ≡ 0
no_times [] = refl
no_times (f ∷ fs) = at (f.code == 7) refl (no_times fs) where
  at : (b : Bool) → (f.code == 7) ≡ b → times 7 (without_sender fs) ≡ 0 → times 7 (cond b (without_sender fs) (f ∷ without_sender fs)) ≡ 0
  at true e ih = ih
  at false e ih = rw e ih

pub once_sent : (name : Text) (fs : List Field) → AreOnce fs → AreOnce (insert_field (sender_field name) (without_sender fs))
once_sent name fs once k = subst (λ (n : ℕ). n ≤ 1) (sym (times_insert (code_of k) (sender_field name) (without_sender fs))) (at (7 == code_of k) refl) where
  at : (b : Bool) → (7 == code_of k) ≡ b → cond b (suc (times (code_of k) (without_sender fs))) (times (code_of k) (without_sender fs)) ≤ 1
  at true e = omega (arith, ap (λ (c : ℕ). times c (without_sender fs)) (sym (eqb-yes 7 (code_of k) e)), no_times fs)
  at false e = omega (arith, fewer_times (code_of k) fs, once k)

-- ---- other fields say the same

value_without : (k : HeaderField) (fs : List Field) → (7 == code_of k) ≡ false → value_of k (without_sender fs) ≡ value_of k fs
value_without k [] other = refl
value_without k (f ∷ fs) other = at (f.code == 7) refl (value_without k fs other) where
  at : (b : Bool) → (f.code == 7) ≡ b → value_of k (without_sender fs) ≡ value_of k fs → value_of k (cond b (without_sender fs) (f ∷ without_sender fs)) ≡ value_of k (f ∷ fs)
  at true e ih = rw (ap (λ (c : ℕ). c == code_of k) (eqb-yes f.code 7 e) ∙ other) ih
  at false e ih = ap (λ (o : Option Val). if f.code == code_of k then Some f.value else o) ih

value_insert : (k : HeaderField) (f : Field) (gs : List Field) → (f.code == code_of k) ≡ false → value_of k (insert_field f gs) ≡ value_of k gs
value_insert k f [] other = rw other refl
value_insert k f (g ∷ gs) other = at (leb f.code g.code) (value_insert k f gs other) where
  at : (b : Bool) → value_of k (insert_field f gs) ≡ value_of k gs → value_of k (cond b (f ∷ g ∷ gs) (g ∷ insert_field f gs)) ≡ value_of k (g ∷ gs)
  at true ih = rw other refl
  at false ih = ap (λ (o : Option Val). if g.code == code_of k then Some g.value else o) ih

pub value_sent : (name : Text) (k : HeaderField) (fs : List Field) → (7 == code_of k) ≡ false → value_of k (insert_field (sender_field name) (without_sender fs)) ≡ value_of k fs
value_sent name k fs other = value_insert k (sender_field name) (without_sender fs) other ∙ value_without k fs other

abbrev AreOthers : List HeaderField → Type 0
AreOthers ks = AllByRecursion (λ k. (7 == code_of k) ≡ false) ks

-- SENDER is not required.
required_others : (kind : MessageKind) → AreOthers (required kind)
required_others MethodCall = (refl, (refl, tt))
required_others MethodReturn = (refl, tt)
required_others Error = (refl, (refl, tt))
required_others Signal = (refl, (refl, (refl, tt)))
required_others (Unknown byte) = tt

missing_same : (ks : List HeaderField) (fs gs : List Field) → AllByRecursion (λ k. value_of k fs ≡ value_of k gs) ks → missing ks fs ≡ missing ks gs
missing_same [] fs gs h = refl
missing_same (k ∷ ks) fs gs h = rw (h.0) (ap (λ (o : Option HeaderField). if is_some (value_of k gs) then o else Some k) (missing_same ks fs gs h.1))

all_values : (ks : List HeaderField) (fs gs : List Field) → ((k : HeaderField) → value_of k fs ≡ value_of k gs) → AllByRecursion (λ k. value_of k fs ≡ value_of k gs) ks
all_values [] fs gs h = tt
all_values (k ∷ ks) fs gs h = (h k, all_values ks fs gs h)

pub missing_all : (ks : List HeaderField) (fs gs : List Field) → ((k : HeaderField) → value_of k fs ≡ value_of k gs) → missing ks fs ≡ missing ks gs
missing_all ks fs gs h = missing_same ks fs gs (all_values ks fs gs h)

others_sent : (name : Text) (ks : List HeaderField) (fs : List Field) → AreOthers ks → AllByRecursion (λ k. value_of k (insert_field (sender_field name) (without_sender fs)) ≡ value_of k fs) ks
others_sent name [] fs h = tt
others_sent name (k ∷ ks) fs h = (value_sent name k fs h.0, others_sent name ks fs h.1)

pub missing_sent : (name : Text) (kind : MessageKind) (fs : List Field) → missing (required kind) (insert_field (sender_field name) (without_sender fs)) ≡ missing (required kind) fs
missing_sent name kind fs = missing_same (required kind) (insert_field (sender_field name) (without_sender fs)) fs (others_sent name (required kind) fs (required_others kind))
