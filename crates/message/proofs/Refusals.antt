-- What is refused, and what is not.
use Rattle.std.proofs.Common.{◌≡◌, ℕ, ◌+◌, ◌≤◌, ◌<◌, Bool, true, false, leb, Result, Ok, Err, IsTrue, length, refl, sym, ap, ◌∙◌, inl, inr}
use Rattle.std.specs.Prelude.{◌⊎◌, ◌↔◌, nat_lt, if◌then◌else◌, IsErrOf}
use Rattle.std.proofs.lemmas.Bool.{lt-ltb, le-ltb, ltb-true, ltb-false}
use Rattle.marshal_core.proofs.Results.{leb-yes, leb-no}
use Rattle.message_core.specs.Messages.{Message}
use Rattle.message_core.specs.Announcements.{fixed_length}
use Rattle.message.specs.declared.fault.RelayFault.{RelayFault}
use Rattle.message.specs.declared.fault.RelayFault.TheVariants.{TooLong}
use Rattle.message.specs.MessageBytes.{fields_bytes, message_bytes, is_too_long}
use Rattle.message_core.specs.Announcements.{max_message_length}
use Rattle.message.specs.Layout.{last_end}
use Rattle.message.proofs.PartLemmas.{is_long, is_longer, is_not_long}

abbrev good : {A : Type 0} → A → Result A RelayFault
good x = Ok x

abbrev pub bad : {A : Type 0} → RelayFault → Result A RelayFault
bad e = Err e

-- a number within a limit, or too long
abbrev pub within : ℕ → ℕ → Result ℕ RelayFault
within limit n = if nat_lt limit n then Err TooLong else Ok n

pub refused : (limit n : ℕ) (x : RelayFault) → Err x ≡ within limit n → (x ≡ TooLong) × (limit < n)
refused limit n x e = at (nat_lt limit n) refl e where
  at : (b : Bool) → nat_lt limit n ≡ b → bad x ≡ (if b then Err TooLong else Ok n) → (x ≡ TooLong) × (limit < n)
  at true t f = (let g : x ≡ TooLong = cc in g, ltb-true limit n t)
  at false t f = absurd cc

pub accepted : (limit n x : ℕ) → Ok x ≡ within limit n → (x ≡ n) × (n ≤ limit)
accepted limit n x e = at (nat_lt limit n) refl e where
  at : (b : Bool) → nat_lt limit n ≡ b → good x ≡ (if b then Err TooLong else Ok n) → (x ≡ n) × (n ≤ limit)
  at true t f = absurd cc
  at false t f = (let g : x ≡ n = cc in g, ltb-false limit n t)

le_or_more : (a b : ℕ) → (a ≤ b) ⊎ (b < a)
le_or_more a b = told (leb a b) refl where
  told : (c : Bool) → leb a b ≡ c → (a ≤ b) ⊎ (b < a)
  told true e = inl (leb-yes a b e)
  told false e = inr (leb-no a b e)

true_false : (b : Bool) {A : Type 0} → b ≡ true → b ≡ false → A
true_false b h k = absurd (let e : true ≡ false = sym h ∙ k in cc)

-- where the fields end too late
pub fields_too_long : {A : Type 0} (m : Message) (end : ℕ) (r : Result A RelayFault) (y x : RelayFault) → end ≡ fixed_length + length (fields_bytes m) → r ≡ Err y → y ≡ x → (x ≡ TooLong) × (last_end < end) → IsErrOf r TooLong ↔ IsTrue (is_too_long m)
fields_too_long m end r y x e is same told = (λ _. is_long m end e told.1, λ _. is ∙ ap bad (same ∙ told.0))

-- where they don't
pub whole_too_long : {A : Type 0} (m : Message) (end n : ℕ) (r : Result A RelayFault) → end ≡ fixed_length + length (fields_bytes m) → n ≡ length (message_bytes m) → end ≤ last_end → IsErrOf r TooLong ↔ (max_message_length < n) → IsErrOf r TooLong ↔ IsTrue (is_too_long m)
whole_too_long m end n r e f fits h = (λ k. is_longer m n f (h.0 k), λ k. by (le_or_more n max_message_length) k) where
  by : (n ≤ max_message_length) ⊎ (max_message_length < n) → is_too_long m ≡ true → IsErrOf r TooLong
  by (inl short) k = true_false (is_too_long m) k (is_not_long m end n e f fits short)
  by (inr long) k = h.1 long

-- ---- the length alone

pub length_refused : (m : Message) (end : ℕ) (r : Result ℕ RelayFault) (y x : RelayFault) → end ≡ fixed_length + length (fields_bytes m) → r ≡ Err y → y ≡ x → (x ≡ TooLong) × (last_end < end)
    → r ≡ (if is_too_long m then Err TooLong else Ok (length (message_bytes m)))
length_refused m end r y x e is same told = is ∙ ap bad (same ∙ told.0) ∙ rw (is_long m end e told.1) refl

pub length_told : (m : Message) (end n : ℕ) → end ≡ fixed_length + length (fields_bytes m) → n ≡ length (message_bytes m) → end ≤ last_end → within max_message_length n ≡ (if is_too_long m then Err TooLong else Ok (length (message_bytes m)))
length_told m end n e f fits = at (le_or_more n max_message_length) where
  at : (n ≤ max_message_length) ⊎ (max_message_length < n) → within max_message_length n ≡ (if is_too_long m then Err TooLong else Ok (length (message_bytes m)))
  at (inl short) = rw (le-ltb max_message_length n short, is_not_long m end n e f fits short) (ap good f)
  at (inr long) = rw (lt-ltb max_message_length n long, is_longer m n f long) refl
