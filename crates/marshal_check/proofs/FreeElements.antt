-- Arrays of values of one size, of which any bytes are one.
use Rattle.std.proofs.Common.{◌≡◌, ℕ, zero, suc, ◌+◌, ◌*◌, ◌/◌, ◌%◌, ◌≤◌, ◌<◌, true, false, cond, ltb, List, [], ◌∷◌, length, take, drop, Option, Some, None, Result, Ok, Err, refl, sym, ap, subst, ◌∙◌, inl, inr, arith, length-drop}
use Rattle.std.specs.Prelude.{◌⊎◌}
use Rattle.std.proofs.Math.Nat.{mul-zero, mul-suc}
use Rattle.std.specs.Int.{w32}
use Rattle.std.proofs.lemmas.Bool.Decides.{nat_tests}
use Rattle.marshal_core.specs.declared.data_type.BasicType.{BasicType}
use Rattle.marshal_core.specs.declared.data_type.BasicType.TheVariants as of_type
use Rattle.marshal_core.specs.declared.fault.MarshalFault.{MarshalFault}
use Rattle.marshal_core.specs.declared.fault.MarshalFault.TheVariants.{ArrayLength}
use Rattle.marshal_core.specs.declared.order.Order.{Order}
use Rattle.marshal_core.specs.Types.{Ty, basic, variant, array, entry, struct}
use Rattle.marshal_core.specs.Values.{a_basic, Vals, no_values, more_values}
use Rattle.marshal_core.specs.Faults.{◌>>=◌}
use Rattle.marshal_core.specs.Spelling.{basic_alignment, alignment, pad_len, max_array_length}
use Rattle.marshal_core.specs.Reading.{zeros_at, padding_at, fixed_at, number_at, byte_at, basic_at, sized_at, inside_at, elements_at, value_at}
use Rattle.marshal_core.proofs.Results.{bind_ok, guard_ok, ok_is}
use Rattle.marshal.proofs.BasicTaken.{padding_takes}
use Rattle.marshal.proofs.Layers.{value_basic}
use Rattle.marshal_check.specs.Checking.{Skips}
use Rattle.marshal_check.specs.SignatureTexts.{free_size, free_size_of}
use Rattle.marshal_check.proofs.Skipping.{as_skips}

-- ---- sizes and alignments

abbrev IsSize : ℕ → Type 0
IsSize n = (n ≡ 1) ⊎ ((n ≡ 2) ⊎ ((n ≡ 4) ⊎ (n ≡ 8)))

for_each_size : (P : ℕ → Type 0) → P 1 → P 2 → P 4 → P 8 → (n : ℕ) → IsSize n → P n
for_each_size P a b c d n (inl e) = subst P (sym e) a
for_each_size P a b c d n (inr (inl e)) = subst P (sym e) b
for_each_size P a b c d n (inr (inr (inl e))) = subst P (sym e) c
for_each_size P a b c d n (inr (inr (inr e))) = subst P (sym e) d

no_padding : (size at : ℕ) → IsSize size → at % size ≡ 0 → pad_len size at ≡ 0
no_padding size at is h = for_each_size (λ n. at % n ≡ 0 → pad_len n at ≡ 0) (λ h. omega arith) (λ h. omega arith) (λ h. omega arith) (λ h. omega arith) size is h

next_aligned : (size at : ℕ) → IsSize size → at % size ≡ 0 → (at + size) % size ≡ 0
next_aligned size at is h = for_each_size (λ n. at % n ≡ 0 → (at + n) % n ≡ 0) (λ h. omega arith) (λ h. omega arith) (λ h. omega arith) (λ h. omega arith) size is h

padded : (size at : ℕ) → IsSize size → (at + pad_len size at) % size ≡ 0
padded size at is = for_each_size (λ n. (at + pad_len n at) % n ≡ 0) (omega arith) (omega arith) (omega arith) (omega arith) size is

some_size : (size : ℕ) → IsSize size → 0 < size
some_size size is = for_each_size (λ n. 0 < n) (omega arith) (omega arith) (omega arith) (omega arith) size is

basic_is_size : (b : BasicType) → IsSize (basic_alignment b)
basic_is_size of_type.Byte = inl refl
basic_is_size of_type.Boolean = inr (inr (inl refl))
basic_is_size of_type.Int16 = inr (inl refl)
basic_is_size of_type.Uint16 = inr (inl refl)
basic_is_size of_type.Int32 = inr (inr (inl refl))
basic_is_size of_type.Uint32 = inr (inr (inl refl))
basic_is_size of_type.Int64 = inr (inr (inr refl))
basic_is_size of_type.Uint64 = inr (inr (inr refl))
basic_is_size of_type.Double = inr (inr (inr refl))
basic_is_size of_type.String = inr (inr (inl refl))
basic_is_size of_type.ObjectPath = inr (inr (inl refl))
basic_is_size of_type.Signature = inl refl

is_size : (t : Ty) → IsSize (alignment t)
is_size (basic b) = basic_is_size b
is_size variant = inl refl
is_size (array t) = inr (inr (inl refl))
is_size (entry k t) = inr (inr (inr refl))
is_size (struct ts) = inr (inr (inr refl))

abbrev some_number : ℕ → Option ℕ
some_number n = Some n

abbrev no_number : Option ℕ
no_number = None

same_number : (a b : ℕ) → some_number a ≡ some_number b → a ≡ b
same_number a b e = cc

not_some : (n : ℕ) → no_number ≡ some_number n → ⊥
not_some n e = absurd cc

free_alignment : (b : BasicType) (size : ℕ) → free_size b ≡ Some size → basic_alignment b ≡ size
free_alignment of_type.Byte size e = same_number 1 size e
free_alignment of_type.Boolean size e = absurd (not_some size e)
free_alignment of_type.Int16 size e = same_number 2 size e
free_alignment of_type.Uint16 size e = same_number 2 size e
free_alignment of_type.Int32 size e = same_number 4 size e
free_alignment of_type.Uint32 size e = same_number 4 size e
free_alignment of_type.Int64 size e = same_number 8 size e
free_alignment of_type.Uint64 size e = same_number 8 size e
free_alignment of_type.Double size e = same_number 8 size e
free_alignment of_type.String size e = absurd (not_some size e)
free_alignment of_type.ObjectPath size e = absurd (not_some size e)
free_alignment of_type.Signature size e = absurd (not_some size e)

-- ---- where the first element stands

pub first_is_aligned : (order : Order) (short : MarshalFault) (t : Ty) (align at p q : ℕ) (bytes inner rest : List ℕ) → align ≡ alignment t → inside_at order short align at bytes ≡ Ok ((p, inner), q, rest) → p % alignment t ≡ 0
unfolding inside_at sized_at
first_is_aligned order short t align at p q bytes inner rest a e =
    let n = bind_ok (number_at order w32 short at bytes) (λ n. sized_at short align n.0 n.1 n.2) ((p, inner), q, rest) e in
    let long = guard_ok (ltb max_array_length n.0.0) ArrayLength (cond (ltb (length n.0.2) (pad_len align n.0.1 + n.0.0)) (Err short) (padding_at align short n.0.1 n.0.2 >>= λ p. Ok ((p.0, take n.0.0 p.1), p.0 + n.0.0, drop n.0.0 p.1))) ((p, inner), q, rest) n.2 in
    let ends = guard_ok (ltb (length n.0.2) (pad_len align n.0.1 + n.0.0)) short (padding_at align short n.0.1 n.0.2 >>= λ p. Ok ((p.0, take n.0.0 p.1), p.0 + n.0.0, drop n.0.0 p.1)) ((p, inner), q, rest) long.1 in
    let gap = bind_ok (padding_at align short n.0.1 n.0.2) (λ p. Ok ((p.0, take n.0.0 p.1), p.0 + n.0.0, drop n.0.0 p.1)) ((p, inner), q, rest) ends.1 in
    let same = ok_is ((gap.0.0, take n.0.0 gap.0.1), gap.0.0 + n.0.0, drop n.0.0 gap.0.1) ((p, inner), q, rest) gap.2 in
    let place : gap.0.0 ≡ p = ap (λ (x : (ℕ × List ℕ) × ℕ × List ℕ). x.0.0) same in
    let lands : gap.0.0 ≡ n.0.1 + pad_len align n.0.1 = (padding_takes align short n.0.1 n.0.2 gap.0 gap.1).1 in
    subst (λ (k : ℕ). p % k ≡ 0) a (subst (λ (k : ℕ). k % align ≡ 0) (sym lands ∙ place) (padded align n.0.1 (subst IsSize (sym a) (is_size t))))

-- ---- one element

padding_none : (align : ℕ) (short : MarshalFault) (at : ℕ) (bytes : List ℕ) → pad_len align at ≡ 0 → padding_at align short at bytes ≡ Ok (at, bytes)
unfolding padding_at zeros_at
padding_none align short at bytes h =
    let k : at + 0 ≡ at = omega arith in
    rw (h, k) refl

not_less : (a b : ℕ) → b ≤ a → ltb a b ≡ false
not_less a b h = grind (arith, nat_tests)

less : (a b : ℕ) → a < b → ltb a b ≡ true
less a b h = grind (arith, nat_tests)

abbrev Place : Type 0
Place = ℕ × List ℕ

abbrev same_place : Place → Place
same_place x = x

abbrev goes_to : ℕ → List ℕ → Result Place MarshalFault
goes_to at bytes = Ok (at, bytes)

abbrev ends_with : MarshalFault → Result Place MarshalFault
ends_with e = Err e

fixed_ok : (size : ℕ) (short : MarshalFault) (at : ℕ) (bytes : List ℕ) → pad_len size at ≡ 0 → size ≤ length bytes → Skips same_place (goes_to (at + size) (drop size bytes)) (fixed_at size short at bytes)
unfolding fixed_at
fixed_ok size short at bytes h le = (take size bytes, rw (padding_none size short at bytes h, not_less (length bytes) size le) refl)

fixed_short : (size : ℕ) (short : MarshalFault) (at : ℕ) (bytes : List ℕ) → pad_len size at ≡ 0 → length bytes < size → Skips same_place (ends_with short) (fixed_at size short at bytes)
unfolding fixed_at
fixed_short size short at bytes h lt = rw (padding_none size short at bytes h, less (length bytes) size lt) refl

byte_ok : (short : MarshalFault) (at : ℕ) (bytes : List ℕ) → 1 ≤ length bytes → Skips same_place (goes_to (at + 1) (drop 1 bytes)) (byte_at short at bytes)
unfolding byte_at
byte_ok short at [] le = absurd (omega arith)
byte_ok short at (b ∷ bytes) le = (b, refl)

byte_short : (short : MarshalFault) (at : ℕ) (bytes : List ℕ) → length bytes < 1 → Skips same_place (ends_with short) (byte_at short at bytes)
unfolding byte_at
byte_short short at [] lt = refl
byte_short short at (b ∷ bytes) lt = absurd (omega arith)

-- a wide value is so many bytes
wide : (b : BasicType) (size : ℕ) (r : Result Place MarshalFault) (order : Order) (short : MarshalFault) (at : ℕ) (bytes : List ℕ) → free_size b ≡ Some size → (b ≡ of_type.Byte → ⊥) → Skips same_place r (fixed_at size short at bytes) → Skips same_place r (basic_at order short b at bytes)
unfolding basic_at number_at
wide of_type.Byte size r order short at bytes e big h = absurd (big refl)
wide of_type.Boolean size r order short at bytes e big h = absurd (not_some size e)
wide of_type.Int16 size r order short at bytes e big h =
    let s : fixed_at size short at bytes ≡ fixed_at 2 short at bytes = ap (λ (n : ℕ). fixed_at n short at bytes) (sym (same_number 2 size e)) in
    as_skips same_place _ r _ (as_skips same_place _ r _ (rw s at h))
wide of_type.Uint16 size r order short at bytes e big h =
    let s : fixed_at size short at bytes ≡ fixed_at 2 short at bytes = ap (λ (n : ℕ). fixed_at n short at bytes) (sym (same_number 2 size e)) in
    as_skips same_place _ r _ (as_skips same_place _ r _ (rw s at h))
wide of_type.Int32 size r order short at bytes e big h =
    let s : fixed_at size short at bytes ≡ fixed_at 4 short at bytes = ap (λ (n : ℕ). fixed_at n short at bytes) (sym (same_number 4 size e)) in
    as_skips same_place _ r _ (as_skips same_place _ r _ (rw s at h))
wide of_type.Uint32 size r order short at bytes e big h =
    let s : fixed_at size short at bytes ≡ fixed_at 4 short at bytes = ap (λ (n : ℕ). fixed_at n short at bytes) (sym (same_number 4 size e)) in
    as_skips same_place _ r _ (as_skips same_place _ r _ (rw s at h))
wide of_type.Int64 size r order short at bytes e big h =
    let s : fixed_at size short at bytes ≡ fixed_at 8 short at bytes = ap (λ (n : ℕ). fixed_at n short at bytes) (sym (same_number 8 size e)) in
    as_skips same_place _ r _ (as_skips same_place _ r _ (rw s at h))
wide of_type.Uint64 size r order short at bytes e big h =
    let s : fixed_at size short at bytes ≡ fixed_at 8 short at bytes = ap (λ (n : ℕ). fixed_at n short at bytes) (sym (same_number 8 size e)) in
    as_skips same_place _ r _ (as_skips same_place _ r _ (rw s at h))
wide of_type.Double size r order short at bytes e big h =
    let s : fixed_at size short at bytes ≡ fixed_at 8 short at bytes = ap (λ (n : ℕ). fixed_at n short at bytes) (sym (same_number 8 size e)) in
    as_skips same_place _ r _ (rw s at h)
wide of_type.String size r order short at bytes e big h = absurd (not_some size e)
wide of_type.ObjectPath size r order short at bytes e big h = absurd (not_some size e)
wide of_type.Signature size r order short at bytes e big h = absurd (not_some size e)

is_byte : (b : BasicType) → (b ≡ of_type.Byte) ⊎ (b ≡ of_type.Byte → ⊥)
is_byte of_type.Byte = inl refl
is_byte of_type.Boolean = inr (λ e. absurd cc)
is_byte of_type.Int16 = inr (λ e. absurd cc)
is_byte of_type.Uint16 = inr (λ e. absurd cc)
is_byte of_type.Int32 = inr (λ e. absurd cc)
is_byte of_type.Uint32 = inr (λ e. absurd cc)
is_byte of_type.Int64 = inr (λ e. absurd cc)
is_byte of_type.Uint64 = inr (λ e. absurd cc)
is_byte of_type.Double = inr (λ e. absurd cc)
is_byte of_type.String = inr (λ e. absurd cc)
is_byte of_type.ObjectPath = inr (λ e. absurd cc)
is_byte of_type.Signature = inr (λ e. absurd cc)

byte_size : (b : BasicType) (size : ℕ) → b ≡ of_type.Byte → free_size b ≡ Some size → 1 ≡ size
byte_size b size is e = same_number 1 size (ap free_size (sym is) ∙ e)

byte_reads : (r : Result Place MarshalFault) (order : Order) (short : MarshalFault) (b : BasicType) (at : ℕ) (bytes : List ℕ) → b ≡ of_type.Byte → Skips same_place r (byte_at short at bytes) → Skips same_place r (basic_at order short b at bytes)
unfolding basic_at
byte_reads r order short b at bytes is h = rw is (as_skips same_place _ r _ h)

basic_ok : (b : BasicType) (size : ℕ) (order : Order) (short : MarshalFault) (at : ℕ) (bytes : List ℕ) → free_size b ≡ Some size → pad_len size at ≡ 0 → size ≤ length bytes → Skips same_place (goes_to (at + size) (drop size bytes)) (basic_at order short b at bytes)
basic_ok b size order short at bytes e h le = elim (is_byte b) [
  | inl is ↦
      let one = byte_size b size is e in
      subst (λ (n : ℕ). Skips same_place (goes_to (at + n) (drop n bytes)) (basic_at order short b at bytes)) one
      (byte_reads (goes_to (at + 1) (drop 1 bytes)) order short b at bytes is (byte_ok short at bytes (omega (arith, one, le))))
  | inr big ↦ wide b size (goes_to (at + size) (drop size bytes)) order short at bytes e big (fixed_ok size short at bytes h le)
]

basic_short : (b : BasicType) (size : ℕ) (order : Order) (short : MarshalFault) (at : ℕ) (bytes : List ℕ) → free_size b ≡ Some size → pad_len size at ≡ 0 → length bytes < size → Skips same_place (ends_with short) (basic_at order short b at bytes)
basic_short b size order short at bytes e h lt = elim (is_byte b) [
  | inl is ↦ byte_reads (ends_with short) order short b at bytes is (byte_short short at bytes (omega (arith, byte_size b size is e, lt)))
  | inr big ↦ wide b size (ends_with short) order short at bytes e big (fixed_short size short at bytes h lt)
]

-- ---- all of them

free_is_size : (b : BasicType) (size : ℕ) → free_size b ≡ Some size → IsSize size
free_is_size b size e = subst IsSize (free_alignment b size e) (basic_is_size b)

-- so many whole elements, and a rest that is less than one
abbrev Whole : ℕ → Result Vals MarshalFault → Type 0
Whole r read = (r ≡ 0 → (vs : Vals) × (read ≡ Ok vs)) × (0 < r → read ≡ Err ArrayLength)

value_is : (d : ℕ) (order : Order) (short : MarshalFault) (b : BasicType) (r : Result Place MarshalFault) (at : ℕ) (bytes : List ℕ) → Skips same_place r (basic_at order short b at bytes) → Skips same_place r (value_at d order short (basic b) at bytes)
value_is d order short b r at bytes h = subst (Skips same_place r) (sym (value_basic d order short b at bytes)) (as_skips same_place a_basic r (basic_at order short b at bytes) h)

one_more : (d : ℕ) (order : Order) (b : BasicType) (size : ℕ) (r k at x : ℕ) (bytes : List ℕ) → Skips same_place (goes_to (at + size) (drop size (x ∷ bytes))) (value_at d order ArrayLength (basic b) at (x ∷ bytes))
    → Whole r (elements_at (value_at d order) (basic b) k (at + size) (drop size (x ∷ bytes))) → Whole r (elements_at (value_at d order) (basic b) (suc k) at (x ∷ bytes))
unfolding elements_at
one_more d order b size r k at x bytes (v, e) w = (
  (λ z. let vs = w.0 z in (more_values v vs.0, rw (e, vs.1) refl)),
  (λ some. rw (e, w.1 some) refl),
)

pub free_elements : (b : BasicType) (size : ℕ) → free_size b ≡ Some size → (d : ℕ) (order : Order) (n r k at : ℕ) (bytes : List ℕ) → length bytes ≡ size * n + r → r < size → length bytes ≤ k → at % size ≡ 0
    → Whole r (elements_at (value_at d order) (basic b) k at bytes)
unfolding elements_at
free_elements b size e d order n r zero at [] len lt le al = ((λ z. (no_values, refl)), (λ some. absurd (omega arith)))
free_elements b size e d order n r (suc k) at [] len lt le al = ((λ z. (no_values, refl)), (λ some. absurd (omega arith)))
free_elements b size e d order n r zero at (x ∷ bytes) len lt le al = absurd (omega arith)
free_elements b size e d order zero r (suc k) at (x ∷ bytes) len lt le al =
    let rest : length (x ∷ bytes) ≡ r = omega (arith, len, mul-zero size) in
    let pad = no_padding size at (free_is_size b size e) al in
    let short = value_is d order ArrayLength b (ends_with ArrayLength) at (x ∷ bytes) (basic_short b size order ArrayLength at (x ∷ bytes) e pad (omega (arith, rest, lt))) in
    ((λ z. absurd (omega (arith, rest))), (λ some. rw short refl))
free_elements b size e d order (suc n) r (suc k) at (x ∷ bytes) len lt le al =
    let is = free_is_size b size e in
    let more : length (x ∷ bytes) ≡ size + (size * n + r) = omega (arith, len, mul-suc size n) in
    let pad = no_padding size at is al in
    let one = value_is d order ArrayLength b (goes_to (at + size) (drop size (x ∷ bytes))) at (x ∷ bytes) (basic_ok b size order ArrayLength at (x ∷ bytes) e pad (omega (arith, more))) in
    let left : length (drop size (x ∷ bytes)) ≡ size * n + r = omega (arith, length-drop size (x ∷ bytes), more) in
    one_more d order b size r k at x bytes one
    (free_elements b size e d order n r k (at + size) (drop size (x ∷ bytes)) left lt (omega (arith, left, more, le, some_size size is)) (next_aligned size at is al))

the_size : (t : Ty) (size : ℕ) → free_size_of t ≡ Some size → (b : BasicType) × (t ≡ basic b) × (free_size b ≡ Some size)
the_size (basic b) size e = (b, refl, e)
the_size variant size e = absurd (not_some size e)
the_size (array t) size e = absurd (not_some size e)
the_size (entry k t) size e = absurd (not_some size e)
the_size (struct ts) size e = absurd (not_some size e)

abbrev All : Ty → ℕ → Order → ℕ → ℕ → List ℕ → Type 0
All t d order size at bytes = Whole (length bytes % size) (elements_at (value_at d order) t (length bytes) at bytes)

all : (t : Ty) (size : ℕ) → free_size_of t ≡ Some size → (d : ℕ) (order : Order) (at : ℕ) (bytes : List ℕ) → at % alignment t ≡ 0 → All t d order size at bytes
all t size e d order at bytes al =
    let b = the_size t size e in
    let align : alignment t ≡ size = ap alignment b.1 ∙ free_alignment b.0 size b.2 in
    let some : 0 < size = some_size size (free_is_size b.0 size b.2) in
    let al2 : at % size ≡ 0 = subst (λ (n : ℕ). at % n ≡ 0) align al in
    let lt : length bytes % size < size = omega arith in
    let split : length bytes ≡ size * (length bytes / size) + length bytes % size = omega arith in
    subst (λ (u : Ty). All u d order size at bytes) (sym b.1)
    (free_elements b.0 size b.2 d order (length bytes / size) (length bytes % size) (length bytes) at bytes split lt (omega arith) al2)

pub all_whole : (t : Ty) (size : ℕ) → Some size ≡ free_size_of t → (d : ℕ) (order : Order) (at : ℕ) (bytes : List ℕ) → at % alignment t ≡ 0 → length bytes % size ≡ 0 → (vs : Vals) × (elements_at (value_at d order) t (length bytes) at bytes ≡ Ok vs)
all_whole t size e d order at bytes al z = (all t size (sym e) d order at bytes al).0 z

pub last_short : (t : Ty) (size : ℕ) → Some size ≡ free_size_of t → (d : ℕ) (order : Order) (at : ℕ) (bytes : List ℕ) → at % alignment t ≡ 0 → 0 < length bytes % size → elements_at (value_at d order) t (length bytes) at bytes ≡ Err ArrayLength
last_short t size e d order at bytes al some = (all t size (sym e) d order at bytes al).1 some
