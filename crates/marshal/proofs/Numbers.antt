-- Numbers and their bytes.
use Rattle.std.proofs.Common.{◌≡◌, ℕ, ◌<◌, ◌^◌, List, [], ◌∷◌, ◌++◌, length, get_or, zero, suc, refl, arith}
use Rattle.std.specs.Prelude.{ℤ, FitsSigned}
use Rattle.std.specs.Int.{Width, w16, w32, w64, byte_len, cast_signed, cast_unsigned}
use Rattle.std.proofs.Math.Facts.{Fits-of_z, Fits-of_lt, sfits_to_z}
use Rattle.std.proofs.lemmas.Nat.{from_be_bytes-to_be_bytes_2, from_le_bytes-to_le_bytes_2, from_be_bytes-to_be_bytes_4, from_le_bytes-to_le_bytes_4, from_be_bytes-to_be_bytes_8, from_le_bytes-to_le_bytes_8, be_bytes_2, le_bytes_2, be_bytes_4, le_bytes_4, be_bytes_8, le_bytes_8}
use Rattle.marshal_core.specs.declared.order.Order.{Order}
use Rattle.marshal_core.specs.declared.order.Order.TheVariants.{Little, Big}
use Rattle.marshal_core.specs.Spelling.{number_bytes}
use Rattle.marshal_core.specs.Reading.{number}

-- the list holds bytes
abbrev pub AllBytes : List ℕ → Type 0
AllBytes [] = Unit {0}
AllBytes (b ∷ bs) = (b < 256) × AllBytes bs

pub AllBytes-from_index : (bs : List ℕ) → ((i : ℕ) → get_or bs i 0 < 256) → AllBytes bs
AllBytes-from_index [] h = tt
AllBytes-from_index (b ∷ bs) h = (h 0, AllBytes-from_index bs (λ i. h (suc i)))

pub AllBytes-right : (xs ys : List ℕ) → AllBytes (xs ++ ys) → AllBytes ys
AllBytes-right [] ys h = h
AllBytes-right (x ∷ xs) ys h = AllBytes-right xs ys h.1

pub AllBytes-left : (xs ys : List ℕ) → AllBytes (xs ++ ys) → AllBytes xs
AllBytes-left [] ys h = tt
AllBytes-left (x ∷ xs) ys h = (h.0, AllBytes-left xs ys h.1)

AllBytes-at : (bs : List ℕ) (i : ℕ) → AllBytes bs → get_or bs i 0 < 256
AllBytes-at [] i h = omega arith
AllBytes-at (b ∷ bs) zero h = h.0
AllBytes-at (b ∷ bs) (suc i) h = AllBytes-at bs i h.1

-- ---- what was written is read

abbrev pub IsReadBack : Order → Width → ℕ → Type 0
IsReadBack order w n = (length (number_bytes order w n) ≡ byte_len w) × (number order w (number_bytes order w n) ≡ n)

pub read_back_16 : (order : Order) (n : ℕ) → n < 2 ^ 16 → IsReadBack order w16 n
read_back_16 Little n lt = (refl, from_le_bytes-to_le_bytes_2 n lt)
read_back_16 Big n lt = (refl, from_be_bytes-to_be_bytes_2 n lt)

pub read_back_32 : (order : Order) (n : ℕ) → n < 2 ^ 32 → IsReadBack order w32 n
read_back_32 Little n lt = (refl, from_le_bytes-to_le_bytes_4 n lt)
read_back_32 Big n lt = (refl, from_be_bytes-to_be_bytes_4 n lt)

pub read_back_64 : (order : Order) (n : ℕ) → n < 2 ^ 64 → IsReadBack order w64 n
read_back_64 Little n lt = (refl, from_le_bytes-to_le_bytes_8 n lt)
read_back_64 Big n lt = (refl, from_be_bytes-to_be_bytes_8 n lt)

-- ---- what is read was written

abbrev pub IsWrittenBack : Order → Width → List ℕ → ℕ → Type 0
IsWrittenBack order w bs limit = (number_bytes order w (number order w bs) ≡ bs) × (number order w bs < limit)

pub written_back_16 : (order : Order) (bs : List ℕ) → length bs ≡ 2 → AllBytes bs → IsWrittenBack order w16 bs (2 ^ 16)
written_back_16 Little bs len fits = (le_bytes_2 bs _ len (λ i. AllBytes-at bs i fits) refl, omega (arith, AllBytes-at bs 0 fits, AllBytes-at bs 1 fits))
written_back_16 Big bs len fits = (be_bytes_2 bs _ len (λ i. AllBytes-at bs i fits) refl, omega (arith, AllBytes-at bs 0 fits, AllBytes-at bs 1 fits))

pub written_back_32 : (order : Order) (bs : List ℕ) → length bs ≡ 4 → AllBytes bs → IsWrittenBack order w32 bs (2 ^ 32)
written_back_32 Little bs len fits = (le_bytes_4 bs _ len (λ i. AllBytes-at bs i fits) refl, omega (arith, AllBytes-at bs 0 fits, AllBytes-at bs 1 fits, AllBytes-at bs 2 fits, AllBytes-at bs 3 fits))
written_back_32 Big bs len fits = (be_bytes_4 bs _ len (λ i. AllBytes-at bs i fits) refl, omega (arith, AllBytes-at bs 0 fits, AllBytes-at bs 1 fits, AllBytes-at bs 2 fits, AllBytes-at bs 3 fits))

pub written_back_64 : (order : Order) (bs : List ℕ) → length bs ≡ 8 → AllBytes bs → IsWrittenBack order w64 bs (2 ^ 64)
written_back_64 Little bs len fits = (le_bytes_8 bs _ len (λ i. AllBytes-at bs i fits) refl, omega (arith, AllBytes-at bs 0 fits, AllBytes-at bs 1 fits, AllBytes-at bs 2 fits, AllBytes-at bs 3 fits, AllBytes-at bs 4 fits, AllBytes-at bs 5 fits, AllBytes-at bs 6 fits, AllBytes-at bs 7 fits))
written_back_64 Big bs len fits = (be_bytes_8 bs _ len (λ i. AllBytes-at bs i fits) refl, omega (arith, AllBytes-at bs 0 fits, AllBytes-at bs 1 fits, AllBytes-at bs 2 fits, AllBytes-at bs 3 fits, AllBytes-at bs 4 fits, AllBytes-at bs 5 fits, AllBytes-at bs 6 fits, AllBytes-at bs 7 fits))

-- ---- signed numbers

pub unsigned_16 : (z : ℤ) → FitsSigned w16 z → cast_unsigned w16 z < 2 ^ 16
unsigned_16 z f = (Fits-of_z f).fits

pub unsigned_32 : (z : ℤ) → FitsSigned w32 z → cast_unsigned w32 z < 2 ^ 32
unsigned_32 z f = (Fits-of_z f).fits

pub unsigned_64 : (z : ℤ) → FitsSigned w64 z → cast_unsigned w64 z < 2 ^ 64
unsigned_64 z f = (Fits-of_z f).fits

pub signed_16 : (n : ℕ) → n < 2 ^ 16 → FitsSigned w16 (cast_signed w16 n)
signed_16 n lt = sfits_to_z (Fits-of_lt lt)

pub signed_32 : (n : ℕ) → n < 2 ^ 32 → FitsSigned w32 (cast_signed w32 n)
signed_32 n lt = sfits_to_z (Fits-of_lt lt)

pub signed_64 : (n : ℕ) → n < 2 ^ 64 → FitsSigned w64 (cast_signed w64 n)
signed_64 n lt = sfits_to_z (Fits-of_lt lt)
