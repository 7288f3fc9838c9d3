-- One step of a reader, or of its loop.
use Rattle.std.proofs.Common.{◌≡◌, ℕ, suc, ◌-◌, ◌+◌, ◌<◌, true, false, List, [], ◌∷◌, Result, Ok, Err, refl, sym, ◌∙◌, arith}
use Rattle.std.specs.Int.{w32}
use Rattle.std.specs.Str.{is_utf8, IsUtf8}
use Rattle.std.proofs.lemmas.Str.{is_utf8-from_IsUtf8, IsUtf8-from_is_utf8}
use Rattle.marshal_core.specs.declared.fault.MarshalFault.{MarshalFault}
use Rattle.marshal_core.specs.declared.fault.MarshalFault.TheVariants.{Utf8}
use Rattle.marshal_core.specs.declared.order.Order.{Order}
use Rattle.marshal_core.specs.Reading.{zeros_at, number_at, content_at, string_at}

pub zeros_next : (n i : ℕ) (short : MarshalFault) (rest after : List ℕ) (total : Result (List ℕ) MarshalFault) → i < n → rest ≡ 0 ∷ after → zeros_at (n - i) short rest ≡ total → zeros_at (n - (i + 1)) short after ≡ total
unfolding zeros_at
zeros_next n i short rest after total lt e so_far =
    let k : n - i ≡ suc (n - (i + 1)) = omega arith in
    let one : zeros_at (n - i) short rest ≡ zeros_at (n - (i + 1)) short after = rw (k, e) refl in
    sym one ∙ so_far

pub zeros_short : (n i : ℕ) (short : MarshalFault) (rest : List ℕ) (total : Result (List ℕ) MarshalFault) → i < n → rest ≡ [] → zeros_at (n - i) short rest ≡ total → total ≡ Err short
unfolding zeros_at
zeros_short n i short rest total lt e so_far =
    let k : n - i ≡ suc (n - (i + 1)) = omega arith in
    let one : zeros_at (n - i) short rest ≡ Err short = rw (k, e) refl in
    sym so_far ∙ one

-- ---- texts

not_utf8 : (bytes : List ℕ) → (IsUtf8 bytes → ⊥) → is_utf8 bytes ≡ false
not_utf8 bytes h = elim (is_utf8 bytes) as (λ b. is_utf8 bytes ≡ b → b ≡ false) [ true ↦ (λ e. absurd (h (IsUtf8-from_is_utf8 bytes e))) | false ↦ (λ e. refl) ] refl

pub string_ok : (order : Order) (short : MarshalFault) (at : ℕ) (bytes : List ℕ) (n p q : ℕ) (rest after text read : List ℕ) → number_at order w32 short at bytes ≡ Ok (n, p, rest) → content_at short n p rest ≡ Ok (text, q, after) → read ≡ text → IsUtf8 text
    → string_at order short at bytes ≡ Ok (read, q, after)
unfolding string_at
string_ok order short at bytes n p q rest after text read e f same utf8 = rw (e, f, is_utf8-from_IsUtf8 text utf8, same) refl

pub string_bad : (order : Order) (short : MarshalFault) (at : ℕ) (bytes : List ℕ) (n p q : ℕ) (rest after text : List ℕ) → number_at order w32 short at bytes ≡ Ok (n, p, rest) → content_at short n p rest ≡ Ok (text, q, after) → (IsUtf8 text → ⊥)
    → string_at order short at bytes ≡ Err Utf8
unfolding string_at
string_bad order short at bytes n p q rest after text e f utf8 = rw (e, f, not_utf8 text utf8) refl
