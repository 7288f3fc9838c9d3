-- What a check answers.
use Rattle.std.proofs.Common.{◌≡◌, ℕ, ◌-◌, ◌%◌, Bool, true, List, [], ◌++◌, length, Result, Ok, Err, refl, sym, ap, ◌∙◌, append-nil}
use Rattle.std.specs.Prelude.{is_ok}
use Rattle.marshal_core.specs.declared.fault.MarshalFault.{MarshalFault}
use Rattle.marshal_core.specs.declared.fault.MarshalFault.TheVariants.{Truncated}
use Rattle.marshal_core.specs.declared.order.Order.{Order}
use Rattle.marshal_core.specs.Types.{Tys}
use Rattle.marshal_core.specs.Values.{Vals}
use Rattle.marshal_core.specs.Signatures.{signature_of, codes, IsSignature}
use Rattle.marshal_core.specs.Spelling.{Spells}
use Rattle.marshal_core.specs.Reading.{fields_at, value_at, decode_at}
use Rattle.marshal_core.proofs.Results.{ok_is}
use Rattle.marshal_core.proofs.TypesTaken.{signature_takes}
use Rattle.marshal.proofs.Decoded.{is_read}
use Rattle.marshal_check.specs.SignatureTexts.{is_signature_text, types_or_none, types_in}

abbrev IsTextOf : List ℕ → Tys → Type 0
IsTextOf text ts = IsSignature ts × (text ≡ codes ts)

abbrev no_fault : Bool → Type 0
no_fault b = b ≡ true

pub is_its_text : (text : List ℕ) → is_signature_text text ≡ true → IsSignature (types_in text) × (text ≡ codes (types_in text))
is_its_text text valid =
    elim (signature_of text) as (λ r. signature_of text ≡ r → is_ok r ≡ true → IsTextOf text (types_or_none r)) [
      | Ok ts ↦ (λ e h. signature_takes text ts e)
      | Err f ↦ (λ e h. absurd cc)
    ] refl valid

pub whole_text : (text : List ℕ) → is_signature_text text ≡ true → text ≡ codes (types_in text) ++ []
whole_text text valid = (is_its_text text valid).1 ∙ sym (append-nil (codes (types_in text)))

pub body_done : (order : Order) (ts : Tys) (offset p : ℕ) (bytes rest : List ℕ) (vs : Vals) → fields_at (value_at 64 order) Truncated ts (offset % 8) bytes ≡ Ok (vs, p, rest) → decode_at order ts offset bytes ≡ Ok (vs, p - offset % 8)
body_done order ts offset p bytes rest vs e = rw e refl

pub body_fault : (order : Order) (ts : Tys) (offset : ℕ) (bytes : List ℕ) (x : MarshalFault) → fields_at (value_at 64 order) Truncated ts (offset % 8) bytes ≡ Err x → decode_at order ts offset bytes ≡ Err x
body_fault order ts offset bytes x e = rw e refl

abbrev answer : Vals × ℕ → Result (Vals × ℕ) MarshalFault
answer y = Ok y

abbrev fault : MarshalFault → Result (Vals × ℕ) MarshalFault
fault x = Err x

abbrev told : ℕ → Result ℕ MarshalFault
told n = Ok n

no_answer : (x : MarshalFault) (y : Vals × ℕ) → fault x ≡ answer y → ⊥
no_answer x y e = absurd cc

-- bytes that spell values are not refused
pub not_refused : (order : Order) (ts : Tys) (offset : ℕ) (bytes front rest : List ℕ) (vs : Vals) (x : MarshalFault) → decode_at order ts offset bytes ≡ Err x → bytes ≡ front ++ rest → Spells order offset ts vs front → ⊥
not_refused order ts offset bytes front rest vs x e b h = no_answer x (vs, length front) (sym e ∙ is_read order ts offset bytes front rest vs b h)

-- and their length is told
pub its_length : (order : Order) (ts : Tys) (offset n : ℕ) (bytes front rest : List ℕ) (vs ws : Vals) → decode_at order ts offset bytes ≡ Ok (ws, n) → bytes ≡ front ++ rest → Spells order offset ts vs front → told n ≡ told (length front)
its_length order ts offset n bytes front rest vs ws e b h =
    ap (λ (y : Vals × ℕ). told y.1) (ok_is (ws, n) (vs, length front) (sym e ∙ is_read order ts offset bytes front rest vs b h))
