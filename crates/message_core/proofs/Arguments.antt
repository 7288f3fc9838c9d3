-- Decoding the body of a checked message.
use Rattle.std.proofs.Common.{◌≡◌, ◌≢◌, ℕ, List, Result, Ok, Err, refl, sym, ap, ◌∙◌}
use Rattle.marshal_core.specs.declared.fault.MarshalFault.{MarshalFault}
use Rattle.marshal_core.specs.declared.fault.MarshalFault.TheVariants as fault
use Rattle.marshal_core.specs.Types.{Tys}
use Rattle.marshal_core.specs.Values.{Vals}
use Rattle.marshal_core.specs.Signatures.{codes, signature_of, IsSignature}
use Rattle.marshal_core.specs.Faults.{Fails}
use Rattle.marshal_core.specs.Reading.{decoded}
use Rattle.marshal_core.proofs.Results.{ok_is}
use Rattle.marshal_core.proofs.TypesAgain.{signature_again}

-- a fault that is not another one
memory_is : (e : MarshalFault) → ((e ≢ fault.NoMemory) → ⊥) → e ≡ fault.NoMemory
memory_is fault.NoMemory h = refl
memory_is fault.Truncated h = absurd (h (λ e. cc))
memory_is fault.Padding h = absurd (h (λ e. cc))
memory_is fault.Boolean h = absurd (h (λ e. cc))
memory_is fault.Utf8 h = absurd (h (λ e. cc))
memory_is fault.NulInText h = absurd (h (λ e. cc))
memory_is fault.Path h = absurd (h (λ e. cc))
memory_is fault.Signature h = absurd (h (λ e. cc))
memory_is fault.ArrayLength h = absurd (h (λ e. cc))
memory_is fault.Depth h = absurd (h (λ e. cc))
memory_is fault.Descriptor h = absurd (h (λ e. cc))

abbrev good : {A : Type 0} → A → Result A MarshalFault
good x = Ok x

abbrev bad : {A : Type 0} → MarshalFault → Result A MarshalFault
bad e = Err e

not_both : {A : Type 0} → (x : A) (e : MarshalFault) → good x ≡ bad e → ⊥
not_both x e h = cc

-- where something is given, there is no other fault than want of memory
pub only_memory : {A : Type 0} → (outcome : Result A MarshalFault) (x : A) (e : MarshalFault) → outcome ≡ Ok x → Fails e outcome → e ≡ fault.NoMemory
only_memory outcome x e given fails = memory_is e (λ other. not_both x e (sym given ∙ fails other))

-- a signature's text is read as its types
pub types_read : (text : List ℕ) (types ts : Tys) → text ≡ codes types → IsSignature types → signature_of text ≡ Ok ts → ts ≡ types
types_read text types ts e valid h = ok_is ts types (sym h ∙ ap signature_of e ∙ signature_again types valid)

pub values_read : (vs ws : Vals) (n k : ℕ) → decoded vs n ≡ Ok (ws, k) → ws ≡ vs
values_read vs ws n k h = sym (ap (λ (z : Vals × ℕ). z.0) (ok_is (vs, n) (ws, k) h))
