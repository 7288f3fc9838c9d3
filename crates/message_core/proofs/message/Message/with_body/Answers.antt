use Rattle.std.proofs.Common.{◌≡◌, ℕ, List, Result, Ok, Err, IfOk, IfErr, ◌≢◌, true, is_ok, sym, ap, ◌∙◌, subst, refl, inr}
use Rattle.std.specs.Prelude.{MatchResult}
use Rattle.std.proofs.lemmas.Result.{err_from_is_err_and}
use Rattle.marshal_core.specs.declared.fault.MarshalFault.{MarshalFault}
use Rattle.marshal_core.specs.Types.{Tys}
use Rattle.marshal_core.specs.Values.{Vals}
use Rattle.marshal_core.specs.Signatures.{codes, signature_of}
use Rattle.marshal_core.specs.Spelling.{Spells}
use Rattle.marshal_core.proofs.TypesAgain.{signature_again}
use Rattle.message_core.specs.declared.fault.FrameFault.{FrameFault}
use Rattle.message_core.specs.declared.fault.FrameFault.TheVariants as fault
use Rattle.message_core.specs.declared.header.Header.{Header}
use Rattle.message_core.specs.Headers.{HasNoWriting, message_of}
use Rattle.message_core.specs.Messages.{Message, IsWritten}
use Rattle.message_core.specs.OwnFaults.{IsFaultOfSigned, IsFaultOfBytes, IsOwnFault}
use Rattle.message_core.specs.Whole.{IsBody}
use Rattle.message_core.proofs.NoMessages.{body_fits}
use Rattle.message_core.proofs.Strings.{signature_is}
use Rattle.message_core.proofs.message.Message.with_body.Goals as goal

-- the text is a signature, and the bytes are what it says
record Fits (header : Header) (signature body : List ℕ) : Type 0 where
  types : Tys
  signed : signature ≡ codes types
  told : signature_of signature ≡ Ok types
  is_body : IsBody header.order types body

fits : (header : Header) (signature seen body : List ℕ) → seen ≡ signature → is_ok (signature_of seen) ≡ true → ((types : Tys) → signature_of seen ≡ Ok types → IsBody header.order types body) → Fits header signature body
fits header signature seen body e ok is =
    let s = signature_is seen (is_ok (signature_of seen)) refl ok in
    let told : signature_of seen ≡ Ok s.0 = ap signature_of s.2 ∙ signature_again s.0 s.1 in
    record { types = s.0; signed = sym e ∙ s.2; told = ap signature_of (sym e) ∙ told; is_body = is s.0 told }

abbrev IsToldOf : Message → FrameFault → Type 0
IsToldOf m f = IsOwnFault m f × HasNoWriting m

abbrev Puts : Header → List ℕ → List ℕ → Result (List ℕ) FrameFault → Type 0
Puts header signature body r = (types : Tys) (values : Vals) → signature ≡ codes types → Spells header.order 0 types values body
    → MatchResult r (λ m. IsWritten m (message_of header types values)) (λ f. f ≢ fault.NoMemory → IsToldOf (message_of header types values) f)

abbrev IsMadeOf : Header → List ℕ → List ℕ → List ℕ → Type 0
IsMadeOf header signature body m = (types : Tys) × (values : Vals) × (signature ≡ codes types) × Spells header.order 0 types values body × IsWritten m (message_of header types values)

made : (header : Header) (signature body : List ℕ) (r : Result (List ℕ) FrameFault) → Fits header signature body → Puts header signature body r → IfOk r (IsMadeOf header signature body)
made header signature body (Ok m) f puts = (f.types, f.is_body.values, f.signed, f.is_body.spelled, puts f.types f.is_body.values f.signed f.is_body.spelled)
made header signature body (Err e) f puts = tt

at_fault : (header : Header) (signature body : List ℕ) (r : Result (List ℕ) FrameFault) → Fits header signature body → Puts header signature body r → IfErr r (λ e. e ≢ fault.NoMemory → IsFaultOfBytes header signature body e)
at_fault header signature body (Ok m) f puts = tt
at_fault header signature body (Err e) f puts = λ other.
    let told = puts f.types f.is_body.values f.signed f.is_body.spelled other in
    subst (λ (r : Result Tys MarshalFault). IsFaultOfSigned header r body e) (sym f.told) (inr (record { values = f.is_body.values; spelled = f.is_body.spelled; at_fault = told.0 }))

pub returns-in_err-check_body-clause-made : goal.returns-in_err-check_body-clause-made
returns-in_err-check_body-clause-made c = λ types values e spelled.
    let p = err_from_is_err_and c.from_residual.result c.from_residual.ensures.1 in
    rw (p.1, p.2)
    (λ other. absurd (body_fits c.args.header.now.order types values c.args.body.now c.in_err-check_body.field-0.0 spelled (c.in_err-check_body.ensures.fault types (ap signature_of (c.as_bytes.ensures.value ∙ e) ∙ signature_again types spelled.0))))

pub returns-clause-message : goal.returns-clause-message
returns-clause-message c =
    let header = c.args.header.now in
    let f = fits header c.args.signature.now c.as_bytes.result.now c.args.body.now c.as_bytes.ensures.value c.in_ok-check_body.ensures.signed c.in_ok-check_body.ensures.body in
    made header c.args.signature.now c.args.body.now c.put_together.result f (λ types values e spelled. c.put_together.ensures types values (c.as_bytes-2.ensures.value ∙ e) spelled)

pub returns-clause-fault : goal.returns-clause-fault
returns-clause-fault c =
    let header = c.args.header.now in
    let f = fits header c.args.signature.now c.as_bytes.result.now c.args.body.now c.as_bytes.ensures.value c.in_ok-check_body.ensures.signed c.in_ok-check_body.ensures.body in
    at_fault header c.args.signature.now c.args.body.now c.put_together.result f (λ types values e spelled. c.put_together.ensures types values (c.as_bytes-2.ensures.value ∙ e) spelled)
