use Rattle.std.proofs.Common.{◌≡◌, refl, sym, ap, ◌∙◌, ◌∷◌, length, List, ℕ}
use Rattle.std.specs.Prelude.{Result, Ok, Err, is_ok}
use Rattle.marshal_core.specs.declared.fault.MarshalFault.{MarshalFault}
use Rattle.marshal_core.specs.Faults.{Tells}
use Rattle.marshal_core.specs.Signatures.{signature_of}
use Rattle.marshal_check.specs.SignatureTexts.{types_in}
use Rattle.marshal_core.specs.Values.{a_signature}
use Rattle.marshal_core.specs.Spelling.{ended}
use Rattle.message_core.proofs.Absent.{no_signature_taken}
use Rattle.message_core.proofs.Strings.{signature_taken, signature_is}
use Rattle.message_core.proofs.basic_field.signature_value.Goals as goal

told_ok : {X Y : Type 0} → (view : X → Y) → (told : Result X MarshalFault) → (due : Result Y MarshalFault) → Tells view told due → is_ok told ≡ is_ok due
told_ok view (Ok x) due e = sym (ap is_ok e)
told_ok view (Err f) due e = sym (ap is_ok e)

pub returns-then-is_ok-clause-some : goal.returns-then-is_ok-clause-some
returns-then-is_ok-clause-some c =
    let text = c.split_at.result.0.now in
    let is = signature_is text c.is_ok.result (c.is_ok.ensures.value ∙ told_ok (λ x. types_in x.text.now) c.from_bytes.result (signature_of text) c.from_bytes.ensures.reads) c.if-is_ok.true in
    let taken = signature_taken c.args.bytes.now c.in_ok-first.rest.now text c.split_at.result.1.now c.in_ok-first.first.now c.in_ok-first.ensures.cases.0 c.if-rest-length.false c.split_at.ensures.front c.split_at.ensures.back c.if-end-ne0.false in
    record {
      value = a_signature is.0;
      typed = refl;
      takes = record { is_value = is.1; taken = c.in-Signature.is };
      within = taken.0;
      spelled = taken.1 ∙ ap (λ (x : List ℕ). length x ∷ ended x) is.2;
    }

pub returns-clause-none : goal.returns-clause-none
returns-clause-none c =
    no_signature_taken c.args.order c.args.field c.args.bytes.now c.in_ok-first.rest.now c.split_at.result.0.now c.in_ok-first.first.now c.in_ok-first.ensures.cases.0 c.split_at.ensures.front
    (sym (c.is_ok.ensures.value ∙ told_ok (λ x. types_in x.text.now) c.from_bytes.result (signature_of c.split_at.result.0.now) c.from_bytes.ensures.reads) ∙ c.if-is_ok.false)
