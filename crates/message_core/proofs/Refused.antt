-- The fault of a message that is checked part by part.
use Rattle.std.proofs.Common.{◌≡◌, ℕ, ◌+◌, ◌-◌, ◌%◌, Bool, true, false, List, get_or, drop, Some, None, Ok, refl, sym, ap, subst, ◌∙◌, arith, inl, inr}
use Rattle.marshal_core.specs.declared.order.Order.{Order}
use Rattle.marshal_core.specs.Types.{Tys}
use Rattle.marshal_core.specs.Signatures.{signature_of}
use Rattle.match_rules.specs.declared.kind.MessageKind.{MessageKind}
use Rattle.match_rules.specs.Kinds.{kind_of}
use Rattle.message_core.specs.declared.fault.FrameFault.{FrameFault}
use Rattle.message_core.specs.declared.fault.FrameFault.TheVariants as fault
use Rattle.message_core.specs.declared.field_place.FieldPlace.{FieldPlace}
use Rattle.message_core.specs.declared.header_field.HeaderField.{HeaderField}
use Rattle.message_core.specs.declared.header_field.HeaderField.TheVariants as field
use Rattle.message_core.specs.Announcements.{fields_place, number}
use Rattle.message_core.specs.Kinds.{code_of, required}
use Rattle.message_core.specs.HeaderFields.{Field, body_types}
use Rattle.message_core.specs.Said.{order_of, body_part}
use Rattle.message_core.specs.Places.{part, all_zero, AreSpelled, HaveFields, IsFieldFault, FaultyFields}
use Rattle.message_core.specs.Whole.{place_of, signature_part, unplaced, fields_end, body_begin}
use Rattle.message_core.specs.Refusals.{HasFields, HasBodyFault, IsBodyFault, IsRefused}
use Rattle.message_core.proofs.Wholes.{signature_told, missing_is}

-- how far the check has come: the order, and where the fields end and the body begins
pub record IsAt (bytes : List ℕ) (order : Order) (end begin : ℕ) : Type 0 where
  pub same_order : order ≡ order_of bytes
  pub ends : end ≡ fields_end bytes
  pub begins : begin ≡ body_begin bytes

pub is_at : (bytes : List ℕ) (order : Order) (len : ℕ) → order ≡ order_of bytes → len ≡ number order fields_place bytes → IsAt bytes order (16 + len) (16 + len + (8 - len % 8) % 8)
is_at bytes order len e n =
    let told : len ≡ number (order_of bytes) fields_place bytes = n ∙ ap (λ (o : Order). number o fields_place bytes) e in
    record { same_order = e; ends = ap (λ (k : ℕ). 16 + k) told; begins = ap (λ (k : ℕ). 16 + k + (8 - k % 8) % 8) told ∙ omega arith }

pub fields_refused : (bytes : List ℕ) (order : Order) (end begin : ℕ) (f : FrameFault) → IsAt bytes order end begin → IsFieldFault order bytes end f → IsRefused bytes f
fields_refused bytes order end begin (fault.Field code) a h = inl (subst (λ (o : Order). FaultyFields o bytes (fields_end bytes) code) a.same_order (subst (λ (n : ℕ). FaultyFields order bytes n code) a.ends h))
fields_refused bytes order end begin f a h = absurd h

spelled_to : (bytes : List ℕ) (order : Order) (end begin : ℕ) (sent : List Field) → IsAt bytes order end begin → AreSpelled order bytes end sent → AreSpelled (order_of bytes) bytes (fields_end bytes) sent
spelled_to bytes order end begin sent a h = subst (λ (o : Order). AreSpelled o bytes (fields_end bytes) sent) a.same_order (subst (λ (n : ℕ). AreSpelled order bytes n sent) a.ends h)

gap_is : (bytes : List ℕ) (order : Order) (end begin : ℕ) (b : Bool) → IsAt bytes order end begin → all_zero (part end begin bytes) ≡ b → all_zero (part (fields_end bytes) (body_begin bytes) bytes) ≡ b
gap_is bytes order end begin b a h = ap (λ (n : ℕ). all_zero (part n (body_begin bytes) bytes)) (sym a.ends) ∙ ap (λ (n : ℕ). all_zero (part end n bytes)) (sym a.begins) ∙ h

pub padding_refused : (bytes : List ℕ) (order : Order) (end begin : ℕ) (ps : List FieldPlace) → IsAt bytes order end begin → HaveFields order bytes end ps → all_zero (part end begin bytes) ≡ false → IsRefused bytes (fault.Field 0)
padding_refused bytes order end begin ps a h e =
    inr (refl, record { sent = h.sent; spelled = spelled_to bytes order end begin h.sent a h.spelled; loose = gap_is bytes order end begin false a e })

-- the fields and the zero bytes behind them
stand : (bytes : List ℕ) (order : Order) (end begin : ℕ) (ps : List FieldPlace) → IsAt bytes order end begin → (h : HaveFields order bytes end ps) → all_zero (part end begin bytes) ≡ true → HasFields bytes h.sent
stand bytes order end begin ps a h e = record { spelled = spelled_to bytes order end begin h.sent a h.spelled; padded = gap_is bytes order end begin true a e }

pub missing_refused : (bytes : List ℕ) (order : Order) (end begin : ℕ) (ps : List FieldPlace) (kind : MessageKind) (k : HeaderField) (f : FrameFault) → IsAt bytes order end begin → HaveFields order bytes end ps → all_zero (part end begin bytes) ≡ true
    → kind ≡ kind_of (get_or bytes 1 0) → f ≡ fault.Missing (code_of k) → unplaced (required kind) ps ≡ Some k → IsRefused bytes f
missing_refused bytes order end begin ps kind k f a h e of told missing =
    subst (IsRefused bytes) (sym told)
    record {
      sent = h.sent;
      stand = stand bytes order end begin ps a h e;
      lacking = k;
      first = missing_is order bytes (required (kind_of (get_or bytes 1 0))) ps h.sent h.placed ∙ ap (λ (x : MessageKind). unplaced (required x) ps) (sym of) ∙ missing;
      told = refl;
    }

body_cases : (bytes : List ℕ) (types : Tys) (f : FrameFault) → HasBodyFault bytes f → IsRefused bytes f
body_cases bytes types (fault.Body g) h = h
body_cases bytes types fault.BodyLength h = h
body_cases bytes types f h = absurd h.at_fault

pub body_refused : (bytes : List ℕ) (order : Order) (end begin : ℕ) (ps : List FieldPlace) (kind : MessageKind) (text body : List ℕ) (f : FrameFault) → IsAt bytes order end begin → HaveFields order bytes end ps → all_zero (part end begin bytes) ≡ true
    → kind ≡ kind_of (get_or bytes 1 0) → unplaced (required kind) ps ≡ None → text ≡ signature_part (place_of (code_of field.Signature) ps) bytes → body ≡ drop begin bytes
    → ((types : Tys) → signature_of text ≡ Ok types → IsBodyFault order types body f) → IsRefused bytes f
body_refused bytes order end begin ps kind text body f a h e of complete told there wrong =
    let types : Tys = body_types h.sent in
    let at : IsBodyFault order types body f = wrong types (ap signature_of told ∙ signature_told order bytes ps h.sent h.placed) in
    let place : body ≡ body_part bytes = there ∙ ap (λ (n : ℕ). drop n bytes) a.begins in
    body_cases bytes types f
    record {
      types = types;
      header = record {
        sent = h.sent;
        stand = stand bytes order end begin ps a h e;
        complete = missing_is order bytes (required (kind_of (get_or bytes 1 0))) ps h.sent h.placed ∙ ap (λ (x : MessageKind). unplaced (required x) ps) (sym of) ∙ complete;
        signed = refl;
      };
      at_fault = subst (λ (o : Order). IsBodyFault o types (body_part bytes) f) a.same_order (subst (λ (x : List ℕ). IsBodyFault order types x f) place at);
    }
