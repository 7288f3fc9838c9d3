use Rattle.std.proofs.Common.{◌≡◌, ℕ, ◌<◌, List, length, Result, Ok, Err, IfOk, IfErr, ◌≢◌, sym, ap, ◌∙◌, subst, arith}
use Rattle.marshal_core.specs.Types.{Tys, no_types}
use Rattle.marshal_core.specs.Values.{no_values}
use Rattle.std.specs.Prelude.{MatchResult}
use Rattle.std.proofs.lemmas.Result.{err_from_is_err_and}
use Rattle.message_core.specs.declared.fault.FrameFault.{FrameFault}
use Rattle.message_core.specs.declared.fault.FrameFault.TheVariants as fault
use Rattle.message_core.specs.declared.header.Header.{Header}
use Rattle.message_core.specs.Messages.{Message, IsWritten}
use Rattle.message_core.specs.Announcements.{announced, whole_length}
use Rattle.message_core.specs.Headers.{HasNoWriting, message_of, AreWritten, fields_of}
use Rattle.message_core.specs.OwnFaults.{HasStart, IsOwnFault}
use Rattle.message_core.specs.Refusals.{IsNoMessage, IsRefused}
use Rattle.message_core.specs.Said.{order_of}
use Rattle.std.proofs.lemmas.Bool.{ne_eqb}
use Rattle.message_core.proofs.Announced.{announced_facts, not_zero}
use Rattle.message_core.proofs.Own.{laid_long, own_written, own_ok, fields_signed}
use Rattle.message_core.proofs.OwnFaults.{long_values, long_parts, long_announced, refused_own}
use Rattle.message_core.proofs.OwnRefused.{none_of_values, none_so_long, none_announced, none_read}
use Rattle.message_core.proofs.own_message.put_together.Goals as goal

abbrev ok : ℕ → Result ℕ FrameFault
ok n = Ok n

whole : (bytes seen : List ℕ) (n : ℕ) → seen ≡ bytes → ok n ≡ announced 134217728 seen → whole_length (order_of bytes) bytes ≡ length bytes → announced 134217728 bytes ≡ Ok (length bytes)
whole bytes seen n e h long =
    let f : announced 134217728 bytes ≡ Ok n = ap (announced 134217728) (sym e) ∙ sym h in
    f ∙ ap ok ((announced_facts 134217728 bytes n f).length ∙ long)

-- the fault of a message, which has no bytes
abbrev IsToldOf : Message → FrameFault → Type 0
IsToldOf m f = IsOwnFault m f × HasNoWriting m

own_err : (r : Result (List ℕ) FrameFault) (bytes : List ℕ) (m : Message) → IfErr r (λ f. f ≢ fault.NoMemory → IsRefused bytes f) → IfErr r (λ f. f ≢ fault.NoMemory → IsNoMessage bytes)
    → ((f : FrameFault) → IsRefused bytes f → IsOwnFault m f) → (IsNoMessage bytes → HasNoWriting m) → IfErr r (λ f. f ≢ fault.NoMemory → IsToldOf m f)
own_err (Ok x) bytes m refused none told unwritten = tt
own_err (Err f) bytes m refused none told unwritten = λ other. (told f (refused other), unwritten (none other))

own_both : (r : Result (List ℕ) FrameFault) (m : Message) → IfOk r (λ x. IsWritten x m) → IfErr r (λ f. f ≢ fault.NoMemory → IsToldOf m f) → MatchResult r (λ x. IsWritten x m) (λ f. f ≢ fault.NoMemory → IsToldOf m f)
own_both (Ok x) m h k = h
own_both (Err f) m h k = k

above : (n : ℕ) → (n ≡ 0 → ⊥) → 0 < n
above n some = not_zero n (ne_eqb n 0 some)

start : (header : Header) (types : Tys) (number : ℕ) → number ≡ (message_of header types no_values).kind → (number ≡ 0 → ⊥) → (header.serial ≡ 0 → ⊥) → HasStart (message_of header types no_values)
start header types number e kind serial = (omega (arith, e, above number kind), above header.serial serial)

-- the fields are written as they are
fields_written : (header : Header) (types : Tys) (array held : List ℕ) → array ≡ held → AreWritten header.order (fields_of header types) held → AreWritten header.order (fields_of header types) array
fields_written header types array held e h = subst (AreWritten header.order (fields_of header types)) (sym e) h

pub announced_length-requires : goal.announced_length-requires
announced_length-requires c = rw c.deref-2.ensures.value (laid_long (message_of c.args.header.now no_types no_values) c.deref.result.now c.args.body.now c.in_ok-bytes.bytes.items (c.in_ok-bytes.ensures.laid no_types no_values)).0

pub read-requires-clause-fixed : goal.read-requires-clause-fixed
read-requires-clause-fixed c = (laid_long (message_of c.args.header.now no_types no_values) c.deref.result.now c.args.body.now c.in_ok-bytes.bytes.items (c.in_ok-bytes.ensures.laid no_types no_values)).0

pub read-requires-clause-whole : goal.read-requires-clause-whole
read-requires-clause-whole c =
    let long = laid_long (message_of c.args.header.now no_types no_values) c.deref.result.now c.args.body.now c.in_ok-bytes.bytes.items (c.in_ok-bytes.ensures.laid no_types no_values) in
    whole c.in_ok-bytes.bytes.items c.deref-2.result.now c.in_ok-announced_length.field-0 c.deref-2.ensures.value c.in_ok-announced_length.ensures.announced long.1

pub returns-in_err-put_fields : goal.returns-in_err-put_fields
returns-in_err-put_fields c = λ types values e spelled.
    let m : Message = message_of c.args.header.now types values in
    let begun : HasStart m = start c.args.header.now types c.number.result c.number.ensures c.if-number-eq0.false c.if-header-eq0.false in
    let p = err_from_is_err_and c.from_residual.result c.from_residual.ensures.1 in
    rw (p.1, p.2)
    (λ other.
    let refused = c.in_err-put_fields.ensures.refused other types e spelled.0 in
    (subst (IsOwnFault m) (sym refused.0) (long_values m begun refused.1), none_of_values m refused.1))

pub returns-in_err-bytes : goal.returns-in_err-bytes
returns-in_err-bytes c = λ types values e spelled.
    let m : Message = message_of c.args.header.now types values in
    let begun : HasStart m = start c.args.header.now types c.number.result c.number.ensures c.if-number-eq0.false c.if-header-eq0.false in
    let written = fields_written c.args.header.now types c.deref.result.now _ c.deref.ensures.value (c.in_ok-put_fields.ensures.put types e spelled.0 c.new-fields.ensures.items) in
    let p = err_from_is_err_and c.from_residual-in_err-bytes.result c.from_residual-in_err-bytes.ensures.1 in
    rw (p.1, p.2)
    (λ other.
    let refused = c.in_err-bytes.ensures.refused other in
    (subst (IsOwnFault m) (sym refused.0) (long_parts m c.deref.result.now c.args.body.now begun written spelled refused.1), none_so_long m c.deref.result.now c.args.body.now written spelled refused.1))

pub returns-in_err-announced_length : goal.returns-in_err-announced_length
returns-in_err-announced_length c = λ types values e spelled.
    let m : Message = message_of c.args.header.now types values in
    let begun : HasStart m = start c.args.header.now types c.number.result c.number.ensures c.if-number-eq0.false c.if-header-eq0.false in
    let written = fields_written c.args.header.now types c.deref.result.now _ c.deref.ensures.value (c.in_ok-put_fields.ensures.put types e spelled.0 c.new-fields.ensures.items) in
    let bytes = c.in_ok-bytes.bytes.items in
    let laid = c.in_ok-bytes.ensures.laid types values in
    let f = c.in_err-announced_length.field-0.0 in
    let wrong : announced 134217728 bytes ≡ Err f = ap (announced 134217728) (sym c.deref-2.ensures.value) ∙ sym c.in_err-announced_length.ensures.announced in
    let p = err_from_is_err_and c.from_residual-in_err-announced_length.result c.from_residual-in_err-announced_length.ensures.1 in
    rw (p.1, p.2)
    (λ other. (long_announced m c.deref.result.now c.args.body.now bytes f begun written spelled laid wrong, none_announced m c.deref.result.now c.args.body.now bytes f written spelled laid wrong))

pub returns : goal.returns
returns c = λ types values e spelled.
    let m : Message = message_of c.args.header.now types values in
    let begun : HasStart m = start c.args.header.now types c.number.result c.number.ensures c.if-number-eq0.false c.if-header-eq0.false in
    let bytes = c.in_ok-bytes.bytes.items in
    let laid = c.in_ok-bytes.ensures.laid types values in
    let long = laid_long m c.deref.result.now c.args.body.now bytes laid in
    let written = fields_written c.args.header.now types c.deref.result.now _ c.deref.ensures.value (c.in_ok-put_fields.ensures.put types e spelled.0 c.new-fields.ensures.items) in
    let told : announced 134217728 bytes ≡ Ok (length bytes) = whole bytes c.deref-2.result.now c.in_ok-announced_length.field-0 c.deref-2.ensures.value c.in_ok-announced_length.ensures.announced long.1 in
    own_both c.read.result m
    (own_ok c.read.result bytes m c.read.ensures.bytes c.read.ensures.message (own_written c.args.header.now types values c.deref.result.now c.args.body.now bytes 134217728 laid written spelled told))
    (own_err c.read.result bytes m c.read.ensures.fault c.read.ensures.none (λ f. refused_own m c.deref.result.now c.args.body.now bytes f begun (fields_signed c.args.header.now types) written spelled laid told) (none_read m c.deref.result.now c.args.body.now bytes written spelled laid))
