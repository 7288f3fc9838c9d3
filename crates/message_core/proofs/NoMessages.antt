-- What is refused is no message.
use Rattle.std.proofs.Common.{◌≡◌, ℕ, ◌+◌, ◌-◌, ◌≤◌, ◌<◌, true, List, [], ◌∷◌, ◌++◌, length, get_or, take, drop, Option, Some, None, Result, Ok, Err, refl, sym, ap, subst, ◌∙◌, append_assoc, arith, inl, inr}
use Rattle.std.specs.Prelude.{map}
use Rattle.std.specs.Int.{w32}
use Rattle.std.proofs.lemmas.List.{append-nil, take_at, drop_at, drop-drop, length-append, length-replicate}
use Rattle.marshal_core.specs.declared.fault.MarshalFault.{MarshalFault}
use Rattle.marshal_core.specs.declared.order.Order.{Order}
use Rattle.marshal_core.specs.Types.{Tys}
use Rattle.marshal_core.specs.Values.{values, Vals}
use Rattle.marshal_core.specs.Spelling.{number_bytes, pad_len, pads, SpellElements, Spells}
use Rattle.marshal_core.specs.Reading.{decode_at}
use Rattle.marshal_core.proofs.Results.{ok_is}
use Rattle.marshal.proofs.Decoded.{is_read as is_decoded}
use Rattle.marshal.proofs.ValuesAgain.{nonempty}
use Rattle.match_rules.specs.Kinds.{kind_of}
use Rattle.message_core.specs.declared.fault.FrameFault.{FrameFault}
use Rattle.message_core.specs.declared.fault.FrameFault.TheVariants as fault
use Rattle.message_core.specs.declared.header_field.HeaderField.{HeaderField}
use Rattle.message_core.specs.Announcements.{announced, body_length_place, fields_place, fixed_length, number, order_byte, padded, serial_place, whole_length}
use Rattle.message_core.specs.Kinds.{required}
use Rattle.message_core.specs.HeaderFields.{Field, field_type, field_value, missing, MayFollow, AreFields, body_types}
use Rattle.message_core.specs.Messages.{Message, IsMessage}
use Rattle.message_core.specs.Said.{order_of, body_part}
use Rattle.message_core.specs.Places.{part, field_depth, all_zero, BeginsNoFollower, FaultyFields}
use Rattle.message_core.specs.Whole.{fields_end, body_begin}
use Rattle.message_core.specs.Refusals.{behind_fields, HasLoosePadding, HasFields, LacksField, HasBodyFault, IsBodyFault, IsRefused, IsNoMessage}
use Rattle.message_core.proofs.Strings.{length-number}
use Rattle.message_core.proofs.FieldReading.{part_join, length_part}
use Rattle.message_core.proofs.Announced.{announced_from}
use Rattle.message_core.proofs.Said.{Parts, parts}
use Rattle.message_core.proofs.Unread.{one_field, zeros_are, not_so}

-- ---- fields one after the other

abbrev pub AreElements : Order → ℕ → List Field → List ℕ → Type 0
AreElements order at fs bytes = SpellElements (values (map field_value fs)) field_depth order at field_type bytes

-- what is spelled after fields that begin the bytes
follows : (order : Order) (at : ℕ) (xs ys : List Field) (a b x : List ℕ) → AreElements order at xs a → AreElements order at ys b → b ≡ a ++ x → (zs : List Field) × (ys ≡ xs ++ zs) × AreElements order (at + length a) zs x
follows order at [] ys a b x h k e =
    let same : b ≡ x = e ∙ ap (λ (y : List ℕ). y ++ x) h in
    let place : at ≡ at + length a = omega (arith, ap length h) in
    (ys, refl, subst (λ (n : ℕ). AreElements order n ys x) place (subst (AreElements order at ys) same k))
follows order at (f ∷ fs) [] a b x h k e =
    absurd (omega (arith, ap length h.4, length-append h.0 h.1, ap length e, length-append a x, ap length k, nonempty (field_value f) field_depth order at field_type h.0 h.2))
follows order at (f ∷ fs) (g ∷ gs) a b x h k e =
    let both : h.0 ++ (h.1 ++ x) ≡ k.0 ++ k.1 = sym (append_assoc h.0 h.1 x) ∙ ap (λ (y : List ℕ). y ++ x) (sym h.4) ∙ sym e ∙ k.4 in
    let same = one_field order at f g h.0 k.0 (h.1 ++ x) k.1 h.2 k.2 both in
    let rest : k.1 ≡ h.1 ++ x =
    sym (drop_at k.0 k.1 (length h.0) (ap length (sym same.0))) ∙ ap (drop (length h.0)) (sym both) ∙ drop_at h.0 (h.1 ++ x) (length h.0) refl in
    let ih = follows order (at + length h.0) fs gs h.1 k.1 x h.3 (subst (λ (y : List ℕ). AreElements order (at + length y) gs k.1) (sym same.0) k.3) rest in
    let place : at + length h.0 + length h.1 ≡ at + length a = omega (arith, ap length h.4, length-append h.0 h.1) in
    (ih.0, ap (λ (y : Field). y ∷ gs) (sym same.1) ∙ ap (λ (y : List Field). f ∷ y) ih.1, subst (λ (n : ℕ). AreElements order n ih.0 x) place ih.2)

no_elements : (order : Order) (at : ℕ) (zs : List Field) (x : List ℕ) → AreElements order at zs x → x ≡ [] → zs ≡ []
no_elements order at [] x h e = refl
no_elements order at (f ∷ fs) x h e =
    absurd (omega (arith, ap length e, ap length h.4, length-append h.0 h.1, nonempty (field_value f) field_depth order at field_type h.0 h.2))

-- bytes spell one list of fields
pub same_fields : (order : Order) (at : ℕ) (xs ys : List Field) (bytes : List ℕ) → AreElements order at xs bytes → AreElements order at ys bytes → ys ≡ xs
same_fields order at xs ys bytes h k =
    let f = follows order at xs ys bytes bytes [] h k (sym (append-nil bytes)) in
    f.1 ∙ ap (λ (zs : List Field). xs ++ zs) (no_elements order (at + length bytes) f.0 [] f.2 refl) ∙ append-nil xs

may_follow : (before xs zs : List Field) (f : Field) → AreFields before (xs ++ f ∷ zs) → MayFollow (before ++ xs) f
may_follow before [] zs f h = subst (λ (fs : List Field). MayFollow fs f) (sym (append-nil before)) h.0
may_follow before (g ∷ gs) zs f h = subst (λ (fs : List Field). MayFollow fs f) (append_assoc before (g ∷ []) gs) (may_follow (before ++ g ∷ []) gs zs f h.1)

-- ---- where the parts of a message stand

pub record Stand (bytes : List ℕ) (m : Message) (sent : List Field) (content : List ℕ) : Type 0 where
  pub order : order_of bytes ≡ m.order
  pub kind : get_or bytes 1 0 ≡ m.kind
  pub spelled : AreElements (order_of bytes) fixed_length sent (part fixed_length (fields_end bytes) bytes)
  pub ends : fields_end bytes ≤ length bytes
  pub gap : all_zero (behind_fields bytes) ≡ true
  pub body : body_part bytes ≡ content

pub stands_of : (bytes : List ℕ) (m : Message) (sent : List Field) (array inside content : List ℕ) → Parts bytes m array content (length inside) → array ≡ number_bytes m.order w32 (length inside) ++ inside → AreElements m.order fixed_length sent inside
    → Stand bytes m sent content
stands_of bytes m sent array inside content p layout spelled =
    let n : ℕ = length inside in
    let gap : List ℕ = pads 8 (fields_place + length array) in
    let rest : List ℕ = gap ++ content in
    let word : List ℕ = number_bytes m.order w32 n in
    let told : number (order_of bytes) fields_place bytes ≡ n = ap (λ (o : Order). number o fields_place bytes) p.order ∙ p.fields in
    let end : fields_end bytes ≡ 16 + n = ap (λ (k : ℕ). 16 + k) told in
    let begin : body_begin bytes ≡ 16 + padded n = ap (λ (k : ℕ). 16 + padded k) told in
    let size : length array ≡ 4 + n = ap length layout ∙ length-append word inside ∙ ap (λ (k : ℕ). k + n) (length-number m.order n) in
    let gap_size : length gap ≡ pad_len 8 (fields_place + length array) = length-replicate (pad_len 8 (fields_place + length array)) 0 in
    let from : drop 16 bytes ≡ inside ++ rest =
    sym (drop-drop 4 12 bytes) ∙ ap (drop 4) (p.from_array ∙ ap (λ (x : List ℕ). x ++ rest) layout ∙ append_assoc word inside rest) ∙ drop_at word (inside ++ rest) 4 (length-number m.order n) in
    let fields : part 16 (16 + n) bytes ≡ inside = ap (λ (k : ℕ). take k (drop 16 bytes)) (omega arith) ∙ ap (take n) from ∙ take_at inside rest n refl in
    let behind : part (16 + n) (16 + padded n) bytes ≡ gap =
    ap (λ (k : ℕ). take k (drop (16 + n) bytes)) (omega (arith, size, gap_size)) ∙ ap (take (length gap)) (sym (drop-drop n 16 bytes) ∙ ap (drop n) from ∙ drop_at inside rest n refl) ∙ take_at gap content (length gap) refl in
    record {
      order = p.order;
      kind = p.kind;
      spelled = subst (λ (o : Order). AreElements o 16 sent (part 16 (fields_end bytes) bytes)) (sym p.order)
          (subst (λ (k : ℕ). AreElements m.order 16 sent (part 16 k bytes)) (sym end) (subst (AreElements m.order 16 sent) (sym fields) spelled));
      ends = omega (arith, end, p.long);
      gap = ap (λ (k : ℕ). all_zero (part k (body_begin bytes) bytes)) end ∙ ap (λ (k : ℕ). all_zero (part (16 + n) k bytes)) begin ∙ ap all_zero behind ∙ zeros_are (pad_len 8 (fields_place + length array));
      body = ap (λ (k : ℕ). drop k bytes) begin ∙ p.from_body;
    }

stands : (bytes : List ℕ) (m : Message) (h : IsMessage bytes m) → Stand bytes m h.sent h.is_sent.body_bytes
stands bytes m h =
    let s = h.is_sent in
    stands_of bytes m h.sent s.array_bytes s.array_spelled.2 s.body_bytes (parts h.sent bytes m s) s.array_spelled.5 s.array_spelled.4

-- ---- the faults

follower : (order : Order) (bytes : List ℕ) (at end : ℕ) (sent zs : List Field) → fixed_length ≤ at → at < end → end ≤ length bytes → BeginsNoFollower order sent at (part at end bytes) → AreElements order at zs (part at end bytes)
    → AreFields [] (sent ++ zs) → ⊥
follower order bytes at end sent [] begins before ends none h permitted = omega (arith, ap length h, length_part bytes at end (omega (arith, before)) ends)
follower order bytes at end sent (f ∷ fs) begins before ends none h permitted = none f h.0 h.1 h.4 h.2 (may_follow [] sent fs f permitted)

-- the fields from the fault on
pub fields_behind : (bytes : List ℕ) (m : Message) (fs : List Field) (content : List ℕ) (code : ℕ) → Stand bytes m fs content → (f : FaultyFields (order_of bytes) bytes (fields_end bytes) code)
    → (zs : List Field) × (fs ≡ f.sent ++ zs) × AreElements (order_of bytes) f.at zs (part f.at (fields_end bytes) bytes)
fields_behind bytes m fs content code s f =
    let whole : part 16 (fields_end bytes) bytes ≡ part 16 f.at bytes ++ part f.at (fields_end bytes) bytes = part_join bytes 16 f.at (fields_end bytes) f.within.0 (omega (arith, f.within.1)) in
    let after = follows (order_of bytes) 16 f.sent fs (part 16 f.at bytes) (part 16 (fields_end bytes) bytes) (part f.at (fields_end bytes) bytes) f.before.spelled s.spelled whole in
    let size : length (part 16 f.at bytes) ≡ f.at - 16 = length_part bytes 16 f.at f.within.0 (omega (arith, f.within.1, s.ends)) in
    let place : 16 + length (part 16 f.at bytes) ≡ f.at = omega (arith, size, f.within.0) in
    (after.0, after.1, subst (λ (n : ℕ). AreElements (order_of bytes) n after.0 (part f.at (fields_end bytes) bytes)) place after.2)

fields_none : (bytes : List ℕ) (m : Message) (code : ℕ) (h : IsMessage bytes m) → FaultyFields (order_of bytes) bytes (fields_end bytes) code → ⊥
fields_none bytes m code h f =
    let s = stands bytes m h in
    let after = fields_behind bytes m h.sent h.is_sent.body_bytes code s f in
    follower (order_of bytes) bytes f.at (fields_end bytes) f.sent after.0 f.within.0 f.within.1 s.ends f.none after.2 (subst (AreFields []) after.1 h.is_sent.permitted)

padding_none : (bytes : List ℕ) (m : Message) → IsMessage bytes m → HasLoosePadding bytes → ⊥
padding_none bytes m h f = not_so (all_zero (behind_fields bytes)) (stands bytes m h).gap f.loose

-- the fields are those that were sent
sent_are : (bytes : List ℕ) (m : Message) (sent : List Field) (h : IsMessage bytes m) → HasFields bytes sent → h.sent ≡ sent
sent_are bytes m sent h f = same_fields (order_of bytes) 16 sent h.sent (part 16 (fields_end bytes) bytes) f.spelled.spelled (stands bytes m h).spelled

some_none : (k : HeaderField) (o : Option HeaderField) → o ≡ Some k → o ≡ None → ⊥
some_none k o e f = cc

missing_none : (bytes : List ℕ) (m : Message) (code : ℕ) → IsMessage bytes m → LacksField bytes code → ⊥
missing_none bytes m code h f =
    some_none f.lacking (missing (required (kind_of (get_or bytes 1 0))) f.sent) f.first
    (ap (λ (n : ℕ). missing (required (kind_of n)) f.sent) (stands bytes m h).kind ∙ ap (missing (required (kind_of m.kind))) (sym (sent_are bytes m f.sent h f.stand)) ∙ h.is_sent.complete)

ok_err : (x : Vals × ℕ) (e : MarshalFault) (r : Result (Vals × ℕ) MarshalFault) → r ≡ Ok x → r ≡ Err e → ⊥
ok_err x e r h k = cc

not_below : (m n : ℕ) → m ≡ n → m < n → ⊥
not_below m n e h = omega (arith, e, h)

body_none : (order : Order) (types : Tys) (body : List ℕ) (vs : Vals) (f : FrameFault) → decode_at order types 0 body ≡ Ok (vs, length body) → IsBodyFault order types body f → ⊥
body_none order types body vs (fault.Body g) read h = ok_err (vs, length body) g (decode_at order types 0 body) read h
body_none order types body vs fault.BodyLength read h =
    let same : (h.0, h.1) ≡ (vs, length body) = ok_is (h.0, h.1) (vs, length body) (sym h.2 ∙ read) in
    not_below h.1 (length body) (ap (λ (z : Vals × ℕ). z.1) same) h.3
body_none order types body vs f read h = absurd h

-- a body that is spelled has no fault
pub body_fits : (order : Order) (types : Tys) (vs : Vals) (body : List ℕ) (f : FrameFault) → Spells order 0 types vs body → IsBodyFault order types body f → ⊥
body_fits order types vs body f spelled h = body_none order types body vs f (is_decoded order types 0 body body [] vs (sym (append-nil body)) spelled) h

pub body_stands : (bytes : List ℕ) (m : Message) (sent : List Field) (content : List ℕ) (f : FrameFault) → Stand bytes m sent content → m.types ≡ body_types sent → Spells m.order 0 m.types m.body content → HasBodyFault bytes f → ⊥
body_stands bytes m sent content f st signed spelled b =
    let same : sent ≡ b.header.sent = same_fields (order_of bytes) 16 b.header.sent sent (part 16 (fields_end bytes) bytes) b.header.stand.spelled.spelled st.spelled in
    let types : b.types ≡ m.types = b.header.signed ∙ ap body_types (sym same) ∙ sym signed in
    body_fits m.order m.types m.body content f spelled
    (subst (λ (o : Order). IsBodyFault o m.types content f) st.order (subst (λ (ts : Tys). IsBodyFault (order_of bytes) ts content f) types (subst (λ (x : List ℕ). IsBodyFault (order_of bytes) b.types x f) st.body b.at_fault)))

body_fault_none : (bytes : List ℕ) (m : Message) (f : FrameFault) → IsMessage bytes m → HasBodyFault bytes f → ⊥
body_fault_none bytes m f h b = body_stands bytes m h.sent h.is_sent.body_bytes f (stands bytes m h) h.is_sent.signed h.is_sent.body_spelled b

field_none : (bytes : List ℕ) (m : Message) (code : ℕ) → IsMessage bytes m → IsRefused bytes (fault.Field code) → ⊥
field_none bytes m code h (inl f) = fields_none bytes m code h f
field_none bytes m code h (inr f) = padding_none bytes m h f.1

pub refused_none : (bytes : List ℕ) (f : FrameFault) → IsRefused bytes f → IsNoMessage bytes
refused_none bytes (fault.Field code) r m h = field_none bytes m code h r
refused_none bytes (fault.Missing code) r m h = missing_none bytes m code h r
refused_none bytes f r m h = body_fault_none bytes m f h r

-- ---- what a message announces

pub announced_message : (limit : ℕ) (bytes : List ℕ) (m : Message) → IsMessage bytes m → length bytes ≤ limit → (16 ≤ length bytes) × (announced limit bytes ≡ Ok (length bytes))
announced_message limit bytes m h within =
    let s = h.is_sent in
    let p = parts h.sent bytes m s in
    let n : ℕ = length s.array_spelled.2 in
    let fields : number (order_of bytes) fields_place bytes ≡ n = ap (λ (o : Order). number o fields_place bytes) p.order ∙ p.fields in
    let body : number (order_of bytes) body_length_place bytes ≡ length s.body_bytes = ap (λ (o : Order). number o body_length_place bytes) p.order ∙ p.body_length in
    let serial : number (order_of bytes) serial_place bytes ≡ m.serial = ap (λ (o : Order). number o serial_place bytes) p.order ∙ p.serial in
    let whole : length bytes ≡ whole_length (order_of bytes) bytes =
    p.long ∙ ap (λ (k : ℕ). 16 + padded k + length s.body_bytes) (sym fields) ∙ ap (λ (k : ℕ). 16 + padded (number (order_of bytes) fields_place bytes) + k) (sym body) in (
      omega (arith, p.long),
      announced_from limit bytes (length bytes) (record {
        first = ap (λ (x : List ℕ). get_or x 0 0) s.whole ∙ ap order_byte (sym p.order);
        kind = omega (arith, p.kind, s.kind.0);
        version = ap (λ (x : List ℕ). get_or x 3 0) s.whole;
        serial = omega (arith, serial, s.serial.0);
        fields = omega (arith, fields, s.array_spelled.3);
        length = whole;
        within = within;
      }),
    )
