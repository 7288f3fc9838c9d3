-- What is no message is refused for one fault.
use Rattle.std.proofs.Common.{◌≡◌, ◌⊎◌, ℕ, ◌≤◌, List, length, take, drop, Option, Some, None, Result, Ok, Err, refl, sym, ap, subst, ◌∙◌, arith, inl, inr}
use Rattle.std.proofs.lemmas.List.{take-append-drop, length-take-le}
use Rattle.marshal_core.specs.declared.fault.MarshalFault.{MarshalFault}
use Rattle.marshal_core.specs.declared.order.Order.{Order}
use Rattle.marshal_core.specs.Types.{Tys}
use Rattle.marshal_core.specs.Values.{Vals}
use Rattle.marshal_core.specs.Reading.{decode_at}
use Rattle.message_core.specs.declared.fault.FrameFault.{FrameFault}
use Rattle.message_core.specs.declared.fault.FrameFault.TheVariants as fault
use Rattle.message_core.specs.declared.header_field.HeaderField.{HeaderField}
use Rattle.message_core.specs.Announcements.{announced}
use Rattle.message_core.specs.Kinds.{code_of}
use Rattle.message_core.specs.HeaderFields.{Field, body_types}
use Rattle.message_core.specs.Said.{order_of, body_part}
use Rattle.message_core.specs.Places.{all_zero, FaultyFields}
use Rattle.message_core.specs.Whole.{fields_end}
use Rattle.message_core.specs.Refusals.{behind_fields, missing_in, HasLoosePadding, HasFields, LacksField, HasBodyFault, IsBodyFault, IsRefused}
use Rattle.message_core.proofs.Announced.{announced_facts}
use Rattle.message_core.proofs.Unread.{not_so}
use Rattle.message.specs.Framing.{IsJudged}
use Rattle.message.proofs.Front.{announced_append}
use Rattle.router_core.proofs.FieldFaults.{one_code, not_faulty, one_list}

-- ## Results

pub err_is : {A : Type 0} (r : Result A FrameFault) (f g : FrameFault) → r ≡ Err f → r ≡ Err g → f ≡ g
err_is {A = A} r f g h k = let e : Err f ≡ Err g = sym h ∙ k in cc

pub same_number : (r : Result ℕ FrameFault) (m n : ℕ) → r ≡ Ok m → r ≡ Ok n → m ≡ n
same_number r m n h k = let e : Ok m ≡ Ok n = sym h ∙ k in cc

pub not_both : {P : Type 0} (r : Result ℕ FrameFault) (n : ℕ) (f : FrameFault) → r ≡ Ok n → r ≡ Err f → P
not_both r n f h k = absurd (let e : Ok n ≡ Err f = sym h ∙ k in cc)

-- ## Bodies

body_read : (r : Result (Vals × ℕ) MarshalFault) (x : Vals × ℕ) (e : MarshalFault) → r ≡ Ok x → r ≡ Err e → ⊥
body_read r x e h k = cc

body_err : (r : Result (Vals × ℕ) MarshalFault) (d e : MarshalFault) → r ≡ Err d → r ≡ Err e → d ≡ e
body_err r d e h k = cc

one_body_fault : (order : Order) (types : Tys) (body : List ℕ) (f g : FrameFault) → IsBodyFault order types body f → IsBodyFault order types body g → f ≡ g
one_body_fault order types body (fault.Body d) (fault.Body e) h k = ap (λ (x : MarshalFault). fault.Body x) (body_err (decode_at order types 0 body) d e h k)
one_body_fault order types body (fault.Body d) fault.BodyLength h k = absurd (body_read (decode_at order types 0 body) (k.0, k.1) d k.2 h)
one_body_fault order types body fault.BodyLength (fault.Body e) h k = absurd (body_read (decode_at order types 0 body) (h.0, h.1) e h.2 k)
one_body_fault order types body fault.BodyLength fault.BodyLength h k = refl
one_body_fault order types body (fault.Body d) g h k = absurd k
one_body_fault order types body fault.BodyLength g h k = absurd k
one_body_fault order types body f g h k = absurd h

-- ## The three ways to be refused

abbrev Way : List ℕ → FrameFault → Type 0
Way bytes f =
    ((code : ℕ) × (f ≡ fault.Field code) × (FaultyFields (order_of bytes) bytes (fields_end bytes) code ⊎ ((code ≡ 0) × HasLoosePadding bytes)))
    ⊎ (((code : ℕ) × (f ≡ fault.Missing code) × LacksField bytes code) ⊎ HasBodyFault bytes f)

way : (bytes : List ℕ) (f : FrameFault) → IsRefused bytes f → Way bytes f
way bytes (fault.Field code) r = inl (code, refl, r)
way bytes (fault.Missing code) r = inr (inl (code, refl, r))
way bytes f r = inr (inr r)

some_none : (k : HeaderField) (o : Option HeaderField) → o ≡ Some k → o ≡ None → ⊥
some_none k o e f = cc

some_is : (j k : HeaderField) (o : Option HeaderField) → o ≡ Some j → o ≡ Some k → j ≡ k
some_is j k o e f = cc

module _ (bytes : List ℕ) (ends : fields_end bytes ≤ length bytes) where
  fields_or_header : (code : ℕ) (sent : List Field) → FaultyFields (order_of bytes) bytes (fields_end bytes) code ⊎ ((code ≡ 0) × HasLoosePadding bytes) → HasFields bytes sent → ⊥
  fields_or_header code sent (inl f) h = not_faulty (order_of bytes) bytes (fields_end bytes) ends code sent f h.spelled
  fields_or_header code sent (inr f) h = not_so (all_zero (behind_fields bytes)) h.padded f.1.loose

  one_field_code : (code other : ℕ) → FaultyFields (order_of bytes) bytes (fields_end bytes) code ⊎ ((code ≡ 0) × HasLoosePadding bytes) →
      FaultyFields (order_of bytes) bytes (fields_end bytes) other ⊎ ((other ≡ 0) × HasLoosePadding bytes) → code ≡ other
  one_field_code code other (inl f) (inl g) = one_code (order_of bytes) bytes (fields_end bytes) ends code other f g
  one_field_code code other (inl f) (inr g) = absurd (not_faulty (order_of bytes) bytes (fields_end bytes) ends code g.1.sent f g.1.spelled)
  one_field_code code other (inr f) (inl g) = absurd (not_faulty (order_of bytes) bytes (fields_end bytes) ends other f.1.sent g f.1.spelled)
  one_field_code code other (inr f) (inr g) = f.0 ∙ sym g.0

  same_sent : (sent others : List Field) → HasFields bytes sent → HasFields bytes others → sent ≡ others
  same_sent sent others h k = one_list (order_of bytes) bytes (fields_end bytes) ends sent others h.spelled k.spelled

  one_lacking : (code other : ℕ) → LacksField bytes code → LacksField bytes other → code ≡ other
  one_lacking code other f g =
      let same : missing_in bytes f.sent ≡ Some g.lacking = ap (λ (sent : List Field). missing_in bytes sent) (same_sent f.sent g.sent f.stand g.stand) ∙ g.first in
      f.told ∙ ap (λ (k : HeaderField). code_of k) (some_is f.lacking g.lacking (missing_in bytes f.sent) f.first same) ∙ sym g.told

  lacking_or_body : (code : ℕ) (f : FrameFault) → LacksField bytes code → HasBodyFault bytes f → ⊥
  lacking_or_body code f l b =
      some_none l.lacking (missing_in bytes l.sent) l.first (ap (λ (sent : List Field). missing_in bytes sent) (same_sent l.sent b.header.sent l.stand b.header.stand) ∙ b.header.complete)

  one_body : (f g : FrameFault) → HasBodyFault bytes f → HasBodyFault bytes g → f ≡ g
  one_body f g h k =
      let types : k.types ≡ h.types = k.header.signed ∙ ap (λ (sent : List Field). body_types sent) (same_sent k.header.sent h.header.sent k.header.stand h.header.stand) ∙ sym h.header.signed in
      one_body_fault (order_of bytes) h.types (body_part bytes) f g h.at_fault (subst (λ (ts : Tys). IsBodyFault (order_of bytes) ts (body_part bytes) g) types k.at_fault)

  one_way : (f g : FrameFault) → Way bytes f → Way bytes g → f ≡ g
  one_way f g (inl h) (inl k) = h.1 ∙ ap (λ (code : ℕ). fault.Field code) (one_field_code h.0 k.0 h.2 k.2) ∙ sym k.1
  one_way f g (inl h) (inr (inl k)) = absurd (fields_or_header h.0 k.2.sent h.2 k.2.stand)
  one_way f g (inl h) (inr (inr k)) = absurd (fields_or_header h.0 k.header.sent h.2 k.header.stand)
  one_way f g (inr (inl h)) (inl k) = absurd (fields_or_header k.0 h.2.sent k.2 h.2.stand)
  one_way f g (inr (inl h)) (inr (inl k)) = h.1 ∙ ap (λ (code : ℕ). fault.Missing code) (one_lacking h.0 k.0 h.2 k.2) ∙ sym k.1
  one_way f g (inr (inl h)) (inr (inr k)) = absurd (lacking_or_body h.0 g h.2 k)
  one_way f g (inr (inr h)) (inl k) = absurd (fields_or_header k.0 h.header.sent k.2 h.header.stand)
  one_way f g (inr (inr h)) (inr (inl k)) = absurd (lacking_or_body k.0 f k.2 h)
  one_way f g (inr (inr h)) (inr (inr k)) = one_body f g h k

  pub one_refusal : (f g : FrameFault) → IsRefused bytes f → IsRefused bytes g → f ≡ g
  one_refusal f g h k = one_way f g (way bytes f h) (way bytes g k)

-- ## What the first bytes announce

-- the fields end within what is announced
fields_inside : (limit : ℕ) (bytes : List ℕ) (n : ℕ) → announced limit bytes ≡ Ok n → n ≤ length bytes → 16 ≤ length bytes → fields_end (take n bytes) ≤ length (take n bytes)
fields_inside limit bytes n told inside long =
    let size : length (take n bytes) ≡ n = length-take-le n bytes inside in
    let whole = announced_facts limit bytes n told in
    let enough : 16 ≤ length (take n bytes) = omega (arith, size, whole.length) in
    let again : announced limit (take n bytes) ≡ Ok n =
    sym (announced_append limit (take n bytes) (drop n bytes) enough) ∙ ap (λ (bs : List ℕ). announced limit bs) (take-append-drop n bytes) ∙ told in
    omega (arith, size, (announced_facts limit (take n bytes) n again).length)

pub one_judgement : (limit : ℕ) (bytes : List ℕ) (f g : FrameFault) → IsJudged limit f bytes → IsJudged limit g bytes → f ≡ g
one_judgement limit bytes f g h k = by_both h.1 k.1
  where
    by_both : (announced limit bytes ≡ Err f) ⊎ ((n : ℕ) × (announced limit bytes ≡ Ok n) × (n ≤ length bytes) × IsRefused (take n bytes) f) →
        (announced limit bytes ≡ Err g) ⊎ ((n : ℕ) × (announced limit bytes ≡ Ok n) × (n ≤ length bytes) × IsRefused (take n bytes) g) → f ≡ g
    by_both (inl wrong) (inl other) = err_is (announced limit bytes) f g wrong other
    by_both (inl wrong) (inr why) = not_both (announced limit bytes) why.0 f why.1 wrong
    by_both (inr why) (inl wrong) = not_both (announced limit bytes) why.0 g why.1 wrong
    by_both (inr why) (inr other) =
        let same : other.0 ≡ why.0 = same_number (announced limit bytes) other.0 why.0 other.1 why.1 in
        one_refusal (take why.0 bytes) (fields_inside limit bytes why.0 why.1 why.2 h.0) f g why.3 (subst (λ (n : ℕ). IsRefused (take n bytes) g) same other.3)
