-- Fields that do not begin where they are looked for.
use Rattle.std.proofs.Common.{◌≡◌, ℕ, zero, suc, ◌+◌, ◌-◌, ◌%◌, ◌≤◌, ◌<◌, Bool, true, false, List, [], ◌∷◌, ◌++◌, length, get_or, take, drop, Option, Some, None, Result, Ok, Err, refl, sym, ap, subst, ◌∙◌, append_assoc, arith, lit<, add-zero, get_or-take}
use Rattle.std.specs.Prelude.{replicate, is_some}
use Rattle.std.proofs.lemmas.List.{append-nil, take_at, drop_at, length-append, length-replicate, get_or_past, get_or-drop}
use Rattle.marshal_core.specs.declared.fault.MarshalFault.{MarshalFault}
use Rattle.marshal_core.specs.declared.fault.MarshalFault.TheVariants.{Truncated}
use Rattle.marshal_core.specs.declared.order.Order.{Order}
use Rattle.marshal_core.specs.Types.{Tys}
use Rattle.marshal_core.specs.Values.{Val, a_basic, a_variant, an_array, an_entry, a_struct, no_values, more_values}
use Rattle.marshal_core.specs.Signatures.{codes, signature_of}
use Rattle.marshal_core.specs.Spelling.{pad_len, pads, SpellFields, Spells}
use Rattle.marshal_core.specs.Reading.{decode_at, value_at}
use Rattle.marshal_core.proofs.Results.{ok_is, done}
use Rattle.marshal_core.proofs.TypesAgain.{signature_again}
use Rattle.marshal.proofs.Decoded.{is_read as is_decoded}
use Rattle.marshal.proofs.ValuesAgain.{nonempty, value_again}
use Rattle.message_core.specs.declared.fault.FrameFault.{FrameFault}
use Rattle.message_core.specs.declared.fault.FrameFault.TheVariants as fault
use Rattle.message_core.specs.declared.field_place.FieldPlace.{FieldPlace}
use Rattle.message_core.specs.declared.header_field.HeaderField.{HeaderField}
use Rattle.message_core.specs.Announcements.{fixed_length}
use Rattle.message_core.specs.Kinds.{code_of}
use Rattle.message_core.specs.HeaderFields.{Field, field_type, field_value, IsValueOf, value_of, by_code}
use Rattle.message_core.specs.BasicFields.{basic_field, BeginsNoBasic}
use Rattle.message_core.specs.Said.{field_in}
use Rattle.message_core.specs.Places.{part, SpellField, field_depth, all_zero, code_at, BeginsNoField, IsRead, AreSpelled, HaveFields, HaveInOrder, FaultyFields, IsFieldFault, IsUnread, IsTwice, has_code}
use Rattle.message_core.proofs.Shape.{spelled_basic, code_first, wrapped, field_parts, field_part_types}
use Rattle.message_core.proofs.FieldReading.{part_join, length_part, take_part, wrapped_types}
use Rattle.message_core.proofs.Sorting.{value_by_code, is_placed}

-- ---- a field where it begins at a multiple of eight

no_basic : (order : Order) (k : HeaderField) (at code : ℕ) (v : Val) (bytes front more : List ℕ) → at % 8 ≡ 0 → code ≡ code_of k → BeginsNoBasic order k bytes → bytes ≡ front ++ more
    → SpellField order at (record { code = code; value = v }) front → IsValueOf k v → ⊥
no_basic order k at code (a_basic v) bytes front more aligned coded none e spelled is =
    let s = spelled_basic order at code v front aligned spelled in
    none v more (record { is_value = s.0; taken = is }) (e ∙ ap (λ (x : List ℕ). x ++ more) (s.1 ∙ ap (λ (c : ℕ). basic_field order c v) coded))
no_basic order k at code (a_variant v) bytes front more aligned coded none e spelled is = absurd is
no_basic order k at code (an_array t vs) bytes front more aligned coded none e spelled is = absurd is
no_basic order k at code (an_entry j v) bytes front more aligned coded none e spelled is = absurd is
no_basic order k at code (a_struct vs) bytes front more aligned coded none e spelled is = absurd is

-- the first byte is the code
first_code : (order : Order) (at : ℕ) (f : Field) (bytes front more : List ℕ) → at % 8 ≡ 0 → bytes ≡ front ++ more → SpellField order at f front → get_or bytes 0 0 ≡ f.code
first_code order at f bytes front more aligned e spelled =
    let c = code_first order at f front aligned spelled in
    ap (λ (x : List ℕ). get_or x 0 0) (e ∙ ap (λ (x : List ℕ). x ++ more) c.1)

pub no_known : (order : Order) (k : HeaderField) (at : ℕ) (bytes : List ℕ) → at % 8 ≡ 0 → get_or bytes 0 0 ≡ code_of k → BeginsNoBasic order k bytes → BeginsNoField order at bytes
no_known order k at bytes aligned first none = λ f front more e spelled is.
    let coded : f.code ≡ code_of k = sym (first_code order at f bytes front more aligned e spelled) ∙ first in
    no_basic order k at f.code f.value bytes front more aligned coded none e spelled (is.1 k coded)

-- no field has the code 0
pub no_zero_code : (order : Order) (at : ℕ) (bytes : List ℕ) → at % 8 ≡ 0 → get_or bytes 0 0 ≡ 0 → BeginsNoField order at bytes
no_zero_code order at bytes aligned first = λ f front more e spelled is. omega (arith, is.0, first_code order at f bytes front more aligned e spelled, first)

-- ---- a field that is decoded within a struct

wrap : (order : Order) (at : ℕ) (f : Field) (front : List ℕ) → at % 8 ≡ 0 → SpellField order at f front → Spells order at wrapped (more_values (a_struct (more_values (field_value f) no_values)) no_values) front
wrap order at f front aligned spelled =
    let place : at ≡ at + pad_len 8 at = omega (arith, aligned) in
    let none : 0 ≡ pad_len 8 at = omega (arith, aligned) in
    let gap : [] ≡ pads 8 at = ap (λ (k : ℕ). replicate k 0) none in
    let inner : SpellField order (at + pad_len 8 at) f front = subst (λ (n : ℕ). SpellField order n f front) place spelled in (
      refl,
      (front, [], (lit< tt, refl, front, (front, [], inner, refl, sym (append-nil front)), ap (λ (x : List ℕ). x ++ front) gap), refl, sym (append-nil front)),
    )

decodes : (order : Order) (at : ℕ) (f : Field) (bytes front more : List ℕ) → at % 8 ≡ 0 → bytes ≡ front ++ more → SpellField order at f front
    → decode_at order wrapped at bytes ≡ Ok (more_values (a_struct (more_values (field_value f) no_values)) no_values, length front)
decodes order at f bytes front more aligned e spelled =
    is_decoded order wrapped at bytes front more (more_values (a_struct (more_values (field_value f) no_values)) no_values) e (wrap order at f front aligned spelled)

abbrev bad : {A : Type 0} → MarshalFault → Result A MarshalFault
bad e = Err e

not_both : {A : Type 0} → (x : A) (e : MarshalFault) → done x ≡ bad e → ⊥
not_both x e h = cc

pub wrapped_signs : (e : MarshalFault) → signature_of (codes wrapped) ≡ Err e → ⊥
wrapped_signs e wrong = not_both wrapped e (sym (signature_again wrapped refl) ∙ wrong)

pub no_other : (order : Order) (at : ℕ) (bytes : List ℕ) (ts : Tys) (e : MarshalFault) → at % 8 ≡ 0 → signature_of (codes wrapped) ≡ Ok ts → decode_at order ts at bytes ≡ Err e → BeginsNoField order at bytes
no_other order at bytes ts e aligned signed wrong = λ f front more whole spelled is.
    not_both (more_values (a_struct (more_values (field_value f) no_values)) no_values, length front) e
    (sym (decodes order at f bytes front more aligned whole spelled) ∙ ap (λ (x : Tys). decode_at order x at bytes) (sym (wrapped_types ts signed)) ∙ wrong)

-- ---- a field behind its padding

pub unpadded : (order : Order) (at : ℕ) (f : Field) (front : List ℕ) → SpellField order at f front → (inside : List ℕ) × SpellField order (at + pad_len 8 at) f inside × (front ≡ pads 8 at ++ inside)
unpadded order at f front h =
    let place : at + pad_len 8 at ≡ at + pad_len 8 at + pad_len 8 (at + pad_len 8 at) = omega arith in
    let none : 0 ≡ pad_len 8 (at + pad_len 8 at) = omega arith in (
      h.2,
      (h.0, h.1, h.2, subst (λ (n : ℕ). SpellFields (field_parts f) 62 order n field_part_types h.2) place h.3, ap (λ (k : ℕ). replicate k 0 ++ h.2) none),
      h.4,
    )

length-pads : (at : ℕ) → length (pads 8 at) ≡ pad_len 8 at
length-pads at = length-replicate (pad_len 8 at) 0

-- a field takes more than its padding
longer : (order : Order) (at : ℕ) (f : Field) (front : List ℕ) → SpellField order at f front → pad_len 8 at < length front
longer order at f front h =
    let u = unpadded order at f front h in
    let more : 0 < length u.0 = nonempty (field_value f) field_depth order (at + pad_len 8 at) field_type u.0 u.1 in
    omega (arith, ap length u.2, length-append (pads 8 at) u.0, length-pads at, more)

pub no_room : (order : Order) (at : ℕ) (bytes : List ℕ) → length bytes ≤ pad_len 8 at → BeginsNoField order at bytes
no_room order at bytes short = λ f front more e spelled is. omega (arith, short, longer order at f front spelled, ap length e, length-append front more)

pub zeros_are : (n : ℕ) → all_zero (replicate n 0) ≡ true
zeros_are zero = refl
zeros_are (suc n) = zeros_are n

pub not_so : (b : Bool) → b ≡ true → b ≡ false → ⊥
not_so b h k = let e : true ≡ false = sym h ∙ k in cc

pub no_padding : (order : Order) (at : ℕ) (bytes : List ℕ) → all_zero (take (pad_len 8 at) bytes) ≡ false → BeginsNoField order at bytes
no_padding order at bytes loose = λ f front more e spelled is.
    let u = unpadded order at f front spelled in
    let whole : bytes ≡ pads 8 at ++ (u.0 ++ more) = e ∙ ap (λ (x : List ℕ). x ++ more) u.2 ∙ append_assoc (pads 8 at) u.0 more in
    let gap : take (pad_len 8 at) bytes ≡ pads 8 at = ap (take (pad_len 8 at)) whole ∙ take_at (pads 8 at) (u.0 ++ more) (pad_len 8 at) (length-pads at) in
    not_so (all_zero (take (pad_len 8 at) bytes)) (ap all_zero gap ∙ zeros_are (pad_len 8 at)) loose

-- where none begins behind the padding
pub no_field_behind : (order : Order) (at : ℕ) (bytes : List ℕ) → BeginsNoField order (at + pad_len 8 at) (drop (pad_len 8 at) bytes) → BeginsNoField order at bytes
no_field_behind order at bytes none = λ f front more e spelled is.
    let u = unpadded order at f front spelled in
    let whole : bytes ≡ pads 8 at ++ (u.0 ++ more) = e ∙ ap (λ (x : List ℕ). x ++ more) u.2 ∙ append_assoc (pads 8 at) u.0 more in
    none f u.0 more (ap (drop (pad_len 8 at)) whole ∙ drop_at (pads 8 at) (u.0 ++ more) (pad_len 8 at) (length-pads at)) u.1 is

-- ---- the code that is told

pub told_none : (at : ℕ) (rest : List ℕ) → length rest ≤ pad_len 8 at → 0 ≡ code_at at rest
told_none at rest short = at_test (all_zero (take (pad_len 8 at) rest)) refl where
  at_test : (b : Bool) → all_zero (take (pad_len 8 at) rest) ≡ b → 0 ≡ code_at at rest
  at_test true e = rw e (sym (get_or_past rest (pad_len 8 at) 0 short))
  at_test false e = rw e refl

pub told_loose : (at : ℕ) (rest : List ℕ) → all_zero (take (pad_len 8 at) rest) ≡ false → 0 ≡ code_at at rest
told_loose at rest e = rw e refl

pub told_code : (at code : ℕ) (rest : List ℕ) → all_zero (take (pad_len 8 at) rest) ≡ true → code ≡ get_or (drop (pad_len 8 at) rest) 0 0 → code ≡ code_at at rest
told_code at code rest e first = rw e (first ∙ get_or-drop (pad_len 8 at) rest 0 0 ∙ ap (λ (i : ℕ). get_or rest i 0) (add-zero (pad_len 8 at)))

-- the code of a field that begins the bytes
pub spelled_code : (order : Order) (at : ℕ) (f : Field) (bytes front more : List ℕ) → bytes ≡ front ++ more → SpellField order at f front → f.code ≡ code_at at bytes
spelled_code order at f bytes front more e spelled =
    let u = unpadded order at f front spelled in
    let whole : bytes ≡ pads 8 at ++ (u.0 ++ more) = e ∙ ap (λ (x : List ℕ). x ++ more) u.2 ∙ append_assoc (pads 8 at) u.0 more in
    let gap : take (pad_len 8 at) bytes ≡ pads 8 at = ap (take (pad_len 8 at)) whole ∙ take_at (pads 8 at) (u.0 ++ more) (pad_len 8 at) (length-pads at) in
    let behind : drop (pad_len 8 at) bytes ≡ u.0 ++ more = ap (drop (pad_len 8 at)) whole ∙ drop_at (pads 8 at) (u.0 ++ more) (pad_len 8 at) (length-pads at) in
    let first : get_or (drop (pad_len 8 at) bytes) 0 0 ≡ f.code = first_code order (at + pad_len 8 at) f (drop (pad_len 8 at) bytes) u.0 more (omega arith) behind u.1 in
    told_code at f.code bytes (ap all_zero gap ∙ zeros_are (pad_len 8 at)) (sym first)

-- ---- parts of the bytes

pub gap_part : (bytes : List ℕ) (at from end : ℕ) → from ≡ at + pad_len 8 at → from ≤ end → end ≤ length bytes → take (pad_len 8 at) (part at end bytes) ≡ part at from bytes
gap_part bytes at from end e inside ends =
    let size : length (part at end bytes) ≡ end - at = length_part bytes at end (omega (arith, e, inside)) ends in
    take_part bytes at end (pad_len 8 at) (omega (arith, e, inside)) ends (omega (arith, size, e, inside)) ∙ ap (λ (k : ℕ). part at k bytes) (sym e)

pub rest_part : (bytes : List ℕ) (at from end : ℕ) → from ≡ at + pad_len 8 at → from ≤ end → end ≤ length bytes → drop (pad_len 8 at) (part at end bytes) ≡ part from end bytes
rest_part bytes at from end e inside ends =
    let size : length (part at from bytes) ≡ pad_len 8 at = length_part bytes at from (omega (arith, e)) (omega (arith, inside, ends)) ∙ omega (arith, e) in
    ap (drop (pad_len 8 at)) (part_join bytes at from end (omega (arith, e)) inside) ∙ drop_at (part at from bytes) (part from end bytes) (pad_len 8 at) size

-- ---- a known field that stands twice

abbrev first_of : Field → List Field → Field
first_of f [] = f
first_of f (g ∷ gs) = g

same_length : (at m n : ℕ) → at + m ≡ at + n → n ≡ m
same_length at m n e = omega (arith, e)

-- bytes begin with one field
pub one_field : (order : Order) (at : ℕ) (f g : Field) (a b x y : List ℕ) → SpellField order at f a → SpellField order at g b → a ++ x ≡ b ++ y → (a ≡ b) × (f ≡ g)
one_field order at f g a b x y h k e =
    let p = value_again (field_value f) field_depth order Truncated at field_type a x h in
    let q = value_again (field_value g) field_depth order Truncated at field_type b y k in
    let both : done (field_value f, at + length a, x) ≡ done (field_value g, at + length b, y) = sym p ∙ ap (value_at field_depth order Truncated field_type at) e ∙ q in
    let same = ok_is (field_value f, at + length a, x) (field_value g, at + length b, y) both in
    let len = same_length at (length a) (length b) (ap (λ (z : Val × ℕ × List ℕ). z.1) same) in (
      sym (take_at a x (length a) refl) ∙ ap (take (length a)) e ∙ take_at b y (length a) len,
      ap (λ (z : Val × ℕ × List ℕ). first_of f (field_in z.0)) same,
    )

there : (o : Option Val) → is_some o ≡ true → o ≡ None → ⊥
there (Some v) h e = cc
there None h e = cc

twice_sent : (order : Order) (bytes : List ℕ) (at end : ℕ) (sent : List Field) (p : FieldPlace) (k : HeaderField) → fixed_length ≤ at → at < end → end ≤ length bytes → AreSpelled order bytes at sent → IsRead order bytes at end p
    → p.code ≡ code_at at (part at end bytes) → p.code ≡ code_of k → is_some (value_of k sent) ≡ true → FaultyFields order bytes end p.code
twice_sent order bytes at end sent p k begins before ends spelled r told coded known =
    let whole : part at end bytes ≡ part at p.to bytes ++ part p.to end bytes = part_join bytes at p.to end (omega (arith, r.after)) r.within in
    record {
      at = at;
      sent = sent;
      within = (begins, before);
      before = spelled;
      none = λ f front more e is may.
          let same = one_field order at r.field f (part at p.to bytes) front (part p.to end bytes) more r.spelled is (sym whole ∙ e) in
          there (value_of k sent) known (may.1 k (ap (λ (x : Field). x.code) (sym same.1) ∙ sym r.placed.code ∙ coded));
      told = told;
    }

pub twice : (order : Order) (bytes : List ℕ) (at end : ℕ) (ps : List FieldPlace) (p : FieldPlace) (k : HeaderField) → fixed_length ≤ at → at < end → end ≤ length bytes → (h : HaveFields order bytes at ps) → IsRead order bytes at end p
    → p.code ≡ code_at at (part at end bytes) → p.code ≡ code_of k → has_code p.code ps ≡ true → FaultyFields order bytes end p.code
twice order bytes at end ps p k begins before ends h r told coded has =
    let known : is_some (value_of k h.sent) ≡ true = ap is_some (sym (value_by_code k h.sent)) ∙ is_placed order bytes k ps (by_code h.sent) h.placed ∙ ap (λ (c : ℕ). has_code c ps) (sym coded) ∙ has in
    twice_sent order bytes at end h.sent p k begins before ends h.spelled r told coded known

twice_in_order : (order : Order) (bytes : List ℕ) (at end : ℕ) (ps : List FieldPlace) (p : FieldPlace) (k : HeaderField) → fixed_length ≤ at → at < end → end ≤ length bytes → (h : HaveInOrder order bytes at ps) → IsRead order bytes at end p
    → p.code ≡ code_at at (part at end bytes) → p.code ≡ code_of k → has_code p.code ps ≡ true → FaultyFields order bytes end p.code
twice_in_order order bytes at end ps p k begins before ends h r told coded has =
    let known : is_some (value_of k h.sent) ≡ true = is_placed order bytes k ps h.sent h.placed ∙ ap (λ (c : ℕ). has_code c ps) (sym coded) ∙ has in
    twice_sent order bytes at end h.sent p k begins before ends h.spelled r told coded known

-- no field begins
unread_sent : (order : Order) (bytes : List ℕ) (at end code : ℕ) (sent : List Field) → fixed_length ≤ at → at < end → AreSpelled order bytes at sent → code ≡ code_at at (part at end bytes) → BeginsNoField order at (part at end bytes)
    → FaultyFields order bytes end code
unread_sent order bytes at end code sent begins before spelled told none = record {
  at = at;
  sent = sent;
  within = (begins, before);
  before = spelled;
  none = λ f front more e is may. none f front more e is may.0;
  told = told;
}

-- ---- where the code stands within the bytes

first_part : (bytes : List ℕ) (from end : ℕ) → from < end → end ≤ length bytes → get_or (part from end bytes) 0 0 ≡ get_or bytes from 0
first_part bytes from end inside ends =
    get_or-take (end - from) (drop from bytes) 0 0 (omega (arith, inside)) ∙ get_or-drop from bytes 0 0 ∙ ap (λ (i : ℕ). get_or bytes i 0) (add-zero from)

pub told_behind : (bytes : List ℕ) (at from end : ℕ) → from ≡ at + pad_len 8 at → from < end → end ≤ length bytes → all_zero (part at from bytes) ≡ true → get_or bytes from 0 ≡ code_at at (part at end bytes)
told_behind bytes at from end e inside ends clean =
    told_code at (get_or bytes from 0) (part at end bytes) (ap all_zero (gap_part bytes at from end e (omega (arith, inside)) ends) ∙ clean)
    (sym (first_part bytes from end inside ends) ∙ ap (λ (x : List ℕ). get_or x 0 0) (sym (rest_part bytes at from end e (omega (arith, inside)) ends)))

pub none_behind : (order : Order) (bytes : List ℕ) (at from end : ℕ) → from ≡ at + pad_len 8 at → from < end → end ≤ length bytes → BeginsNoField order from (part from end bytes) → BeginsNoField order at (part at end bytes)
none_behind order bytes at from end e inside ends none =
    no_field_behind order at (part at end bytes)
    (subst (λ (n : ℕ). BeginsNoField order n (drop (pad_len 8 at) (part at end bytes))) e (subst (BeginsNoField order from) (sym (rest_part bytes at from end e (omega (arith, inside)) ends)) none))

pub zero_behind : (order : Order) (bytes : List ℕ) (at from end : ℕ) → from ≡ at + pad_len 8 at → from < end → end ≤ length bytes → get_or bytes from 0 ≡ 0 → BeginsNoField order at (part at end bytes)
zero_behind order bytes at from end e inside ends first =
    none_behind order bytes at from end e inside ends (no_zero_code order from (part from end bytes) (omega (arith, e)) (first_part bytes from end inside ends ∙ first))

-- ---- the fault of the field array

sent_unread_fault : (order : Order) (bytes : List ℕ) (at end : ℕ) (sent : List Field) (f : FrameFault) → fixed_length ≤ at → at < end → AreSpelled order bytes at sent → IsUnread order bytes at end f → IsFieldFault order bytes end f
sent_unread_fault order bytes at end sent (fault.Field code) begins before h u = unread_sent order bytes at end code sent begins before h u.0 u.1
sent_unread_fault order bytes at end sent f begins before h u = absurd u

pub unread_fault : (order : Order) (bytes : List ℕ) (at end : ℕ) (ps : List FieldPlace) (f : FrameFault) → fixed_length ≤ at → at < end → HaveFields order bytes at ps → IsUnread order bytes at end f → IsFieldFault order bytes end f
unread_fault order bytes at end ps f begins before h u = sent_unread_fault order bytes at end h.sent f begins before h.spelled u

pub unread_in_order : (order : Order) (bytes : List ℕ) (at end : ℕ) (ps : List FieldPlace) (f : FrameFault) → fixed_length ≤ at → at < end → HaveInOrder order bytes at ps → IsUnread order bytes at end f → IsFieldFault order bytes end f
unread_in_order order bytes at end ps f begins before h u = sent_unread_fault order bytes at end h.sent f begins before h.spelled u

pub twice_fault : (order : Order) (bytes : List ℕ) (at end : ℕ) (ps : List FieldPlace) (p : FieldPlace) (f : FrameFault) → fixed_length ≤ at → at < end → end ≤ length bytes → HaveFields order bytes at ps → IsRead order bytes at end p
    → p.code ≡ code_at at (part at end bytes) → IsTwice ps p.code f → IsFieldFault order bytes end f
twice_fault order bytes at end ps p (fault.Field code) begins before ends h r told t =
    subst (FaultyFields order bytes end) (sym t.0) (twice order bytes at end ps p t.1 begins before ends h r told t.2 t.3)
twice_fault order bytes at end ps p f begins before ends h r told t = absurd t

pub twice_in_order_fault : (order : Order) (bytes : List ℕ) (at end : ℕ) (ps : List FieldPlace) (p : FieldPlace) (f : FrameFault) → fixed_length ≤ at → at < end → end ≤ length bytes → HaveInOrder order bytes at ps → IsRead order bytes at end p
    → p.code ≡ code_at at (part at end bytes) → IsTwice ps p.code f → IsFieldFault order bytes end f
twice_in_order_fault order bytes at end ps p (fault.Field code) begins before ends h r told t =
    subst (FaultyFields order bytes end) (sym t.0) (twice_in_order order bytes at end ps p t.1 begins before ends h r told t.2 t.3)
twice_in_order_fault order bytes at end ps p f begins before ends h r told t = absurd t
