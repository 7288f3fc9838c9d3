-- Reading one field of the header.
use Rattle.std.proofs.Common.{◌≡◌, ◌≢◌, ℕ, ◌+◌, ◌-◌, ◌%◌, ◌≤◌, ◌<◌, true, List, [], ◌∷◌, ◌++◌, length, get_or, take, drop, Option, Some, None, Ok, refl, sym, ap, subst, ◌∙◌, arith, length-drop}
use Rattle.std.specs.Prelude.{replicate, ◌==◌, if◌then◌else◌}
use Rattle.std.proofs.lemmas.List.{take-append-drop, length-take-le, length-take, take-take, drop-drop}
use Rattle.std.proofs.Math.Seq.{take-add}
use Rattle.marshal_core.specs.declared.order.Order.{Order}
use Rattle.marshal_core.specs.Types.{Tys}
use Rattle.marshal_core.specs.Values.{a_basic, Vals}
use Rattle.marshal_core.specs.Signatures.{codes, signature_of}
use Rattle.marshal_core.proofs.Results.{ok_is, both_true, eqb-yes}
use Rattle.marshal_core.proofs.TypesAgain.{signature_again}
use Rattle.marshal_core.specs.Spelling.{pad_len, pads, Spells}
use Rattle.message_core.specs.declared.header_field.HeaderField.{HeaderField}
use Rattle.message_core.specs.declared.header_field.HeaderField.TheVariants as field
use Rattle.message_core.specs.Kinds.{code_of}
use Rattle.message_core.specs.HeaderFields.{Field, IsBasicOf}
use Rattle.message_core.specs.BasicFields.{BeginsBasic, basic_field}
use Rattle.message_core.specs.Places.{part, SpellField, all_zero, BeginsField, IsRead}
use Rattle.message_core.proofs.Shape.{basic_spelled, padded_spelled, code_first, wrapped, unwrapped}

-- ---- codes

abbrev known : ℕ → Option HeaderField
known c =
    if c == 1 then Some field.Path else if c == 2 then Some field.Interface else if c == 3 then Some field.Member else if c == 4 then Some field.ErrorName
    else if c == 5 then Some field.ReplySerial else if c == 6 then Some field.Destination else if c == 7 then Some field.Sender else if c == 8 then Some field.Signature
    else if c == 9 then Some field.UnixFds else None

known_code : (k : HeaderField) → known (code_of k) ≡ Some k
known_code field.Path = refl
known_code field.Interface = refl
known_code field.Member = refl
known_code field.ErrorName = refl
known_code field.ReplySerial = refl
known_code field.Destination = refl
known_code field.Sender = refl
known_code field.Signature = refl
known_code field.UnixFds = refl

some_is : (j k : HeaderField) (o : Option HeaderField) → o ≡ Some j → o ≡ Some k → j ≡ k
some_is j k o e f = cc

-- no two fields have one code
pub same_field : (j k : HeaderField) → code_of j ≡ code_of k → j ≡ k
same_field j k e = some_is j k (known (code_of j)) (known_code j) (ap known e ∙ known_code k)

-- ---- parts of bytes

pub take_part : (bytes : List ℕ) (from end n : ℕ) → from ≤ end → end ≤ length bytes → n ≤ length (part from end bytes) → take n (part from end bytes) ≡ part from (from + n) bytes
take_part bytes from end n le in_bytes h =
    let size : length (part from end bytes) ≡ end - from = length-take-le (end - from) (drop from bytes) (omega (arith, length-drop from bytes)) in
    take-take n (end - from) (drop from bytes) (omega (arith, size)) ∙ ap (λ (k : ℕ). take k (drop from bytes)) (omega arith)

pub part_join : (bytes : List ℕ) (at from to : ℕ) → at ≤ from → from ≤ to → part at to bytes ≡ part at from bytes ++ part from to bytes
part_join bytes at from to le le2 =
    ap (λ (k : ℕ). take k (drop at bytes)) (omega arith) ∙ take-add (from - at) (to - from) (drop at bytes)
    ∙ ap (λ (x : List ℕ). take (from - at) (drop at bytes) ++ take (to - from) x) (drop-drop (from - at) at bytes ∙ ap (λ (k : ℕ). drop k bytes) (omega arith))

pub zeros : (bs : List ℕ) → all_zero bs ≡ true → bs ≡ replicate (length bs) 0
zeros [] e = refl
zeros (b ∷ bs) e = let h = both_true (b == 0) (all_zero bs) e in ap (λ (c : ℕ). c ∷ bs) (eqb-yes b 0 h.0) ∙ ap (λ (x : List ℕ). 0 ∷ x) (zeros bs h.1)

pub length_part : (bytes : List ℕ) (from to : ℕ) → from ≤ to → to ≤ length bytes → length (part from to bytes) ≡ to - from
length_part bytes from to le h = length-take-le (to - from) (drop from bytes) (omega (arith, length-drop from bytes))

-- ---- one field

-- a field of a name and a value that it takes
pub known_begins : (order : Order) (k : HeaderField) (code at n : ℕ) (bytes : List ℕ) → code ≡ code_of k → 0 < code → code < 256 → at % 8 ≡ 0 → BeginsBasic order k bytes n → BeginsField order at code bytes n
known_begins order k code at n bytes e positive fits aligned b = record {
  value = a_basic b.value;
  within = b.within;
  spelled = subst (λ (x : List ℕ). SpellField order at (record { code = code; value = a_basic b.value }) x) (ap (λ (c : ℕ). basic_field order c b.value) e ∙ sym b.spelled) (basic_spelled order at code b.value aligned fits b.takes.is_value);
  is_field = (positive, λ j f. subst (λ (x : HeaderField). IsBasicOf x b.value) (same_field k j (sym e ∙ f)) b.takes.taken);
}

pub wrapped_types : (ts : Tys) → signature_of (codes wrapped) ≡ Ok ts → ts ≡ wrapped
wrapped_types ts e = ok_is ts wrapped (sym e ∙ signature_again wrapped refl)

pub other_begins : (order : Order) (code at n : ℕ) (bytes : List ℕ) (ts : Tys) (vs : Vals) → 0 < code → ((k : HeaderField) → code ≢ code_of k) → at % 8 ≡ 0 → get_or bytes 0 0 ≡ code → signature_of (codes wrapped) ≡ Ok ts
    → n ≤ length bytes → Spells order at ts vs (take n bytes) → BeginsField order at code bytes n
other_begins order code at n bytes ts vs positive other aligned first e within h =
    let f = unwrapped vs order at (take n bytes) aligned (subst (λ (x : Tys). Spells order at x vs (take n bytes)) (wrapped_types ts e) h) in
    let front = code_first order at f.0 (take n bytes) aligned f.1 in
    let whole : bytes ≡ (f.0.code ∷ front.0) ++ drop n bytes = sym (take-append-drop n bytes) ∙ ap (λ (x : List ℕ). x ++ drop n bytes) front.1 in
    let coded : f.0.code ≡ code = sym (ap (λ (x : List ℕ). get_or x 0 0) whole) ∙ first in
    record {
      value = f.0.value;
      within = within;
      spelled = subst (λ (c : ℕ). SpellField order at (record { code = c; value = f.0.value }) (take n bytes)) coded f.1;
      is_field = (positive, λ k same. absurd (other k same));
    }

-- what is read of a field that stands behind its padding
pub is_read : (order : Order) (bytes : List ℕ) (at from end code n : ℕ) → at < end → from < end → end ≤ length bytes → from ≡ at + pad_len 8 at → all_zero (part at from bytes) ≡ true
    → BeginsField order from code (part from end bytes) n → IsRead order bytes at end (record { code = code; from = from; to = from + n })
is_read order bytes at from end code n begins inside ends e zero b =
    let f : Field = record { code = code; value = b.value } in
    let here : take n (part from end bytes) ≡ part from (from + n) bytes = take_part bytes from end n (omega arith) ends b.within in
    let size : length (part from end bytes) ≡ end - from = length_part bytes from end (omega arith) ends in
    let gap : part at from bytes ≡ pads 8 at = zeros (part at from bytes) zero ∙ ap (λ (k : ℕ). replicate k 0) (length_part bytes at from (omega (arith, e)) (omega arith) ∙ omega (arith, e)) in
    let spelled : SpellField order from f (part from (from + n) bytes) = subst (SpellField order from f) here b.spelled in
    let front = code_first order from f (take n (part from end bytes)) (omega (arith, e)) b.spelled in
    let positive : 0 < n = omega (arith, length-take n (part from end bytes), ap length front.1) in
    record {
      field = f;
      spelled = subst (SpellField order at f) (ap (λ (x : List ℕ). x ++ part from (from + n) bytes) (sym gap) ∙ sym (part_join bytes at from (from + n) (omega (arith, e)) (omega arith)))
          (padded_spelled order at f (part from (from + n) bytes) (subst (λ (p : ℕ). SpellField order p f (part from (from + n) bytes)) e spelled));
      placed = record { code = refl; aligned = omega (arith, e); begins = omega arith; ends = omega (arith, size, b.within); spelled = spelled; is_field = b.is_field };
      after = omega (arith, e, positive);
      within = omega (arith, size, b.within);
    }
