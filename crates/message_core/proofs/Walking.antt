-- Reading the fields of the header one after the other.
use Rattle.std.proofs.Common.{◌≡◌, ℕ, ◌+◌, ◌-◌, ◌≤◌, false, List, [], ◌∷◌, ◌++◌, length, refl, sym, ap, subst, ◌∙◌, append_assoc, arith}
use Rattle.std.specs.Prelude.{map, insert}
use Rattle.std.proofs.lemmas.List.{length-append, append-nil}
use Rattle.marshal_core.specs.declared.order.Order.{Order}
use Rattle.marshal_core.specs.Values.{values}
use Rattle.marshal_core.specs.Spelling.{SpellElements}
use Rattle.message_core.specs.declared.field_place.FieldPlace.{FieldPlace}
use Rattle.message_core.specs.declared.header_field.HeaderField.{HeaderField}
use Rattle.message_core.specs.Announcements.{fixed_length}
use Rattle.message_core.specs.Kinds.{code_of}
use Rattle.message_core.specs.HeaderFields.{Field, field_type, field_value, MayFollow, AreFields, by_code}
use Rattle.message_core.specs.Places.{part, SpellField, field_depth, IsPlaced, ArePlaced, IsRead, IsAdded, HaveFields, rank, has_code}
use Rattle.message_core.proofs.FieldReading.{part_join, length_part}
use Rattle.message_core.proofs.Sorting.{placed_last, none_placed, value_by_code}

pub elements_last : (order : Order) (at : ℕ) (fs : List Field) (f : Field) (a b : List ℕ) → SpellElements (values (map field_value fs)) field_depth order at field_type a → SpellField order (at + length a) f b
    → SpellElements (values (map field_value (fs ++ f ∷ []))) field_depth order at field_type (a ++ b)
elements_last order at [] f a b h k =
    (b, [], subst (λ (n : ℕ). SpellField order n f b) (ap (λ (x : List ℕ). at + length x) h ∙ omega arith) k, refl, ap (λ (x : List ℕ). x ++ b) h ∙ sym (append-nil b))
elements_last order at (g ∷ gs) f a b h k =
    let place : at + length a ≡ at + length h.0 + length h.1 = omega (arith, ap length h.4, length-append h.0 h.1) in
    (h.0, h.1 ++ b, h.2, elements_last order (at + length h.0) gs f h.1 b h.3 (subst (λ (n : ℕ). SpellField order n f b) place k), ap (λ (x : List ℕ). x ++ b) h.4 ∙ append_assoc h.0 h.1 b)

pub fields_last : (before fs : List Field) (f : Field) → AreFields before fs → MayFollow (before ++ fs) f → AreFields before (fs ++ f ∷ [])
fields_last before [] f h k = (subst (λ (x : List Field). MayFollow x f) (append-nil before) k, tt)
fields_last before (g ∷ gs) f h k = (h.0, fields_last (before ++ g ∷ []) gs f h.1 (subst (λ (x : List Field). MayFollow x f) (sym (append_assoc before (g ∷ []) gs)) k))

-- a field that is added
pub added : (order : Order) (bytes : List ℕ) (sent : List Field) (f : Field) (ps : List FieldPlace) (p : FieldPlace) → ((k : HeaderField) → p.code ≡ code_of k → has_code p.code ps ≡ false)
    → ArePlaced order bytes ps (by_code sent) → IsPlaced order bytes p f → IsAdded order bytes sent f (insert ps (rank p.code ps) p)
added order bytes sent f ps p once h k = (
  (k.is_field, λ j e. sym (value_by_code j sent) ∙ none_placed order bytes j ps (by_code sent) h (subst (λ (c : ℕ). has_code c ps ≡ false) (k.code ∙ e) (once j (k.code ∙ e)))),
  placed_last order bytes ps sent p f h k,
)

-- the fields with one more
pub have_more : (order : Order) (bytes : List ℕ) (at end : ℕ) (before ps : List FieldPlace) (p : FieldPlace) → fixed_length ≤ at → end ≤ length bytes → (h : HaveFields order bytes at before) → (r : IsRead order bytes at end p)
    → IsAdded order bytes h.sent r.field ps → HaveFields order bytes p.to ps
have_more order bytes at end before ps p begins ends h r a =
    let to : at ≤ p.to = omega (arith, r.after) in
    let size : length (part fixed_length at bytes) ≡ at - fixed_length = length_part bytes fixed_length at begins (omega (arith, r.after, r.within)) in
    let place : fixed_length + length (part fixed_length at bytes) ≡ at = omega (arith, size, begins) in
    record {
      sent = h.sent ++ r.field ∷ [];
      spelled = record {
        spelled = subst (λ (x : List ℕ). SpellElements (values (map field_value (h.sent ++ r.field ∷ []))) field_depth order fixed_length field_type x) (sym (part_join bytes fixed_length at p.to begins to))
            (elements_last order fixed_length h.sent r.field (part fixed_length at bytes) (part at p.to bytes) h.spelled.spelled (subst (λ (n : ℕ). SpellField order n r.field (part at p.to bytes)) (sym place) r.spelled));
        permitted = fields_last [] h.sent r.field h.spelled.permitted a.0;
      };
      placed = a.1;
    }
