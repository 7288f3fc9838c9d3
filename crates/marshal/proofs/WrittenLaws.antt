-- What is written is a spelling of the values, and what has a spelling is written.
use Rattle.std.proofs.Common.{◌≡◌, ℕ, ◌-◌, ◌+◌, ◌%◌, ◌≤◌, ◌<◌, true, false, cond, eqb, ltb, Option, Some, None, List, [], ◌++◌, length, Ok, Err, refl, sym, ap, subst, ◌∙◌, append_assoc, arith}
use Rattle.std.proofs.lemmas.Bool.Decides.{nat_tests}
use Rattle.std.proofs.lemmas.List.{length-append, append-nil, length-replicate}
use Rattle.std.proofs.lemmas.Slice.Eq.{bytes_eq-Decides}
use Rattle.names.specs.Texts.{text_eq}
use Rattle.marshal_core.specs.declared.fault.MarshalFault.{MarshalFault}
use Rattle.marshal_core.specs.declared.fault.MarshalFault.TheVariants.{Signature, ArrayLength, Depth}
use Rattle.marshal_core.specs.declared.order.Order.{Order}
use Rattle.marshal_core.specs.Types.{Ty, Tys, one_type}
use Rattle.marshal_core.specs.Values.{BasicVal, Val, a_basic, a_variant, an_array, an_entry, a_struct, Vals, no_values, more_values}
use Rattle.marshal_core.specs.Signatures.{code, codes, has_types, IsSignature, signature_of}
use Rattle.marshal_core.specs.Spelling.{alignment, pad_len, pads, signature_spelling, first_place, basic_spelling, max_array_length, IsBasicValue, SpellValue, SpellElements, SpellFields, Spells}
use Rattle.marshal_core.specs.Faults.{◌>>=◌}
use Rattle.marshal_core.proofs.Results.{bind_ok, guard_ok, guard_else, ok_is}
use Rattle.marshal_core.proofs.TypesTaken.{signature_takes}
use Rattle.marshal.specs.Writing.{type_of, types_of_values, basic_fault, unless_fault, basic_written, padded, array_bytes, array_written, variant_type_written, value_written, elements_written, fields_written, encode_at}
use Rattle.marshal.proofs.Moves.{elements_move, fields_move}
use Rattle.marshal.proofs.TypeCodes.{same_type, same_types}
use Rattle.marshal.proofs.WrittenBasics.{basic_is}

-- a code that is a signature's text
pub is_valid : (t : Ty) (ts : Tys) → signature_of (code t) ≡ Ok ts → IsSignature (one_type t)
is_valid t ts e =
    let p = signature_takes (code t) ts e in
    subst IsSignature (same_types ts (one_type t) (sym p.1 ∙ sym (append-nil (code t)))) p.0

are_valid : (us ts : Tys) → signature_of (codes us) ≡ Ok ts → IsSignature us
are_valid us ts e = let p = signature_takes (codes us) ts e in subst IsSignature (same_types ts us (sym p.1)) p.0

-- written after these bytes
abbrev WroteValue : Val → ℕ → Order → ℕ → List ℕ → List ℕ → Type 0
WroteValue v d order at out total = (b : List ℕ) × (total ≡ out ++ b) × SpellValue v d order (at + length out) (type_of v) b

abbrev WroteElements : Vals → ℕ → Order → ℕ → Ty → List ℕ → List ℕ → Type 0
WroteElements vs d order at t out total = (b : List ℕ) × (total ≡ out ++ b) × SpellElements vs d order (at + length out) t b

abbrev WroteFields : Vals → ℕ → Order → ℕ → List ℕ → List ℕ → Type 0
WroteFields vs d order at out total = (b : List ℕ) × (total ≡ out ++ b) × SpellFields vs d order (at + length out) (types_of_values vs) b

positive : (d : ℕ) → eqb d 0 ≡ false → 0 < d
positive d e = grind (arith, nat_tests)

not_more : (a b : ℕ) → ltb a b ≡ false → b ≤ a
not_more a b e = grind (arith, nat_tests)

pub place_padded : (at : ℕ) (out : List ℕ) → at + length (padded 8 at out) ≡ at + length out + pad_len 8 (at + length out)
place_padded at out = omega (arith, length-append out (pads 8 (at + length out)), length-replicate {A = ℕ} (pad_len 8 (at + length out)) 0)

-- ---- what is written is a spelling

unless_ok : (f : Option MarshalFault) (out total : List ℕ) → unless_fault f out ≡ Ok total → (f ≡ None) × (out ≡ total)
unless_ok None out total e = (refl, ok_is out total e)
unless_ok (Some fault) out total e = absurd cc

wrote_basic : (v : BasicVal) (order : Order) (at : ℕ) (out total : List ℕ) → basic_written order at v out ≡ Ok total → (total ≡ out ++ basic_spelling order (at + length out) v) × IsBasicValue v
unfolding basic_written
wrote_basic v order at out total e = let a = unless_ok (basic_fault v) (out ++ basic_spelling order (at + length out) v) total e in (sym a.1, basic_is v a.0)

wrote_variant_type : (t : Ty) (out total : List ℕ) → variant_type_written t out ≡ Ok total → IsSignature (one_type t) × (total ≡ out ++ signature_spelling (one_type t))
unfolding variant_type_written
wrote_variant_type t out total e =
    let a = bind_ok (signature_of (code t)) (λ ts. Ok (out ++ signature_spelling (one_type t))) total e in
    (is_valid t a.0 a.1, sym (ok_is (out ++ signature_spelling (one_type t)) total a.2))

wrote_array : (order : Order) (align at : ℕ) (out inside total : List ℕ) → array_written order align at out inside ≡ Ok total → (length inside ≤ max_array_length) × (total ≡ out ++ array_bytes order align (at + length out) inside)
unfolding array_written
wrote_array order align at out inside total e =
    let a = guard_ok (ltb max_array_length (length inside)) ArrayLength (Ok (out ++ array_bytes order align (at + length out) inside)) total e in
    (not_more max_array_length (length inside) a.0, sym (ok_is (out ++ array_bytes order align (at + length out) inside) total a.1))

same_code : (t u : Ty) → text_eq (code t) (code u) ≡ true → t ≡ u
same_code t u e = same_type t u ((bytes_eq-Decides (code t) (code u)).0 e)

-- places and bytes after two steps
two : (out a b x total : List ℕ) → x ≡ out ++ a → total ≡ x ++ b → total ≡ out ++ (a ++ b)
two out a b x total e f = f ∙ ap (λ (z : List ℕ). z ++ b) e ∙ append_assoc out a b

pub place_after : (at : ℕ) (out a x : List ℕ) → x ≡ out ++ a → at + length x ≡ at + length out + length a
place_after at out a x e = omega (arith, ap length e, length-append out a)

mutual
  wrote_value : (v : Val) (d : ℕ) (order : Order) (at : ℕ) (out total : List ℕ) → value_written v d order at out ≡ Ok total → WroteValue v d order at out total
  wrote_value (a_basic v) d order at out total e = let a = wrote_basic v order at out total e in (basic_spelling order (at + length out) v, a.0, (refl, a.1, refl))
  wrote_value (a_variant v) d order at out total e =
      let g = guard_ok (eqb d 0) Depth (variant_type_written (type_of v) out >>= λ head. value_written v (d - 1) order at head) total e in
      let a = bind_ok (variant_type_written (type_of v) out) (λ head. value_written v (d - 1) order at head) total g.1 in
      let h = wrote_variant_type (type_of v) out a.0 a.1 in
      let w = wrote_value v (d - 1) order at a.0 total a.2 in
      let sig = signature_spelling (one_type (type_of v)) in
      let there = subst (λ (p : ℕ). SpellValue v (d - 1) order p (type_of v) w.0) (place_after at out sig a.0 h.1) w.2 in
      (sig ++ w.0, two out sig w.0 a.0 total h.1 w.1, (positive d g.0, type_of v, w.0, h.0, there, refl))
  wrote_value (an_array t vs) d order at out total e =
      let place = first_place t (at + length out) in
      let g = guard_ok (eqb d 0) Depth (elements_written vs (d - 1) order (place % 8) t [] >>= λ inside. array_written order (alignment t) at out inside) total e in
      let a = bind_ok (elements_written vs (d - 1) order (place % 8) t []) (λ inside. array_written order (alignment t) at out inside) total g.1 in
      let w = wrote_elements vs (d - 1) order (place % 8) t [] a.0 a.1 in
      let h = wrote_array order (alignment t) at out a.0 total a.2 in
      let same : (place % 8 + 0) % 8 ≡ place % 8 = omega arith in
      let there = elements_move vs (d - 1) order (place % 8 + 0) place t w.0 same w.2 in
      let inside = subst (λ (z : List ℕ). SpellElements vs (d - 1) order place t z) (sym w.1) there in
      (array_bytes order (alignment t) (at + length out) a.0, h.1, (positive d g.0, refl, a.0, h.0, inside, refl))
  wrote_value (an_entry k v) d order at out total e =
      let pad = pads 8 (at + length out) in
      let g = guard_ok (eqb d 0) Depth (basic_written order at k (padded 8 at out) >>= λ key. value_written v (d - 1) order at key) total e in
      let a = bind_ok (basic_written order at k (padded 8 at out)) (λ key. value_written v (d - 1) order at key) total g.1 in
      let h = wrote_basic k order at (padded 8 at out) a.0 a.1 in
      let w = wrote_value v (d - 1) order at a.0 total a.2 in
      let p1 : at + length (padded 8 at out) ≡ at + length out + pad_len 8 (at + length out) = place_padded at out in
      let key = basic_spelling order (at + length out + pad_len 8 (at + length out)) k in
      let put : a.0 ≡ padded 8 at out ++ key = h.0 ∙ ap (λ (p : ℕ). padded 8 at out ++ basic_spelling order p k) p1 in
      let p2 : at + length a.0 ≡ at + length out + pad_len 8 (at + length out) + length key = place_after at (padded 8 at out) key a.0 put ∙ ap (λ (p : ℕ). p + length key) p1 in
      let there = subst (λ (p : ℕ). SpellValue v (d - 1) order p (type_of v) w.0) p2 w.2 in
      let bytes : total ≡ out ++ (pad ++ (key ++ w.0)) = two (padded 8 at out) key w.0 a.0 total put w.1 ∙ append_assoc out pad (key ++ w.0) in
      (pad ++ (key ++ w.0), bytes, (positive d g.0, key, w.0, (refl, h.1, refl), there, refl))
  wrote_value (a_struct vs) d order at out total e =
      let pad = pads 8 (at + length out) in
      let g = guard_ok (eqb d 0) Depth (cond (has_types (types_of_values vs)) (fields_written vs (d - 1) order at (padded 8 at out)) (Err Signature)) total e in
      let a = guard_else (has_types (types_of_values vs)) Signature (fields_written vs (d - 1) order at (padded 8 at out)) total g.1 in
      let w = wrote_fields vs (d - 1) order at (padded 8 at out) total a.1 in
      let there = subst (λ (p : ℕ). SpellFields vs (d - 1) order p (types_of_values vs) w.0) (place_padded at out) w.2 in
      (pad ++ w.0, w.1 ∙ append_assoc out pad w.0, (positive d g.0, a.0, w.0, there, refl))

  wrote_elements : (vs : Vals) (d : ℕ) (order : Order) (at : ℕ) (t : Ty) (out total : List ℕ) → elements_written vs d order at t out ≡ Ok total → WroteElements vs d order at t out total
  wrote_elements no_values d order at t out total e = ([], sym (ok_is out total e) ∙ sym (append-nil out), refl)
  wrote_elements (more_values v vs) d order at t out total e =
      let g = guard_else (text_eq (code (type_of v)) (code t)) Signature (value_written v d order at out >>= λ more. elements_written vs d order at t more) total e in
      let a = bind_ok (value_written v d order at out) (λ more. elements_written vs d order at t more) total g.1 in
      let w = wrote_value v d order at out a.0 a.1 in
      let x = wrote_elements vs d order at t a.0 total a.2 in
      let first = subst (λ (u : Ty). SpellValue v d order (at + length out) u w.0) (same_code (type_of v) t g.0) w.2 in
      let rest = subst (λ (p : ℕ). SpellElements vs d order p t x.0) (place_after at out w.0 a.0 w.1) x.2 in
      (w.0 ++ x.0, two out w.0 x.0 a.0 total w.1 x.1, (w.0, x.0, first, rest, refl))

  wrote_fields : (vs : Vals) (d : ℕ) (order : Order) (at : ℕ) (out total : List ℕ) → fields_written vs d order at out ≡ Ok total → WroteFields vs d order at out total
  wrote_fields no_values d order at out total e = ([], sym (ok_is out total e) ∙ sym (append-nil out), refl)
  wrote_fields (more_values v vs) d order at out total e =
      let a = bind_ok (value_written v d order at out) (λ more. fields_written vs d order at more) total e in
      let w = wrote_value v d order at out a.0 a.1 in
      let x = wrote_fields vs d order at a.0 total a.2 in
      let rest = subst (λ (p : ℕ). SpellFields vs d order p (types_of_values vs) x.0) (place_after at out w.0 a.0 w.1) x.2 in
      (w.0 ++ x.0, two out w.0 x.0 a.0 total w.1 x.1, (w.0, x.0, w.2, rest, refl))

pub is_spelling : (order : Order) (offset : ℕ) (vs : Vals) (bytes : List ℕ) → encode_at order offset vs ≡ Ok bytes → Spells order offset (types_of_values vs) vs bytes
is_spelling order offset vs bytes e =
    let a = bind_ok (signature_of (codes (types_of_values vs))) (λ ts. fields_written vs 64 order (offset % 8) []) bytes e in
    let w = wrote_fields vs 64 order (offset % 8) [] bytes a.2 in
    let same : (offset % 8 + 0) % 8 ≡ offset % 8 = omega arith in
    let there = fields_move vs 64 order (offset % 8 + 0) offset (types_of_values vs) w.0 same w.2 in
    (are_valid (types_of_values vs) a.0 a.1, subst (λ (z : List ℕ). SpellFields vs 64 order offset (types_of_values vs) z) (sym w.1) there)
