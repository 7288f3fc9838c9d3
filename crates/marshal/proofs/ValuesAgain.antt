-- What is spelled is read, whatever follows.
use Rattle.std.proofs.Common.{◌≡◌, ℕ, zero, suc, ◌-◌, ◌+◌, ◌≤◌, ◌<◌, true, false, ltb, List, [], ◌∷◌, ◌++◌, length, Ok, refl, sym, ap, ◌∙◌, append_assoc, arith}
use Rattle.std.specs.Int.{w32}
use Rattle.std.proofs.lemmas.Bool.{le-ltb}
use Rattle.std.proofs.lemmas.List.{take_at, drop_at, length-append}
use Rattle.marshal_core.specs.declared.data_type.BasicType.{BasicType}
use Rattle.marshal_core.specs.declared.fault.MarshalFault.{MarshalFault}
use Rattle.marshal_core.specs.declared.fault.MarshalFault.TheVariants.{ArrayLength}
use Rattle.marshal_core.specs.declared.order.Order.{Order}
use Rattle.marshal_core.specs.Types.{Ty, basic, variant, array, entry, struct, Tys, no_types, more_types, one_type}
use Rattle.marshal_core.specs.Values.{BasicVal, Val, a_basic, a_variant, an_array, an_entry, a_struct, Vals, no_values, more_values}
use Rattle.marshal_core.specs.Signatures.{codes, has_types, IsSignature}
use Rattle.marshal_core.specs.Spelling.{alignment, pad_len, pads, number_spelling, signature_spelling, max_array_length, after_length, first_place, SpellBasic, SpellValue, SpellElements, SpellFields}
use Rattle.marshal_core.specs.Reading.{Reader, variant_type_at, elements_at, fields_at, sized_at, inside_at, array_at, entry_at, struct_at, struct_fields_at, variant_at, value_at}
use Rattle.marshal_core.proofs.TypesAgain.{variant_type_again}
use Rattle.marshal.proofs.Numbers.{read_back_32}
use Rattle.marshal.proofs.BasicAgain.{padding_again, length-pads, number_again, length-number, short_text_again, length-signature, spelled_again, basic_nonempty}
use Rattle.marshal.proofs.Layers.{value_basic, value_variant, value_array, value_entry, value_struct}

-- ---- every value takes a byte at least

length-array : (order : Order) (at : ℕ) (t : Ty) (inside : List ℕ) → length inside ≤ max_array_length
    → length (number_spelling order w32 at (length inside) ++ (pads (alignment t) (after_length at) ++ inside)) ≡ pad_len 4 at + 4 + pad_len (alignment t) (after_length at) + length inside
length-array order at t inside small =
    omega (arith, length-number order w32 at (length inside) (read_back_32 order (length inside) (omega arith)), length-append (number_spelling order w32 at (length inside)) (pads (alignment t) (after_length at) ++ inside), length-append (pads (alignment t) (after_length at)) inside, length-pads (alignment t) (after_length at))

mutual
  pub nonempty : (v : Val) (depth : ℕ) (order : Order) (at : ℕ) (t : Ty) (bs : List ℕ) → SpellValue v depth order at t bs → 0 < length bs
  nonempty (a_basic v) depth order at (basic b) bs h = omega (arith, ap length h.2, basic_nonempty v order at h.1)
  nonempty (a_variant v) depth order at variant bs h = omega (arith, ap length h.5)
  nonempty (an_array u vs) depth order at (array t) bs h = omega (arith, ap length h.5, length-array order at t h.2 h.3)
  nonempty (an_entry k v) depth order at (entry b t) bs h = omega (arith, ap length h.5, length-append (pads 8 at) (h.1 ++ h.2), length-append h.1 h.2, nonempty v (depth - 1) order (at + pad_len 8 at + length h.1) t h.2 h.4)
  nonempty (a_struct vs) depth order at (struct ts) bs h = omega (arith, ap length h.4, length-append (pads 8 at) h.2, nonempty_fields vs (depth - 1) order (at + pad_len 8 at) ts h.2 h.1 h.3)
  nonempty v depth order at t bs h = absurd h

  nonempty_fields : (vs : Vals) (depth : ℕ) (order : Order) (at : ℕ) (ts : Tys) (bs : List ℕ) → has_types ts ≡ true → SpellFields vs depth order at ts bs → 0 < length bs
  nonempty_fields (more_values v vs) depth order at (more_types t ts) bs some h = omega (arith, ap length h.4, length-append h.0 h.1, nonempty v depth order at t h.0 h.2)
  nonempty_fields no_values depth order at no_types bs some h = absurd cc
  nonempty_fields vs depth order at ts bs some h = absurd h

-- ---- containers

sized_again : (short : MarshalFault) (align at : ℕ) (inside rest : List ℕ) → length inside ≤ max_array_length
    → sized_at short align (length inside) at ((pads align at ++ inside) ++ rest) ≡ Ok ((at + pad_len align at, inside), at + pad_len align at + length inside, rest)
unfolding sized_at
sized_again short align at inside rest small =
    let n = length inside in
    let g : (pads align at ++ inside) ++ rest ≡ pads align at ++ (inside ++ rest) = append_assoc (pads align at) inside rest in
    let fits : ltb max_array_length n ≡ false = le-ltb _ _ small in
    let long : ltb (length (pads align at ++ (inside ++ rest))) (pad_len align at + n) ≡ false = le-ltb _ _ (omega (arith, length-append (pads align at) (inside ++ rest), length-append inside rest, length-pads align at)) in
    rw (g, fits, long, padding_again align short at (inside ++ rest), take_at inside rest n refl, drop_at inside rest n refl) refl

inside_again : (order : Order) (short : MarshalFault) (at : ℕ) (t : Ty) (inside rest : List ℕ) → length inside ≤ max_array_length
    → inside_at order short (alignment t) at ((number_spelling order w32 at (length inside) ++ (pads (alignment t) (after_length at) ++ inside)) ++ rest) ≡ Ok ((first_place t at, inside), first_place t at + length inside, rest)
unfolding inside_at
inside_again order short at t inside rest small =
    let n = length inside in
    let g : (number_spelling order w32 at n ++ (pads (alignment t) (after_length at) ++ inside)) ++ rest ≡ number_spelling order w32 at n ++ ((pads (alignment t) (after_length at) ++ inside) ++ rest) = append_assoc (number_spelling order w32 at n) (pads (alignment t) (after_length at) ++ inside) rest in
    rw (g, number_again order w32 short at n ((pads (alignment t) (after_length at) ++ inside) ++ rest) (read_back_32 order n (omega arith))) (sized_again short (alignment t) (after_length at) inside rest small)

array_again : (read : Reader) (order : Order) (short : MarshalFault) (at : ℕ) (t : Ty) (vs : Vals) (inside rest : List ℕ) → length inside ≤ max_array_length → elements_at read t (length inside) (first_place t at) inside ≡ Ok vs
    → array_at read order short t at ((number_spelling order w32 at (length inside) ++ (pads (alignment t) (after_length at) ++ inside)) ++ rest) ≡ Ok (an_array t vs, first_place t at + length inside, rest)
unfolding array_at
array_again read order short at t vs inside rest small e = rw (inside_again order short at t inside rest small, e) refl

entry_again : (read : Reader) (order : Order) (short : MarshalFault) (at : ℕ) (b : BasicType) (t : Ty) (k : BasicVal) (v : Val) (key inside rest : List ℕ) (place : ℕ) → SpellBasic k order (at + pad_len 8 at) b key → read short t (at + pad_len 8 at + length key) (inside ++ rest) ≡ Ok (v, place, rest)
    → entry_at read order short b t at ((pads 8 at ++ (key ++ inside)) ++ rest) ≡ Ok (an_entry k v, place, rest)
unfolding entry_at
entry_again read order short at b t k v key inside rest place h e =
    rw (append_assoc (pads 8 at) (key ++ inside) rest, append_assoc key inside rest, padding_again 8 short at (key ++ (inside ++ rest)), spelled_again k order short (at + pad_len 8 at) b key (inside ++ rest) h, e) refl

struct_again : (read : Reader) (short : MarshalFault) (at : ℕ) (ts : Tys) (vs : Vals) (inside rest : List ℕ) (place : ℕ) → has_types ts ≡ true → fields_at read short ts (at + pad_len 8 at) (inside ++ rest) ≡ Ok (vs, place, rest)
    → struct_at read short ts at ((pads 8 at ++ inside) ++ rest) ≡ Ok (a_struct vs, place, rest)
unfolding struct_at struct_fields_at
struct_again read short at ts vs inside rest place some e =
    rw (some, append_assoc (pads 8 at) inside rest, padding_again 8 short at (inside ++ rest), e) refl

type_again : (short : MarshalFault) (at : ℕ) (t : Ty) (rest : List ℕ) → IsSignature (one_type t) → variant_type_at short at (signature_spelling (one_type t) ++ rest) ≡ Ok (t, at + 1 + length (codes (one_type t)) + 1, rest)
unfolding variant_type_at
type_again short at t rest h = rw (short_text_again short at (one_type t) rest, variant_type_again t h) refl

variant_again : (read : Reader) (short : MarshalFault) (at : ℕ) (t : Ty) (v : Val) (inside rest : List ℕ) (place : ℕ) → IsSignature (one_type t) → read short t (at + 1 + length (codes (one_type t)) + 1) (inside ++ rest) ≡ Ok (v, place, rest)
    → variant_at read short at ((signature_spelling (one_type t) ++ inside) ++ rest) ≡ Ok (a_variant v, place, rest)
unfolding variant_at
variant_again read short at t v inside rest place h e =
    rw (append_assoc (signature_spelling (one_type t)) inside rest, type_again short at t (inside ++ rest) h, e) refl

fields_none : (read : Reader) (short : MarshalFault) (at : ℕ) (rest : List ℕ) → fields_at read short no_types at rest ≡ Ok (no_values, at, rest)
unfolding fields_at
fields_none read short at rest = refl

fields_one : (read : Reader) (short : MarshalFault) (at : ℕ) (t : Ty) (ts : Tys) (v : Val) (vs : Vals) (bytes more rest : List ℕ) (mid place : ℕ) → read short t at bytes ≡ Ok (v, mid, more) → fields_at read short ts mid more ≡ Ok (vs, place, rest)
    → fields_at read short (more_types t ts) at bytes ≡ Ok (more_values v vs, place, rest)
unfolding fields_at
fields_one read short at t ts v vs bytes more rest mid place e f = rw (e, f) refl

elements_none : (read : Reader) (t : Ty) (k at : ℕ) → elements_at read t k at [] ≡ Ok no_values
unfolding elements_at
elements_none read t zero at = refl
elements_none read t (suc k) at = refl

elements_one : (read : Reader) (t : Ty) (k at : ℕ) (v : Val) (vs : Vals) (bytes more : List ℕ) (mid : ℕ) → 0 < length bytes → read ArrayLength t at bytes ≡ Ok (v, mid, more) → elements_at read t k mid more ≡ Ok vs
    → elements_at read t (suc k) at bytes ≡ Ok (more_values v vs)
unfolding elements_at
elements_one read t k at v vs [] more mid some e f = absurd (omega arith)
elements_one read t k at v vs (b ∷ bytes) more mid some e f = rw (e, f) refl

-- ---- values

mutual
  pub value_again : (v : Val) (d : ℕ) (order : Order) (short : MarshalFault) (at : ℕ) (t : Ty) (bs rest : List ℕ) → SpellValue v d order at t bs → value_at d order short t at (bs ++ rest) ≡ Ok (v, at + length bs, rest)
  value_again (a_basic v) d order short at (basic b) bs rest h = rw (value_basic d order short b at (bs ++ rest), spelled_again v order short at b bs rest h) refl
  value_again (a_variant v) d order short at variant bs rest h =
      let t = h.1 in
      let inside = h.2 in
      let text = signature_spelling (one_type t) in
      let place : at + length (signature_spelling (one_type t)) ≡ at + 1 + length (codes (one_type t)) + 1 = omega (arith, length-signature (one_type t)) in
      let e : value_at (d - 1) order short t (at + length (signature_spelling (one_type t))) (inside ++ rest) ≡ Ok (v, at + length (signature_spelling (one_type t)) + length inside, rest) = value_again v (d - 1) order short (at + length (signature_spelling (one_type t))) t inside rest h.4 in
      let e2 : value_at (d - 1) order short t (at + 1 + length (codes (one_type t)) + 1) (inside ++ rest) ≡ Ok (v, at + length (signature_spelling (one_type t)) + length inside, rest) = ap (λ (p : ℕ). value_at (d - 1) order short t p (inside ++ rest)) (sym place) ∙ e in
      let len : at + length (signature_spelling (one_type t)) + length inside ≡ at + length (signature_spelling (one_type t) ++ inside) = omega (arith, length-append (signature_spelling (one_type t)) inside) in
      rw (h.5, value_variant d order short at ((signature_spelling (one_type t) ++ inside) ++ rest) h.0, variant_again (value_at (d - 1) order) short at t v inside rest (at + length (signature_spelling (one_type t)) + length inside) h.3 e2, len) refl
  value_again (an_array u vs) d order short at (array t) bs rest h =
      let inside = h.2 in
      let whole = number_spelling order w32 at (length inside) ++ (pads (alignment t) (after_length at) ++ inside) in
      let e = elements_again vs (d - 1) order (first_place t at) t inside (length inside) (omega arith) h.4 in
      let len : first_place t at + length inside ≡ at + length whole = omega (arith, length-array order at t inside h.3) in
      rw (h.5, value_array d order short t at (whole ++ rest) h.0, array_again (value_at (d - 1) order) order short at t vs inside rest h.3 e, h.1, len) refl
  value_again (an_entry k v) d order short at (entry b t) bs rest h =
      let key = h.1 in
      let inside = h.2 in
      let p = at + pad_len 8 at + length key in
      let e = value_again v (d - 1) order short (at + pad_len 8 at + length key) t inside rest h.4 in
      let len : at + pad_len 8 at + length key + length inside ≡ at + length (pads 8 at ++ (key ++ inside)) = omega (arith, length-append (pads 8 at) (key ++ inside), length-append key inside, length-pads 8 at) in
      rw (h.5, value_entry d order short b t at ((pads 8 at ++ (key ++ inside)) ++ rest) h.0, entry_again (value_at (d - 1) order) order short at b t k v key inside rest (at + pad_len 8 at + length key + length inside) h.3 e, len) refl
  value_again (a_struct vs) d order short at (struct ts) bs rest h =
      let inside = h.2 in
      let e = fields_again vs (d - 1) order short (at + pad_len 8 at) ts inside rest h.3 in
      let len : at + pad_len 8 at + length inside ≡ at + length (pads 8 at ++ inside) = omega (arith, length-append (pads 8 at) inside, length-pads 8 at) in
      rw (h.4, value_struct d order short ts at ((pads 8 at ++ inside) ++ rest) h.0, struct_again (value_at (d - 1) order) short at ts vs inside rest (at + pad_len 8 at + length inside) h.1 e, len) refl
  value_again v d order short at t bs rest h = absurd h

  pub elements_again : (vs : Vals) (d : ℕ) (order : Order) (at : ℕ) (t : Ty) (bs : List ℕ) (k : ℕ) → length bs ≤ k → SpellElements vs d order at t bs → elements_at (value_at d order) t k at bs ≡ Ok vs
  elements_again no_values d order at t bs k le h = rw h (elements_none (value_at d order) t k at)
  elements_again (more_values v vs) d order at t bs zero le h = absurd (omega (arith, ap length h.4, length-append h.0 h.1, nonempty v d order at t h.0 h.2))
  elements_again (more_values v vs) d order at t bs (suc k) le h =
      let some = nonempty v d order at t h.0 h.2 in
      rw h.4 (elements_one (value_at d order) t k at v vs (h.0 ++ h.1) h.1 (at + length h.0) (omega (arith, length-append h.0 h.1))
      (value_again v d order ArrayLength at t h.0 h.1 h.2)
      (elements_again vs d order (at + length h.0) t h.1 k (omega (arith, ap length h.4, length-append h.0 h.1)) h.3))

  pub fields_again : (vs : Vals) (d : ℕ) (order : Order) (short : MarshalFault) (at : ℕ) (ts : Tys) (bs rest : List ℕ) → SpellFields vs d order at ts bs → fields_at (value_at d order) short ts at (bs ++ rest) ≡ Ok (vs, at + length bs, rest)
  fields_again no_values d order short at no_types bs rest h = let z : at + 0 ≡ at = omega arith in rw (h, z) (fields_none (value_at d order) short at rest)
  fields_again (more_values v vs) d order short at (more_types t ts) bs rest h =
      let e = fields_again vs d order short (at + length h.0) ts h.1 rest h.3 in
      let len : at + length h.0 + length h.1 ≡ at + length (h.0 ++ h.1) = omega (arith, length-append h.0 h.1) in
      rw (h.4, append_assoc h.0 h.1 rest) (rw (← len) (fields_one (value_at d order) short at t ts v vs (h.0 ++ (h.1 ++ rest)) (h.1 ++ rest) rest (at + length h.0) (at + length h.0 + length h.1) (value_again v d order short at t h.0 (h.1 ++ rest) h.2) e))
  fields_again vs d order short at ts bs rest h = absurd h
