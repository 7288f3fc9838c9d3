-- What has a spelling is written.
use Rattle.std.proofs.Common.{◌≡◌, ℕ, ◌-◌, ◌+◌, ◌%◌, ◌≤◌, ◌<◌, true, false, eqb, ltb, List, [], ◌++◌, length, Ok, refl, sym, ap, subst, ◌∙◌, append_assoc, arith}
use Rattle.std.proofs.lemmas.Bool.Decides.{nat_tests}
use Rattle.std.proofs.lemmas.List.{append-nil}
use Rattle.std.proofs.lemmas.Slice.Eq.{bytes_eq-Decides}
use Rattle.names.specs.Texts.{text_eq}
use Rattle.marshal_core.specs.declared.data_type.BasicType.{BasicType}
use Rattle.marshal_core.specs.declared.order.Order.{Order}
use Rattle.marshal_core.specs.Types.{Ty, basic, variant, array, entry, struct, Tys, no_types, more_types, one_type}
use Rattle.marshal_core.specs.Values.{BasicVal, Val, a_basic, a_variant, an_array, an_entry, a_struct, Vals, no_values, more_values}
use Rattle.marshal_core.specs.Signatures.{code, codes, has_types, IsSignature, signature_of}
use Rattle.marshal_core.specs.Spelling.{alignment, pad_len, pads, signature_spelling, first_place, basic_spelling, max_array_length, IsBasicValue, SpellValue, SpellElements, SpellFields, Spells}
use Rattle.marshal_core.proofs.TypesAgain.{signature_again}
use Rattle.marshal.specs.Writing.{type_of, types_of_values, basic_written, padded, array_bytes, array_written, variant_type_written, value_written, elements_written, fields_written, encode_at}
use Rattle.marshal.proofs.Moves.{elements_move, fields_move}
use Rattle.marshal.proofs.WrittenBasics.{basic_none}
use Rattle.marshal.proofs.WrittenLaws.{place_after, place_padded}

-- ---- the type that a value is spelled under

mutual
  its_type : (v : Val) (d : ℕ) (order : Order) (at : ℕ) (t : Ty) (b : List ℕ) → SpellValue v d order at t b → type_of v ≡ t
  its_type (a_basic v) d order at (basic x) b h = ap basic h.0
  its_type (a_variant v) d order at variant b h = refl
  its_type (an_array u vs) d order at (array t) b h = ap array h.1
  its_type (an_entry k v) d order at (entry x t) b h =
      ap (λ (z : BasicType). entry z (type_of v)) h.3.0 ∙ ap (entry x) (its_type v (d - 1) order (at + pad_len 8 at + length h.1) t h.2 h.4)
  its_type (a_struct vs) d order at (struct ts) b h = ap struct (their_types vs (d - 1) order (at + pad_len 8 at) ts h.2 h.3)
  its_type v d order at t b h = absurd h

  pub their_types : (vs : Vals) (d : ℕ) (order : Order) (at : ℕ) (ts : Tys) (b : List ℕ) → SpellFields vs d order at ts b → types_of_values vs ≡ ts
  their_types no_values d order at no_types b h = refl
  their_types (more_values v vs) d order at (more_types t ts) b h =
      ap (λ (z : Ty). more_types z (types_of_values vs)) (its_type v d order at t h.0 h.2) ∙ ap (more_types t) (their_types vs d order (at + length h.0) ts h.1 h.3)
  their_types vs d order at ts b h = absurd h

-- ---- steps

not_zero : (d : ℕ) → 0 < d → eqb d 0 ≡ false
not_zero d h = grind (arith, nat_tests)

no_more : (a b : ℕ) → b ≤ a → ltb a b ≡ false
no_more a b h = grind (arith, nat_tests)

codes_same : (t u : Ty) → t ≡ u → text_eq (code t) (code u) ≡ true
codes_same t u e = (bytes_eq-Decides (code t) (code u)).1 (ap code e)

writes_basic : (v : BasicVal) (order : Order) (at : ℕ) (out : List ℕ) → IsBasicValue v → basic_written order at v out ≡ Ok (out ++ basic_spelling order (at + length out) v)
unfolding basic_written
writes_basic v order at out h = rw (basic_none v h) refl

writes_variant_type : (t : Ty) (out : List ℕ) → IsSignature (one_type t) → variant_type_written t out ≡ Ok (out ++ signature_spelling (one_type t))
unfolding variant_type_written
writes_variant_type t out h =
    let e : signature_of (code t) ≡ Ok (one_type t) = ap signature_of (sym (append-nil (code t))) ∙ signature_again (one_type t) h in
    rw e refl

writes_array : (order : Order) (align at : ℕ) (out inside : List ℕ) → length inside ≤ max_array_length → array_written order align at out inside ≡ Ok (out ++ array_bytes order align (at + length out) inside)
unfolding array_written
writes_array order align at out inside h = rw (no_more max_array_length (length inside) h) refl

mutual
  writes_value : (v : Val) (d : ℕ) (order : Order) (at : ℕ) (t : Ty) (out b : List ℕ) → SpellValue v d order (at + length out) t b → value_written v d order at out ≡ Ok (out ++ b)
  writes_value (a_basic v) d order at (basic x) out b h = writes_basic v order at out h.1 ∙ ap (λ (z : List ℕ). Ok (out ++ z)) (sym h.2)
  writes_value (a_variant v) d order at variant out b h =
      let e : h.1 ≡ type_of v = sym (its_type v (d - 1) order (at + length out + length (signature_spelling (one_type h.1))) h.1 h.2 h.4) in
      let sig = signature_spelling (one_type (type_of v)) in
      let valid = subst (λ (t : Ty). IsSignature (one_type t)) e h.3 in
      let there = subst (λ (t : Ty). SpellValue v (d - 1) order (at + length out + length (signature_spelling (one_type t))) t h.2) e h.4 in
      let here = subst (λ (p : ℕ). SpellValue v (d - 1) order p (type_of v) h.2) (sym (place_after at out sig (out ++ sig) refl)) there in
      let bytes : b ≡ sig ++ h.2 = h.5 ∙ ap (λ (t : Ty). signature_spelling (one_type t) ++ h.2) e in
      rw (not_zero d h.0, writes_variant_type (type_of v) out valid, writes_value v (d - 1) order at (type_of v) (out ++ sig) h.2 here)
      (ap (λ (z : List ℕ). Ok z) (append_assoc out sig h.2 ∙ ap (λ (z : List ℕ). out ++ z) (sym bytes)))
  writes_value (an_array u vs) d order at (array t) out b h =
      let place = first_place u (at + length out) in
      let spelled = subst (λ (y : Ty). SpellElements vs (d - 1) order (first_place y (at + length out)) y h.2) (sym h.1) h.4 in
      let same : place % 8 ≡ (place % 8 + 0) % 8 = omega arith in
      let there = elements_move vs (d - 1) order place (place % 8 + 0) u h.2 same spelled in
      let bytes : b ≡ array_bytes order (alignment u) (at + length out) h.2 = h.5 ∙ ap (λ (y : Ty). array_bytes order (alignment y) (at + length out) h.2) (sym h.1) in
      rw (not_zero d h.0, writes_elements vs (d - 1) order (place % 8) u [] h.2 there, writes_array order (alignment u) at out h.2 h.3)
      (ap (λ (z : List ℕ). Ok (out ++ z)) (sym bytes))
  writes_value (an_entry k v) d order at (entry x t) out b h =
      let pad = pads 8 (at + length out) in
      let p1 : at + length (padded 8 at out) ≡ at + length out + pad_len 8 (at + length out) = place_padded at out in
      let key = basic_spelling order (at + length out + pad_len 8 (at + length out)) k in
      let w : basic_written order at k (padded 8 at out) ≡ Ok (padded 8 at out ++ key) = writes_basic k order at (padded 8 at out) h.3.1 ∙ ap (λ (p : ℕ). Ok (padded 8 at out ++ basic_spelling order p k)) p1 in
      let there = subst (λ (y : List ℕ). SpellValue v (d - 1) order (at + length out + pad_len 8 (at + length out) + length y) t h.2) h.3.2 h.4 in
      let p2 : at + length out + pad_len 8 (at + length out) + length key ≡ at + length (padded 8 at out ++ key) = ap (λ (p : ℕ). p + length key) (sym p1) ∙ sym (place_after at (padded 8 at out) key (padded 8 at out ++ key) refl) in
      let here = subst (λ (p : ℕ). SpellValue v (d - 1) order p t h.2) p2 there in
      let bytes : (padded 8 at out ++ key) ++ h.2 ≡ out ++ b = append_assoc (padded 8 at out) key h.2 ∙ append_assoc out pad (key ++ h.2) ∙ ap (λ (y : List ℕ). out ++ (pad ++ (y ++ h.2))) (sym h.3.2) ∙ ap (λ (z : List ℕ). out ++ z) (sym h.5) in
      rw (not_zero d h.0, w, writes_value v (d - 1) order at t (padded 8 at out ++ key) h.2 here) (ap (λ (z : List ℕ). Ok z) bytes)
  writes_value (a_struct vs) d order at (struct ts) out b h =
      let pad = pads 8 (at + length out) in
      let e = their_types vs (d - 1) order (at + length out + pad_len 8 (at + length out)) ts h.2 h.3 in
      let some : has_types (types_of_values vs) ≡ true = ap has_types e ∙ h.1 in
      let here = subst (λ (p : ℕ). SpellFields vs (d - 1) order p ts h.2) (sym (place_padded at out)) h.3 in
      rw (not_zero d h.0, some, writes_fields vs (d - 1) order at ts (padded 8 at out) h.2 here)
      (ap (λ (z : List ℕ). Ok z) (append_assoc out pad h.2 ∙ ap (λ (z : List ℕ). out ++ z) (sym h.4)))
  writes_value v d order at t out b h = absurd h

  writes_elements : (vs : Vals) (d : ℕ) (order : Order) (at : ℕ) (t : Ty) (out b : List ℕ) → SpellElements vs d order (at + length out) t b → elements_written vs d order at t out ≡ Ok (out ++ b)
  writes_elements no_values d order at t out b h = ap (λ (z : List ℕ). Ok z) (sym (append-nil out) ∙ ap (λ (z : List ℕ). out ++ z) (sym h))
  writes_elements (more_values v vs) d order at t out b h =
      let e = codes_same (type_of v) t (its_type v d order (at + length out) t h.0 h.2) in
      let rest = subst (λ (p : ℕ). SpellElements vs d order p t h.1) (sym (place_after at out h.0 (out ++ h.0) refl)) h.3 in
      rw (e, writes_value v d order at t out h.0 h.2, writes_elements vs d order at t (out ++ h.0) h.1 rest)
      (ap (λ (z : List ℕ). Ok z) (append_assoc out h.0 h.1 ∙ ap (λ (z : List ℕ). out ++ z) (sym h.4)))

  writes_fields : (vs : Vals) (d : ℕ) (order : Order) (at : ℕ) (ts : Tys) (out b : List ℕ) → SpellFields vs d order (at + length out) ts b → fields_written vs d order at out ≡ Ok (out ++ b)
  writes_fields no_values d order at no_types out b h = ap (λ (z : List ℕ). Ok z) (sym (append-nil out) ∙ ap (λ (z : List ℕ). out ++ z) (sym h))
  writes_fields (more_values v vs) d order at (more_types t ts) out b h =
      let rest = subst (λ (p : ℕ). SpellFields vs d order p ts h.1) (sym (place_after at out h.0 (out ++ h.0) refl)) h.3 in
      rw (writes_value v d order at t out h.0 h.2, writes_fields vs d order at ts (out ++ h.0) h.1 rest)
      (ap (λ (z : List ℕ). Ok z) (append_assoc out h.0 h.1 ∙ ap (λ (z : List ℕ). out ++ z) (sym h.4)))
  writes_fields vs d order at ts out b h = absurd h

pub is_written : (order : Order) (offset : ℕ) (ts : Tys) (vs : Vals) (bytes : List ℕ) → Spells order offset ts vs bytes → encode_at order offset vs ≡ Ok bytes
is_written order offset ts vs bytes h =
    let e = their_types vs 64 order offset ts bytes h.1 in
    let valid : signature_of (codes (types_of_values vs)) ≡ Ok ts = ap (λ (z : Tys). signature_of (codes z)) e ∙ signature_again ts h.0 in
    let same : offset % 8 ≡ (offset % 8 + 0) % 8 = omega arith in
    let there = fields_move vs 64 order offset (offset % 8 + 0) ts bytes same h.1 in
    rw (valid, writes_fields vs 64 order (offset % 8) ts [] bytes there) refl
