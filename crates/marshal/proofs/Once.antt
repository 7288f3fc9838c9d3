-- A value has one spelling.
use Rattle.std.proofs.Common.{◌≡◌, ℕ, ◌-◌, ◌+◌, List, ◌++◌, length, refl, sym, ap, subst, ◌∙◌}
use Rattle.std.specs.Int.{w32}
use Rattle.marshal_core.specs.declared.data_type.BasicType.{BasicType}
use Rattle.marshal_core.specs.declared.order.Order.{Order}
use Rattle.marshal_core.specs.Types.{Ty, basic, variant, array, entry, struct, Tys, no_types, more_types, one_type}
use Rattle.marshal_core.specs.Values.{Val, a_basic, a_variant, an_array, an_entry, a_struct, Vals, no_values, more_values}
use Rattle.marshal_core.specs.Spelling.{alignment, pad_len, pads, number_spelling, signature_spelling, after_length, first_place, SpellValue, SpellElements, SpellFields}

-- the type that a value is spelled under
mutual
  same_type : (v : Val) (d e : ℕ) (order : Order) (at bt : ℕ) (t u : Ty) (a b : List ℕ) → SpellValue v d order at t a → SpellValue v e order bt u b → t ≡ u
  same_type (a_basic v) d e order at bt (basic x) (basic y) a b h k = ap basic (sym h.0 ∙ k.0)
  same_type (a_variant v) d e order at bt variant variant a b h k = refl
  same_type (an_array w vs) d e order at bt (array t) (array u) a b h k = ap array (sym h.1 ∙ k.1)
  same_type (an_entry w v) d e order at bt (entry x t) (entry y u) a b h k =
      ap (λ (z : BasicType). entry z t) (sym h.3.0 ∙ k.3.0) ∙ ap (entry y) (same_type v (d - 1) (e - 1) order (at + pad_len 8 at + length h.1) (bt + pad_len 8 bt + length k.1) t u h.2 k.2 h.4 k.4)
  same_type (a_struct vs) d e order at bt (struct ts) (struct us) a b h k = ap struct (same_types vs (d - 1) (e - 1) order (at + pad_len 8 at) (bt + pad_len 8 bt) ts us h.2 k.2 h.3 k.3)
  same_type (a_basic v) d e order at bt (basic x) u a b h k = absurd k
  same_type (a_variant v) d e order at bt variant u a b h k = absurd k
  same_type (an_array w vs) d e order at bt (array t) u a b h k = absurd k
  same_type (an_entry w v) d e order at bt (entry x t) u a b h k = absurd k
  same_type (a_struct vs) d e order at bt (struct ts) u a b h k = absurd k
  same_type v d e order at bt t u a b h k = absurd h

  same_types : (vs : Vals) (d e : ℕ) (order : Order) (at bt : ℕ) (ts us : Tys) (a b : List ℕ) → SpellFields vs d order at ts a → SpellFields vs e order bt us b → ts ≡ us
  same_types no_values d e order at bt no_types no_types a b h k = refl
  same_types (more_values v vs) d e order at bt (more_types t ts) (more_types u us) a b h k =
      let p = same_type v d e order at bt t u h.0 k.0 h.2 k.2 in
      let q = same_types vs d e order (at + length h.0) (bt + length k.0) ts us h.1 k.1 h.3 k.3 in
      ap (λ (x : Ty). more_types x ts) p ∙ ap (more_types u) q
  same_types no_values d e order at bt no_types us a b h k = absurd k
  same_types (more_values v vs) d e order at bt (more_types t ts) us a b h k = absurd k
  same_types vs d e order at bt ts us a b h k = absurd h

mutual
  one_value : (v : Val) (d : ℕ) (order : Order) (at : ℕ) (t : Ty) (a b : List ℕ) → SpellValue v d order at t a → SpellValue v d order at t b → a ≡ b
  one_value (a_basic v) d order at (basic x) a b h k = h.2 ∙ sym k.2
  one_value (a_variant v) d order at variant a b h k =
      let e : h.1 ≡ k.1 = same_type v (d - 1) (d - 1) order (at + length (signature_spelling (one_type h.1))) (at + length (signature_spelling (one_type k.1))) h.1 k.1 h.2 k.2 h.4 k.4 in
      let k2 : SpellValue v (d - 1) order (at + length (signature_spelling (one_type h.1))) h.1 k.2 = subst (λ (t : Ty). SpellValue v (d - 1) order (at + length (signature_spelling (one_type t))) t k.2) (sym e) k.4 in
      let f = one_value v (d - 1) order (at + length (signature_spelling (one_type h.1))) h.1 h.2 k.2 h.4 k2 in
      h.5 ∙ ap (λ (t : Ty). signature_spelling (one_type t) ++ h.2) e ∙ ap (λ (x : List ℕ). signature_spelling (one_type k.1) ++ x) f ∙ sym k.5
  one_value (an_array u vs) d order at (array t) a b h k =
      let f = one_elements vs (d - 1) order (first_place t at) t h.2 k.2 h.4 k.4 in
      h.5 ∙ ap (λ (x : List ℕ). number_spelling order w32 at (length x) ++ (pads (alignment t) (after_length at) ++ x)) f ∙ sym k.5
  one_value (an_entry w v) d order at (entry x t) a b h k =
      let e : h.1 ≡ k.1 = h.3.2 ∙ sym k.3.2 in
      let k2 : SpellValue v (d - 1) order (at + pad_len 8 at + length h.1) t k.2 = subst (λ (y : List ℕ). SpellValue v (d - 1) order (at + pad_len 8 at + length y) t k.2) (sym e) k.4 in
      let f = one_value v (d - 1) order (at + pad_len 8 at + length h.1) t h.2 k.2 h.4 k2 in
      h.5 ∙ ap (λ (y : List ℕ). pads 8 at ++ (y ++ h.2)) e ∙ ap (λ (y : List ℕ). pads 8 at ++ (k.1 ++ y)) f ∙ sym k.5
  one_value (a_struct vs) d order at (struct ts) a b h k =
      let f = one_fields vs (d - 1) order (at + pad_len 8 at) ts h.2 k.2 h.3 k.3 in
      h.4 ∙ ap (λ (x : List ℕ). pads 8 at ++ x) f ∙ sym k.4
  one_value v d order at t a b h k = absurd h

  one_elements : (vs : Vals) (d : ℕ) (order : Order) (at : ℕ) (t : Ty) (a b : List ℕ) → SpellElements vs d order at t a → SpellElements vs d order at t b → a ≡ b
  one_elements no_values d order at t a b h k = h ∙ sym k
  one_elements (more_values v vs) d order at t a b h k =
      let e = one_value v d order at t h.0 k.0 h.2 k.2 in
      let k2 : SpellElements vs d order (at + length h.0) t k.1 = subst (λ (x : List ℕ). SpellElements vs d order (at + length x) t k.1) (sym e) k.3 in
      let f = one_elements vs d order (at + length h.0) t h.1 k.1 h.3 k2 in
      h.4 ∙ ap (λ (x : List ℕ). x ++ h.1) e ∙ ap (λ (x : List ℕ). k.0 ++ x) f ∙ sym k.4

  pub one_fields : (vs : Vals) (d : ℕ) (order : Order) (at : ℕ) (ts : Tys) (a b : List ℕ) → SpellFields vs d order at ts a → SpellFields vs d order at ts b → a ≡ b
  one_fields no_values d order at no_types a b h k = h ∙ sym k
  one_fields (more_values v vs) d order at (more_types t ts) a b h k =
      let e = one_value v d order at t h.0 k.0 h.2 k.2 in
      let k2 : SpellFields vs d order (at + length h.0) ts k.1 = subst (λ (x : List ℕ). SpellFields vs d order (at + length x) ts k.1) (sym e) k.3 in
      let f = one_fields vs d order (at + length h.0) ts h.1 k.1 h.3 k2 in
      h.4 ∙ ap (λ (x : List ℕ). x ++ h.1) e ∙ ap (λ (x : List ℕ). k.0 ++ x) f ∙ sym k.4
  one_fields vs d order at ts a b h k = absurd h
