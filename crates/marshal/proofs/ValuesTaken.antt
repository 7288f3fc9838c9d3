-- What is read is spelled so.
use Rattle.std.proofs.Common.{◌≡◌, ℕ, zero, suc, ◌-◌, ◌+◌, ◌≤◌, ◌^◌, cond, ltb, List, [], ◌∷◌, ◌++◌, length, take, drop, Ok, Err, refl, sym, ap, subst, ◌∙◌, append_assoc, arith}
use Rattle.std.specs.Int.{w32}
use Rattle.std.proofs.lemmas.Bool.{ltb-false}
use Rattle.std.proofs.lemmas.List.{take-append-drop, length-append, length-take}
use Rattle.marshal_core.specs.declared.data_type.BasicType.{BasicType}
use Rattle.marshal_core.specs.declared.fault.MarshalFault.{MarshalFault}
use Rattle.marshal_core.specs.declared.fault.MarshalFault.TheVariants.{Signature, ArrayLength}
use Rattle.marshal_core.specs.declared.order.Order.{Order}
use Rattle.marshal_core.specs.Types.{Ty, basic, variant, array, entry, struct, Tys, no_types, more_types, one_type}
use Rattle.marshal_core.specs.Values.{basic_type, Val, a_basic, a_variant, an_array, an_entry, a_struct, Vals, no_values, more_values}
use Rattle.marshal_core.specs.Signatures.{has_types}
use Rattle.marshal_core.specs.Faults.{◌>>=◌}
use Rattle.marshal_core.specs.Spelling.{alignment, pad_len, pads, number_spelling, signature_spelling, max_array_length, after_length, first_place, IsBasicValue, basic_spelling, SpellValue, SpellElements, SpellFields}
use Rattle.marshal_core.specs.Reading.{Reader, as_a, number_at, padding_at, basic_at, variant_type_at, elements_at, fields_at, sized_at, inside_at, array_at, entry_at, struct_at, struct_fields_at, variant_at, layer, value_at}
use Rattle.marshal_core.proofs.Results.{bind_ok, guard_ok, guard_else, ok_is}
use Rattle.marshal.proofs.Numbers.{AllBytes, AllBytes-left, AllBytes-right, written_back_32, read_back_32}
use Rattle.marshal.proofs.BasicAgain.{length-pads, length-number}
use Rattle.marshal.proofs.BasicTaken.{padding_takes, number_takes, variant_type_at_takes, basic_takes}

abbrev pub TookValue : ℕ → Order → ℕ → Ty → List ℕ → Val × ℕ × List ℕ → Type 0
TookValue d order at t bytes x = (bs : List ℕ) × SpellValue x.0 d order at t bs × (bytes ≡ bs ++ x.2) × (x.1 ≡ at + length bs)

abbrev pub TookFields : ℕ → Order → ℕ → Tys → List ℕ → Vals × ℕ × List ℕ → Type 0
TookFields d order at ts bytes x = (bs : List ℕ) × SpellFields x.0 d order at ts bs × (bytes ≡ bs ++ x.2) × (x.1 ≡ at + length bs)

abbrev pub Takes : Reader → ℕ → Order → Type 0
Takes read d order = (short : MarshalFault) (t : Ty) (at : ℕ) (bytes : List ℕ) (x : Val × ℕ × List ℕ) → AllBytes bytes → read short t at bytes ≡ Ok x → TookValue d order at t bytes x

elements_take : (read : Reader) (d : ℕ) (order : Order) → Takes read d order → (k : ℕ) (t : Ty) (at : ℕ) (bytes : List ℕ) (vs : Vals) → AllBytes bytes → elements_at read t k at bytes ≡ Ok vs → SpellElements vs d order at t bytes
unfolding elements_at
elements_take read d order takes zero t at [] vs fits e = subst (λ (ws : Vals). SpellElements ws d order at t []) (ok_is no_values vs e) refl
elements_take read d order takes (suc k) t at [] vs fits e = subst (λ (ws : Vals). SpellElements ws d order at t []) (ok_is no_values vs e) refl
elements_take read d order takes zero t at (b ∷ bytes) vs fits e = absurd cc
elements_take read d order takes (suc k) t at (b ∷ bytes) vs fits e =
    let p = bind_ok (read ArrayLength t at (b ∷ bytes)) (λ v. elements_at read t k v.1 v.2 >>= λ ws. Ok (more_values v.0 ws)) vs e in
    let q = bind_ok (elements_at read t k p.0.1 p.0.2) (λ ws. Ok (more_values p.0.0 ws)) vs p.2 in
    let one = takes ArrayLength t at (b ∷ bytes) p.0 fits p.1 in
    let fits2 : AllBytes p.0.2 = AllBytes-right one.0 p.0.2 (subst AllBytes one.2 fits) in
    let others : SpellElements q.0 d order p.0.1 t p.0.2 = elements_take read d order takes k t p.0.1 p.0.2 q.0 fits2 q.1 in
    subst (λ (ws : Vals). SpellElements ws d order at t (b ∷ bytes)) (ok_is (more_values p.0.0 q.0) vs q.2)
    (one.0, p.0.2, one.1, subst (λ (place : ℕ). SpellElements q.0 d order place t p.0.2) one.3 others, one.2)

fields_take : (read : Reader) (d : ℕ) (order : Order) → Takes read d order → (short : MarshalFault) (ts : Tys) (at : ℕ) (bytes : List ℕ) (x : Vals × ℕ × List ℕ) → AllBytes bytes → fields_at read short ts at bytes ≡ Ok x → TookFields d order at ts bytes x
unfolding fields_at
fields_take read d order takes short no_types at bytes x fits e = subst (TookFields d order at no_types bytes) (ok_is (no_values, at, bytes) x e) ([], refl, refl, omega arith)
fields_take read d order takes short (more_types t ts) at bytes x fits e =
    let p = bind_ok (read short t at bytes) (λ v. fields_at read short ts v.1 v.2 >>= λ ws. Ok (more_values v.0 ws.0, ws.1, ws.2)) x e in
    let q = bind_ok (fields_at read short ts p.0.1 p.0.2) (λ ws. Ok (more_values p.0.0 ws.0, ws.1, ws.2)) x p.2 in
    let one = takes short t at bytes p.0 fits p.1 in
    let fits2 : AllBytes p.0.2 = AllBytes-right one.0 p.0.2 (subst AllBytes one.2 fits) in
    let others = fields_take read d order takes short ts p.0.1 p.0.2 q.0 fits2 q.1 in
    subst (TookFields d order at (more_types t ts) bytes) (ok_is (more_values p.0.0 q.0.0, q.0.1, q.0.2) x q.2) (
      one.0 ++ others.0,
      (one.0, others.0, one.1, subst (λ (place : ℕ). SpellFields q.0.0 d order place ts others.0) one.3 others.1, refl),
      one.2 ∙ ap (λ (y : List ℕ). one.0 ++ y) others.2 ∙ sym (append_assoc one.0 others.0 q.0.2),
      omega (arith, others.3, one.3, length-append one.0 others.0),
    )

variant_takes : (read : Reader) (d : ℕ) (order : Order) → Takes read d order → (short : MarshalFault) (at : ℕ) (bytes : List ℕ) (x : Val × ℕ × List ℕ) → AllBytes bytes → variant_at read short at bytes ≡ Ok x → TookValue (suc d) order at variant bytes x
unfolding variant_at
variant_takes read d order takes short at bytes x fits e =
    let a = bind_ok (variant_type_at short at bytes) (λ t. read short t.0 t.1 t.2 >>= λ v. Ok (a_variant v.0, v.1, v.2)) x e in
    let b = bind_ok (read short a.0.0 a.0.1 a.0.2) (λ v. Ok (a_variant v.0, v.1, v.2)) x a.2 in
    let s = variant_type_at_takes short at bytes a.0 fits a.1 in
    let text = signature_spelling (one_type a.0.0) in
    let fits2 : AllBytes a.0.2 = AllBytes-right (signature_spelling (one_type a.0.0)) a.0.2 (subst AllBytes s.1 fits) in
    let one = takes short a.0.0 a.0.1 a.0.2 b.0 fits2 b.1 in
    let less : suc d - 1 ≡ d = omega arith in
    let inside : SpellValue b.0.0 (suc d - 1) order (at + length (signature_spelling (one_type a.0.0))) a.0.0 one.0 = subst (λ (k : ℕ). SpellValue b.0.0 k order (at + length (signature_spelling (one_type a.0.0))) a.0.0 one.0) (sym less) (subst (λ (place : ℕ). SpellValue b.0.0 d order place a.0.0 one.0) s.2 one.1) in
    subst (TookValue (suc d) order at variant bytes) (ok_is (a_variant b.0.0, b.0.1, b.0.2) x b.2) (
      text ++ one.0,
      (omega arith, a.0.0, one.0, s.0, inside, refl),
      s.1 ∙ ap (λ (y : List ℕ). signature_spelling (one_type a.0.0) ++ y) one.2 ∙ sym (append_assoc (signature_spelling (one_type a.0.0)) one.0 b.0.2),
      omega (arith, one.3, s.2, length-append (signature_spelling (one_type a.0.0)) one.0),
    )

abbrev TookSized : ℕ → ℕ → ℕ → List ℕ → (ℕ × List ℕ) × ℕ × List ℕ → Type 0
TookSized align n at bytes x = (length x.0.1 ≡ n) × (n ≤ max_array_length) × (bytes ≡ (pads align at ++ x.0.1) ++ x.2) × (x.0.0 ≡ at + pad_len align at) × (x.1 ≡ at + pad_len align at + n)

sized_takes : (short : MarshalFault) (align n at : ℕ) (bytes : List ℕ) (x : (ℕ × List ℕ) × ℕ × List ℕ) → sized_at short align n at bytes ≡ Ok x → TookSized align n at bytes x
unfolding sized_at
sized_takes short align n at bytes x e =
    let g = guard_ok (ltb max_array_length n) ArrayLength (cond (ltb (length bytes) (pad_len align at + n)) (Err short) (padding_at align short at bytes >>= λ p. Ok ((p.0, take n p.1), p.0 + n, drop n p.1))) x e in
    let h = guard_ok (ltb (length bytes) (pad_len align at + n)) short (padding_at align short at bytes >>= λ p. Ok ((p.0, take n p.1), p.0 + n, drop n p.1)) x g.1 in
    let b = bind_ok (padding_at align short at bytes) (λ p. Ok ((p.0, take n p.1), p.0 + n, drop n p.1)) x h.1 in
    let p = padding_takes align short at bytes b.0 b.1 in
    let small : n ≤ max_array_length = ltb-false _ _ g.0 in
    let room : pad_len align at + n ≤ length bytes = ltb-false _ _ h.0 in
    let long : n ≤ length b.0.1 = omega (arith, room, ap length p.0, length-append (pads align at) b.0.1, length-pads align at) in
    let parts : bytes ≡ (pads align at ++ take n b.0.1) ++ drop n b.0.1 = p.0 ∙ ap (λ (y : List ℕ). pads align at ++ y) (sym (take-append-drop n b.0.1)) ∙ sym (append_assoc (pads align at) (take n b.0.1) (drop n b.0.1)) in
    subst (TookSized align n at bytes) (ok_is ((b.0.0, take n b.0.1), b.0.0 + n, drop n b.0.1) x b.2) (omega (arith, length-take n b.0.1, long), small, parts, p.1, ap (λ (k : ℕ). k + n) p.1)

abbrev TookInside : Order → ℕ → Ty → List ℕ → (ℕ × List ℕ) × ℕ × List ℕ → Type 0
TookInside order at t bytes x =
    (length x.0.1 ≤ max_array_length) × (bytes ≡ (number_spelling order w32 at (length x.0.1) ++ (pads (alignment t) (after_length at) ++ x.0.1)) ++ x.2) × (x.0.0 ≡ first_place t at)
    × (x.1 ≡ at + length (number_spelling order w32 at (length x.0.1) ++ (pads (alignment t) (after_length at) ++ x.0.1)))

inside_takes : (order : Order) (short : MarshalFault) (t : Ty) (at : ℕ) (bytes : List ℕ) (x : (ℕ × List ℕ) × ℕ × List ℕ) → AllBytes bytes → inside_at order short (alignment t) at bytes ≡ Ok x → TookInside order at t bytes x
unfolding inside_at
inside_takes order short t at bytes x fits e =
    let a = bind_ok (number_at order w32 short at bytes) (λ n. sized_at short (alignment t) n.0 n.1 n.2) x e in
    let n = number_takes order w32 (2 ^ 32) (written_back_32 order) short at bytes a.0 fits a.1 in
    let s = sized_takes short (alignment t) a.0.0 a.0.1 a.0.2 x a.2 in
    let after : a.0.1 ≡ after_length at = omega (arith, n.2, length-number order w32 at a.0.0 (read_back_32 order a.0.0 n.0)) in
    let gap = pads (alignment t) (after_length at) in
    let second : a.0.2 ≡ (pads (alignment t) (after_length at) ++ x.0.1) ++ x.2 = s.2 ∙ ap (λ (k : ℕ). (pads (alignment t) k ++ x.0.1) ++ x.2) after in
    let parts : bytes ≡ (number_spelling order w32 at a.0.0 ++ (pads (alignment t) (after_length at) ++ x.0.1)) ++ x.2 =
    n.1 ∙ ap (λ (y : List ℕ). number_spelling order w32 at a.0.0 ++ y) second ∙ sym (append_assoc (number_spelling order w32 at a.0.0) (pads (alignment t) (after_length at) ++ x.0.1) x.2) in
    let whole : bytes ≡ (number_spelling order w32 at (length x.0.1) ++ (pads (alignment t) (after_length at) ++ x.0.1)) ++ x.2 = parts ∙ ap (λ (k : ℕ). (number_spelling order w32 at k ++ (pads (alignment t) (after_length at) ++ x.0.1)) ++ x.2) (sym s.0) in
    let first : x.0.0 ≡ first_place t at = s.3 ∙ ap (λ (k : ℕ). k + pad_len (alignment t) k) after in
    let end : x.1 ≡ after_length at + pad_len (alignment t) (after_length at) + a.0.0 = s.4 ∙ ap (λ (k : ℕ). k + pad_len (alignment t) k + a.0.0) after in (
      omega (arith, s.0, s.1),
      whole,
      first,
      omega (arith, end, s.0, length-append (number_spelling order w32 at (length x.0.1)) (pads (alignment t) (after_length at) ++ x.0.1), length-append (pads (alignment t) (after_length at)) x.0.1, length-pads (alignment t) (after_length at), length-number order w32 at (length x.0.1) (read_back_32 order (length x.0.1) (omega (arith, s.0, s.1)))),
    )

array_takes : (read : Reader) (d : ℕ) (order : Order) → Takes read d order → (short : MarshalFault) (t : Ty) (at : ℕ) (bytes : List ℕ) (x : Val × ℕ × List ℕ) → AllBytes bytes → array_at read order short t at bytes ≡ Ok x → TookValue (suc d) order at (array t) bytes x
unfolding array_at
array_takes read d order takes short t at bytes x fits e =
    let a = bind_ok (inside_at order short (alignment t) at bytes) (λ inside. elements_at read t (length inside.0.1) inside.0.0 inside.0.1 >>= λ vs. Ok (an_array t vs, inside.1, inside.2)) x e in
    let c = bind_ok (elements_at read t (length a.0.0.1) a.0.0.0 a.0.0.1) (λ vs. Ok (an_array t vs, a.0.1, a.0.2)) x a.2 in
    let i = inside_takes order short t at bytes a.0 fits a.1 in
    let inside = a.0.0.1 in
    let gap = pads (alignment t) (after_length at) in
    let whole = number_spelling order w32 at (length a.0.0.1) ++ (pads (alignment t) (after_length at) ++ a.0.0.1) in
    let fits2 : AllBytes a.0.0.1 = AllBytes-right (pads (alignment t) (after_length at)) a.0.0.1 (AllBytes-right (number_spelling order w32 at (length a.0.0.1)) (pads (alignment t) (after_length at) ++ a.0.0.1) (AllBytes-left (number_spelling order w32 at (length a.0.0.1) ++ (pads (alignment t) (after_length at) ++ a.0.0.1)) a.0.2 (subst AllBytes i.1 fits))) in
    let less : suc d - 1 ≡ d = omega arith in
    let items : SpellElements c.0 (suc d - 1) order (first_place t at) t a.0.0.1 = subst (λ (k : ℕ). SpellElements c.0 k order (first_place t at) t a.0.0.1) (sym less) (subst (λ (k : ℕ). SpellElements c.0 d order k t a.0.0.1) i.2 (elements_take read d order takes (length a.0.0.1) t a.0.0.0 a.0.0.1 c.0 fits2 c.1)) in
    subst (TookValue (suc d) order at (array t) bytes) (ok_is (an_array t c.0, a.0.1, a.0.2) x c.2)
    (whole, (omega arith, refl, inside, i.0, items, refl), i.1, i.3)

entry_takes : (read : Reader) (d : ℕ) (order : Order) → Takes read d order → (short : MarshalFault) (b : BasicType) (t : Ty) (at : ℕ) (bytes : List ℕ) (x : Val × ℕ × List ℕ) → AllBytes bytes → entry_at read order short b t at bytes ≡ Ok x → TookValue (suc d) order at (entry b t) bytes x
unfolding entry_at
entry_takes read d order takes short b t at bytes x fits e =
    let a = bind_ok (padding_at 8 short at bytes) (λ p. basic_at order short b p.0 p.1 >>= λ k. read short t k.1 k.2 >>= λ v. Ok (an_entry k.0 v.0, v.1, v.2)) x e in
    let k = bind_ok (basic_at order short b a.0.0 a.0.1) (λ k. read short t k.1 k.2 >>= λ v. Ok (an_entry k.0 v.0, v.1, v.2)) x a.2 in
    let v = bind_ok (read short t k.0.1 k.0.2) (λ v. Ok (an_entry k.0.0 v.0, v.1, v.2)) x k.2 in
    let p = padding_takes 8 short at bytes a.0 a.1 in
    let fits2 : AllBytes a.0.1 = AllBytes-right (pads 8 at) a.0.1 (subst AllBytes p.0 fits) in
    let key = basic_takes order short b a.0.0 a.0.1 k.0 fits2 k.1 in
    let fits3 : AllBytes k.0.2 = AllBytes-right key.0 k.0.2 (subst AllBytes key.2 fits2) in
    let one = takes short t k.0.1 k.0.2 v.0 fits3 v.1 in
    let less : suc d - 1 ≡ d = omega arith in
    let place : k.0.1 ≡ at + pad_len 8 at + length key.0 = omega (arith, key.3, p.1) in
    let key_is = subst (λ (q : ℕ). (basic_type k.0.0 ≡ b) × IsBasicValue k.0.0 × (key.0 ≡ basic_spelling order q k.0.0)) p.1 key.1 in
    let inside : SpellValue v.0.0 (suc d - 1) order (at + pad_len 8 at + length key.0) t one.0 = subst (λ (n : ℕ). SpellValue v.0.0 n order (at + pad_len 8 at + length key.0) t one.0) (sym less) (subst (λ (q : ℕ). SpellValue v.0.0 d order q t one.0) place one.1) in
    let parts : bytes ≡ (pads 8 at ++ (key.0 ++ one.0)) ++ v.0.2 =
    p.0 ∙ ap (λ (y : List ℕ). pads 8 at ++ y) (key.2 ∙ ap (λ (y : List ℕ). key.0 ++ y) one.2 ∙ sym (append_assoc key.0 one.0 v.0.2)) ∙ sym (append_assoc (pads 8 at) (key.0 ++ one.0) v.0.2) in
    subst (TookValue (suc d) order at (entry b t) bytes) (ok_is (an_entry k.0.0 v.0.0, v.0.1, v.0.2) x v.2) (
      pads 8 at ++ (key.0 ++ one.0),
      (omega arith, key.0, one.0, key_is, inside, refl),
      parts,
      omega (arith, one.3, place, length-append (pads 8 at) (key.0 ++ one.0), length-append key.0 one.0, length-pads 8 at),
    )

struct_takes : (read : Reader) (d : ℕ) (order : Order) → Takes read d order → (short : MarshalFault) (ts : Tys) (at : ℕ) (bytes : List ℕ) (x : Val × ℕ × List ℕ) → AllBytes bytes → struct_at read short ts at bytes ≡ Ok x → TookValue (suc d) order at (struct ts) bytes x
unfolding struct_at struct_fields_at
struct_takes read d order takes short ts at bytes x fits e =
    let g = guard_else (has_types ts) Signature (padding_at 8 short at bytes >>= λ p. fields_at read short ts p.0 p.1 >>= λ vs. Ok (a_struct vs.0, vs.1, vs.2)) x e in
    let a = bind_ok (padding_at 8 short at bytes) (λ p. fields_at read short ts p.0 p.1 >>= λ vs. Ok (a_struct vs.0, vs.1, vs.2)) x g.1 in
    let b = bind_ok (fields_at read short ts a.0.0 a.0.1) (λ vs. Ok (a_struct vs.0, vs.1, vs.2)) x a.2 in
    let p = padding_takes 8 short at bytes a.0 a.1 in
    let fits2 : AllBytes a.0.1 = AllBytes-right (pads 8 at) a.0.1 (subst AllBytes p.0 fits) in
    let f = fields_take read d order takes short ts a.0.0 a.0.1 b.0 fits2 b.1 in
    let less : suc d - 1 ≡ d = omega arith in
    let items : SpellFields b.0.0 (suc d - 1) order (at + pad_len 8 at) ts f.0 = subst (λ (k : ℕ). SpellFields b.0.0 k order (at + pad_len 8 at) ts f.0) (sym less) (subst (λ (k : ℕ). SpellFields b.0.0 d order k ts f.0) p.1 f.1) in
    subst (TookValue (suc d) order at (struct ts) bytes) (ok_is (a_struct b.0.0, b.0.1, b.0.2) x b.2)
    (pads 8 at ++ f.0, (omega arith, g.0, f.0, items, refl), p.0 ∙ ap (λ (y : List ℕ). pads 8 at ++ y) f.2 ∙ sym (append_assoc (pads 8 at) f.0 b.0.2), omega (arith, f.3, p.1, length-append (pads 8 at) f.0, length-pads 8 at))

basic_value_takes : (d : ℕ) (order : Order) (short : MarshalFault) (b : BasicType) (at : ℕ) (bytes : List ℕ) (x : Val × ℕ × List ℕ) → AllBytes bytes → as_a a_basic (basic_at order short b at bytes) ≡ Ok x → TookValue d order at (basic b) bytes x
basic_value_takes d order short b at bytes x fits e =
    let a = bind_ok (basic_at order short b at bytes) (λ y. Ok (a_basic y.0, y.1, y.2)) x e in
    let one = basic_takes order short b at bytes a.0 fits a.1 in
    subst (TookValue d order at (basic b) bytes) (ok_is (a_basic a.0.0, a.0.1, a.0.2) x a.2) one

pub value_takes : (d : ℕ) (order : Order) → Takes (value_at d order) d order
unfolding value_at layer
value_takes zero order short (basic b) at bytes x fits e = basic_value_takes zero order short b at bytes x fits e
value_takes (suc d) order short (basic b) at bytes x fits e = basic_value_takes (suc d) order short b at bytes x fits e
value_takes zero order short variant at bytes x fits e = absurd cc
value_takes zero order short (array t) at bytes x fits e = absurd cc
value_takes zero order short (entry b t) at bytes x fits e = absurd cc
value_takes zero order short (struct ts) at bytes x fits e = absurd cc
value_takes (suc d) order short variant at bytes x fits e = variant_takes (value_at d order) d order (value_takes d order) short at bytes x fits e
value_takes (suc d) order short (array t) at bytes x fits e = array_takes (value_at d order) d order (value_takes d order) short t at bytes x fits e
value_takes (suc d) order short (entry b t) at bytes x fits e = entry_takes (value_at d order) d order (value_takes d order) short b t at bytes x fits e
value_takes (suc d) order short (struct ts) at bytes x fits e = struct_takes (value_at d order) d order (value_takes d order) short ts at bytes x fits e

pub fields_taken : (d : ℕ) (order : Order) (short : MarshalFault) (ts : Tys) (at : ℕ) (bytes : List ℕ) (x : Vals × ℕ × List ℕ) → AllBytes bytes → fields_at (value_at d order) short ts at bytes ≡ Ok x → TookFields d order at ts bytes x
fields_taken d order = fields_take (value_at d order) d order (value_takes d order)
