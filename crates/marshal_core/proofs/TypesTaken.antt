-- What is read from a signature stands there, and is valid.
use Rattle.std.proofs.Common.{◌≡◌, ℕ, zero, suc, ◌-◌, ◌≤◌, Bool, true, false, cond, eqb, ltb, leb, List, [], ◌∷◌, ◌++◌, length, Option, Some, None, Ok, Err, refl, sym, ap, subst, ◌∙◌, append_assoc, arith, inl, inr}
use Rattle.std.specs.Prelude.{◌&&◌}
use Rattle.std.proofs.lemmas.Bool.{ltb-false}
use Rattle.std.proofs.lemmas.Bool.Decides.{nat_tests}
use Rattle.std.proofs.lemmas.List.{append-nil}
use Rattle.marshal_core.specs.declared.data_type.BasicType.{BasicType}
use Rattle.marshal_core.specs.declared.fault.MarshalFault.TheVariants.{Signature}
use Rattle.marshal_core.specs.Types.{Ty, basic, variant, array, entry, struct, Tys, no_types, more_types, one_type}
use Rattle.marshal_core.specs.Faults.{◌>>=◌}
use Rattle.marshal_core.specs.Signatures.{Parsed, basic_code, basic_types, with_code, basic_from, not_a_code, code, codes, struct_begin, struct_end, entry_begin, entry_end, variant_code, array_code, max_signature_length, max_array_nesting, max_struct_nesting, has_types, is_complete, are_complete, IsSignature, key_type_at, entry_end_at, entry_type_at, element_type_at, array_type_at, types_at, struct_of, struct_type_at, basic_type_at, type_at, complete_type_at, signature_of, alone, variant_type_of}
use Rattle.marshal_core.proofs.Results.{bind_ok, chosen, guard_ok, guard_else, ok_is, eqb-yes, leb_true, both_true, both_are}

coded : (c : ℕ) (bs : List BasicType) (b : BasicType) → with_code c bs ≡ Some b → c ≡ basic_code b
coded c [] b e = absurd cc
coded c (d ∷ ds) b e = elim (chosen (eqb c (basic_code d)) (Some d) (with_code c ds) (Some b) e) [
  | inl h ↦ let i : d ≡ b = cc in eqb-yes c (basic_code d) h.0 ∙ ap basic_code i
  | inr h ↦ coded c ds b h.1
]

from_takes : (c : ℕ) (cs : List ℕ) (o : Option BasicType) (x : BasicType × List ℕ) → basic_from c cs o ≡ Ok x → (o ≡ Some x.0) × (cs ≡ x.1)
from_takes c cs (Some b) x e = let i = ok_is (b, cs) x e in (ap (λ (y : BasicType × List ℕ). Some y.0) i, ap (λ (y : BasicType × List ℕ). y.1) i)
from_takes c cs None x e = absurd cc

pub key_takes : (text : List ℕ) (x : BasicType × List ℕ) → key_type_at text ≡ Ok x → text ≡ basic_code x.0 ∷ x.1
unfolding key_type_at
key_takes [] x e = absurd cc
key_takes (c ∷ cs) x e =
    let p = from_takes c cs (with_code c basic_types) x e in
    ap (λ (k : ℕ). k ∷ cs) (coded c basic_types x.0 p.0) ∙ ap (λ (y : List ℕ). basic_code x.0 ∷ y) p.1

abbrev TookType : Bool → ℕ → ℕ → List ℕ → Ty × List ℕ → Type 0
TookType element a s text x = (is_complete element a s x.0 ≡ true) × (text ≡ code x.0 ++ x.1)

abbrev ending : Bool → List ℕ → List ℕ
ending true rest = struct_end ∷ rest
ending false rest = []

abbrev TookTypes : Bool → ℕ → ℕ → List ℕ → Tys × List ℕ → Type 0
TookTypes inside a s text x = (are_complete a s x.0 ≡ true) × (text ≡ codes x.0 ++ ending inside x.1)

abbrev Takes : (List ℕ → Parsed Ty) → ℕ → ℕ → Type 0
Takes read a s = (text : List ℕ) (x : Ty × List ℕ) → read text ≡ Ok x → TookType false a s text x

types_take : (inside : Bool) (read : List ℕ → Parsed Ty) (a s : ℕ) → Takes read a s → (k : ℕ) (text : List ℕ) (x : Tys × List ℕ) → types_at inside read k text ≡ Ok x → TookTypes inside a s text x
unfolding types_at
types_take true read a s takes zero [] x e = absurd cc
types_take true read a s takes (suc k) [] x e = absurd cc
types_take false read a s takes zero [] x e = subst (TookTypes false a s []) (ok_is (no_types, []) x e) (refl, refl)
types_take false read a s takes (suc k) [] x e = subst (TookTypes false a s []) (ok_is (no_types, []) x e) (refl, refl)
types_take inside read a s takes zero (c ∷ cs) x e = absurd cc
types_take inside read a s takes (suc k) (c ∷ cs) x e =
    elim (chosen (inside && eqb c struct_end) (Ok (no_types, cs)) (read (c ∷ cs) >>= λ t. types_at inside read k t.1 >>= λ ts. Ok (more_types t.0 ts.0, ts.1)) (Ok x) e) [
      | inl h ↦
          let p = both_true inside (eqb c struct_end) h.0 in
          let here : TookTypes true a s (c ∷ cs) (no_types, cs) = (refl, ap (λ (b : ℕ). b ∷ cs) (eqb-yes c struct_end p.1)) in
          subst (TookTypes inside a s (c ∷ cs)) (ok_is (no_types, cs) x h.1) (subst (λ (i : Bool). TookTypes i a s (c ∷ cs) (no_types, cs)) (sym p.0) here)
      | inr h ↦
          let p = bind_ok (read (c ∷ cs)) (λ t. types_at inside read k t.1 >>= λ ts. Ok (more_types t.0 ts.0, ts.1)) x h.1 in
          let q = bind_ok (types_at inside read k p.0.1) (λ ts. Ok (more_types p.0.0 ts.0, ts.1)) x p.2 in
          let one = takes (c ∷ cs) p.0 p.1 in
          let others = types_take inside read a s takes k p.0.1 q.0 q.1 in
          subst (TookTypes inside a s (c ∷ cs)) (ok_is (more_types p.0.0 q.0.0, q.0.1) x q.2)
          (both_are (is_complete false a s p.0.0) (are_complete a s q.0.0) one.0 others.0, one.1 ∙ ap (λ (y : List ℕ). code p.0.0 ++ y) others.1 ∙ sym (append_assoc (code p.0.0) (codes q.0.0) (ending inside q.0.1)))
    ]

struct_of_takes : (y : Tys × List ℕ) (x : Ty × List ℕ) → struct_of y ≡ Ok x → (has_types y.0 ≡ true) × (x ≡ (struct y.0, y.1))
struct_of_takes (no_types, rest) x e = absurd cc
struct_of_takes (more_types t ts, rest) x e = (refl, sym (ok_is (struct (more_types t ts), rest) x e))

entry_end_takes : (text rest : List ℕ) → entry_end_at text ≡ Ok rest → text ≡ entry_end ∷ rest
unfolding entry_end_at
entry_end_takes [] rest e = absurd cc
entry_end_takes (c ∷ cs) rest e =
    let g = guard_else (eqb c entry_end) (not_a_code c) (Ok cs) rest e in
    ap (λ (k : ℕ). k ∷ cs) (eqb-yes c entry_end g.0) ∙ ap (λ (y : List ℕ). entry_end ∷ y) (ok_is cs rest g.1)

entry_takes : (read : List ℕ → Parsed Ty) (a s : ℕ) → Takes read a s → (text : List ℕ) (x : Ty × List ℕ) → entry_type_at read text ≡ Ok x → TookType true a s (entry_begin ∷ text) x
unfolding entry_type_at
entry_takes read a s takes text x e =
    let k = bind_ok (key_type_at text) (λ k. read k.1 >>= λ t. entry_end_at t.1 >>= λ rest. Ok (entry k.0 t.0, rest)) x e in
    let t = bind_ok (read k.0.1) (λ t. entry_end_at t.1 >>= λ rest. Ok (entry k.0.0 t.0, rest)) x k.2 in
    let r = bind_ok (entry_end_at t.0.1) (λ rest. Ok (entry k.0.0 t.0.0, rest)) x t.2 in
    let one = takes k.0.1 t.0 t.1 in
    let key = key_takes text k.0 k.1 in
    let end = entry_end_takes t.0.1 r.0 r.1 in
    let parts : text ≡ basic_code k.0.0 ∷ ((code t.0.0 ++ entry_end ∷ []) ++ r.0) =
    key ∙ ap (λ (y : List ℕ). basic_code k.0.0 ∷ y) (one.1 ∙ ap (λ (y : List ℕ). code t.0.0 ++ y) end ∙ sym (append_assoc (code t.0.0) (entry_end ∷ []) r.0)) in
    subst (TookType true a s (entry_begin ∷ text)) (ok_is (entry k.0.0 t.0.0, r.0) x r.2) (one.0, ap (λ (y : List ℕ). entry_begin ∷ y) parts)

also_element : (t : Ty) (a s : ℕ) → is_complete false a s t ≡ true → is_complete true a s t ≡ true
also_element (basic b) a s h = h
also_element variant a s h = h
also_element (array t) a s h = h
also_element (entry k t) a s h = absurd cc
also_element (struct ts) a s h = h

element_takes : (read : List ℕ → Parsed Ty) (a s : ℕ) → Takes read a s → (text : List ℕ) (x : Ty × List ℕ) → element_type_at read text ≡ Ok x → TookType true a s text x
unfolding element_type_at
element_takes read a s takes [] x e = let p = takes [] x e in (also_element x.0 a s p.0, p.1)
element_takes read a s takes (c ∷ cs) x e =
    elim (chosen (eqb c entry_begin) (entry_type_at read cs) (read (c ∷ cs)) (Ok x) e) [
      | inl h ↦ let p = entry_takes read a s takes cs x h.1 in (p.0, ap (λ (k : ℕ). k ∷ cs) (eqb-yes c entry_begin h.0) ∙ p.1)
      | inr h ↦ let p = takes (c ∷ cs) x h.1 in (also_element x.0 a s p.0, p.1)
    ]

some : (n : ℕ) → eqb n 0 ≡ false → ltb 0 n ≡ true
some n h = grind (arith, nat_tests)

pub type_takes : (f a s : ℕ) (text : List ℕ) (x : Ty × List ℕ) → type_at f a s text ≡ Ok x → TookType false a s text x
unfolding type_at array_type_at struct_type_at basic_type_at
type_takes zero a s text x e = absurd cc
type_takes (suc f) a s [] x e = absurd cc
type_takes (suc f) a s (c ∷ cs) x e =
    elim (chosen (eqb c variant_code) (Ok (variant, cs)) _ (Ok x) e) [
      | inl h ↦ subst (TookType false a s (c ∷ cs)) (ok_is (variant, cs) x h.1) (refl, ap (λ (b : ℕ). b ∷ cs) (eqb-yes c variant_code h.0))
      | inr h1 ↦ elim (chosen (eqb c array_code) (cond (eqb a 0) (Err Signature) (element_type_at (type_at f (a - 1) s) cs >>= λ t. Ok (array t.0, t.1))) _ (Ok x) h1.1) [
        | inl h ↦
            let g = guard_ok (eqb a 0) Signature (element_type_at (type_at f (a - 1) s) cs >>= λ t. Ok (array t.0, t.1)) x h.1 in
            let p = bind_ok (element_type_at (type_at f (a - 1) s) cs) (λ t. Ok (array t.0, t.1)) x g.1 in
            let one = element_takes (type_at f (a - 1) s) (a - 1) s (type_takes f (a - 1) s) cs p.0 p.1 in
            subst (TookType false a s (c ∷ cs)) (ok_is (array p.0.0, p.0.1) x p.2)
            (both_are (ltb 0 a) (is_complete true (a - 1) s p.0.0) (some a g.0) one.0, ap (λ (b : ℕ). b ∷ cs) (eqb-yes c array_code h.0) ∙ ap (λ (y : List ℕ). array_code ∷ y) one.1)
        | inr h2 ↦ elim (chosen (eqb c struct_begin) (cond (eqb s 0) (Err Signature) (types_at true (type_at f a (s - 1)) (length cs) cs >>= struct_of)) _ (Ok x) h2.1) [
          | inl h ↦
              let g = guard_ok (eqb s 0) Signature (types_at true (type_at f a (s - 1)) (length cs) cs >>= struct_of) x h.1 in
              let p = bind_ok (types_at true (type_at f a (s - 1)) (length cs) cs) struct_of x g.1 in
              let all = types_take true (type_at f a (s - 1)) a (s - 1) (type_takes f a (s - 1)) (length cs) cs p.0 p.1 in
              let made = struct_of_takes p.0 x p.2 in
              subst (TookType false a s (c ∷ cs)) (sym made.1) (
                both_are (ltb 0 s) (has_types p.0.0 && are_complete a (s - 1) p.0.0) (some s g.0) (both_are (has_types p.0.0) (are_complete a (s - 1) p.0.0) made.0 all.0),
                ap (λ (b : ℕ). b ∷ cs) (eqb-yes c struct_begin h.0) ∙ ap (λ (y : List ℕ). struct_begin ∷ y) (all.1 ∙ sym (append_assoc (codes p.0.0) (struct_end ∷ []) p.0.1)),
              )
          | inr h3 ↦
              let p = bind_ok (key_type_at (c ∷ cs)) (λ b. Ok (basic b.0, b.1)) x h3.1 in
              subst (TookType false a s (c ∷ cs)) (ok_is (basic p.0.0, p.0.1) x p.2) (refl, key_takes (c ∷ cs) p.0 p.1)
        ]
      ]
    ]

pub signature_takes : (text : List ℕ) (ts : Tys) → signature_of text ≡ Ok ts → IsSignature ts × (text ≡ codes ts)
unfolding signature_of
signature_takes text ts e =
    let g = guard_ok (ltb max_signature_length (length text)) Signature (types_at false complete_type_at (length text) text >>= λ ts. Ok ts.0) ts e in
    let p = bind_ok (types_at false complete_type_at (length text) text) (λ ts. Ok ts.0) ts g.1 in
    let all = types_take false complete_type_at max_array_nesting max_struct_nesting (type_takes 65 max_array_nesting max_struct_nesting) (length text) text p.0 p.1 in
    let is : p.0.0 ≡ ts = ok_is p.0.0 ts p.2 in
    let whole : text ≡ codes p.0.0 = all.1 ∙ append-nil (codes p.0.0) in
    let short : length text ≤ max_signature_length = ltb-false _ _ g.0 in
    let valid : IsSignature p.0.0 = both_are (are_complete max_array_nesting max_struct_nesting p.0.0) (leb (length (codes p.0.0)) max_signature_length) all.0 (leb_true _ _ (omega (arith, ap length whole))) in
    subst (λ (us : Tys). IsSignature us × (text ≡ codes us)) is (valid, whole)

alone_takes : (y : Ty × List ℕ) (t : Ty) → alone y ≡ Ok t → (y.0 ≡ t) × (y.1 ≡ [])
alone_takes (u, []) t e = (ok_is u t e, refl)
alone_takes (u, c ∷ cs) t e = absurd cc

pub variant_type_takes : (text : List ℕ) (t : Ty) → length text ≤ max_signature_length → variant_type_of text ≡ Ok t → IsSignature (one_type t) × (text ≡ codes (one_type t))
unfolding variant_type_of
variant_type_takes text t short e =
    let a = bind_ok (complete_type_at text) alone t e in
    let b = type_takes 65 max_array_nesting max_struct_nesting text a.0 a.1 in
    let c = alone_takes a.0 t a.2 in
    let whole : text ≡ codes (one_type a.0.0) = b.1 ∙ ap (λ (y : List ℕ). code a.0.0 ++ y) c.1 in
    let valid : IsSignature (one_type a.0.0) =
    both_are (are_complete max_array_nesting max_struct_nesting (one_type a.0.0)) (leb (length (codes (one_type a.0.0))) max_signature_length)
    (both_are (is_complete false max_array_nesting max_struct_nesting a.0.0) true b.0 refl)
    (leb_true _ _ (omega (arith, ap length whole))) in
    subst (λ (u : Ty). IsSignature (one_type u) × (text ≡ codes (one_type u))) c.0 (valid, whole)
