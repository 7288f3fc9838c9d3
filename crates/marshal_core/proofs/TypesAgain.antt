-- A type that stands in a signature is read, whatever follows.
use Rattle.std.proofs.Common.{◌≡◌, ℕ, zero, suc, ◌-◌, ◌+◌, ◌≤◌, ◌<◌, Bool, true, false, eqb, ltb, leb, List, [], ◌∷◌, ◌++◌, length, Ok, refl, sym, ap, ◌∙◌, append_assoc, arith}
use Rattle.std.specs.Prelude.{◌&&◌}
use Rattle.std.proofs.lemmas.Bool.{le-ltb, ltb-true}
use Rattle.std.proofs.lemmas.Bool.Decides.{nat_tests}
use Rattle.std.proofs.lemmas.List.{length-append, append-nil}
use Rattle.marshal_core.specs.declared.data_type.BasicType.{BasicType}
use Rattle.marshal_core.specs.declared.data_type.BasicType.TheVariants as of_type
use Rattle.marshal_core.specs.Types.{Ty, basic, variant, array, entry, struct, Tys, no_types, more_types, one_type}
use Rattle.marshal_core.specs.Signatures.{Parsed, basic_code, code, codes, struct_end, entry_end, entry_begin, max_signature_length, max_array_nesting, max_struct_nesting, has_types, is_complete, are_complete, IsSignature, key_type_at, entry_end_at, entry_type_at, element_type_at, array_type_at, types_at, struct_of, struct_type_at, basic_type_at, type_at, complete_type_at, signature_of, variant_type_of}
use Rattle.marshal_core.proofs.Results.{both_true, leb-yes}

-- ---- basic types

pub key_again : (b : BasicType) (rest : List ℕ) → key_type_at (basic_code b ∷ rest) ≡ Ok (b, rest)
unfolding key_type_at
key_again of_type.Byte rest = refl
key_again of_type.Boolean rest = refl
key_again of_type.Int16 rest = refl
key_again of_type.Uint16 rest = refl
key_again of_type.Int32 rest = refl
key_again of_type.Uint32 rest = refl
key_again of_type.Int64 rest = refl
key_again of_type.Uint64 rest = refl
key_again of_type.Double rest = refl
key_again of_type.String rest = refl
key_again of_type.ObjectPath rest = refl
key_again of_type.Signature rest = refl

basic_again : (b : BasicType) (f a s : ℕ) (rest : List ℕ) → type_at (suc f) a s (basic_code b ∷ rest) ≡ Ok (basic b, rest)
unfolding type_at basic_type_at key_type_at
basic_again of_type.Byte f a s rest = refl
basic_again of_type.Boolean f a s rest = refl
basic_again of_type.Int16 f a s rest = refl
basic_again of_type.Uint16 f a s rest = refl
basic_again of_type.Int32 f a s rest = refl
basic_again of_type.Uint32 f a s rest = refl
basic_again of_type.Int64 f a s rest = refl
basic_again of_type.Uint64 f a s rest = refl
basic_again of_type.Double f a s rest = refl
basic_again of_type.String f a s rest = refl
basic_again of_type.ObjectPath f a s rest = refl
basic_again of_type.Signature f a s rest = refl

abbrev Begins : List ℕ → Type 0
Begins text = (c : ℕ) × (cs : List ℕ) × (text ≡ c ∷ cs) × (eqb c struct_end ≡ false) × (eqb c entry_begin ≡ false)

basic_begins : (b : BasicType) → Begins (code (basic b))
basic_begins of_type.Byte = (basic_code of_type.Byte, [], refl, refl, refl)
basic_begins of_type.Boolean = (basic_code of_type.Boolean, [], refl, refl, refl)
basic_begins of_type.Int16 = (basic_code of_type.Int16, [], refl, refl, refl)
basic_begins of_type.Uint16 = (basic_code of_type.Uint16, [], refl, refl, refl)
basic_begins of_type.Int32 = (basic_code of_type.Int32, [], refl, refl, refl)
basic_begins of_type.Uint32 = (basic_code of_type.Uint32, [], refl, refl, refl)
basic_begins of_type.Int64 = (basic_code of_type.Int64, [], refl, refl, refl)
basic_begins of_type.Uint64 = (basic_code of_type.Uint64, [], refl, refl, refl)
basic_begins of_type.Double = (basic_code of_type.Double, [], refl, refl, refl)
basic_begins of_type.String = (basic_code of_type.String, [], refl, refl, refl)
basic_begins of_type.ObjectPath = (basic_code of_type.ObjectPath, [], refl, refl, refl)
basic_begins of_type.Signature = (basic_code of_type.Signature, [], refl, refl, refl)

-- no complete type begins as a struct ends or a dict entry begins
begins : (t : Ty) (a s : ℕ) → is_complete false a s t ≡ true → Begins (code t)
begins (basic b) a s h = basic_begins b
begins variant a s h = (118, [], refl, refl, refl)
begins (array t) a s h = (97, code t, refl, refl, refl)
begins (entry k t) a s h = absurd cc
begins (struct ts) a s h = (40, codes ts ++ 41 ∷ [], refl, refl, refl)

-- ---- steps

some_ltb : (n : ℕ) → ltb 0 n ≡ true → 0 < n
some_ltb n h = ltb-true 0 n h

not_none : (n : ℕ) → 0 < n → eqb n 0 ≡ false
not_none n h = grind (arith, nat_tests)

element_plain : (read : List ℕ → Parsed Ty) (t : Ty) (a s : ℕ) (rest : List ℕ) → is_complete false a s t ≡ true → read (code t ++ rest) ≡ Ok (t, rest) → element_type_at read (code t ++ rest) ≡ Ok (t, rest)
unfolding element_type_at
element_plain read t a s rest h e =
    let b = begins t a s h in
    let g : code t ++ rest ≡ b.0 ∷ (b.1 ++ rest) = ap (λ (x : List ℕ). x ++ rest) b.2 in
    let e2 : read (b.0 ∷ (b.1 ++ rest)) ≡ Ok (t, rest) = ap read (sym g) ∙ e in
    rw (g, b.4) e2

element_entry : (read : List ℕ → Parsed Ty) (k : BasicType) (t : Ty) (rest : List ℕ) → read (code t ++ (entry_end ∷ rest)) ≡ Ok (t, entry_end ∷ rest) → element_type_at read (code (entry k t) ++ rest) ≡ Ok (entry k t, rest)
unfolding element_type_at entry_type_at entry_end_at
element_entry read k t rest e =
    let g : (code t ++ entry_end ∷ []) ++ rest ≡ code t ++ (entry_end ∷ rest) = append_assoc (code t) (entry_end ∷ []) rest in
    rw (key_again k ((code t ++ entry_end ∷ []) ++ rest), g, e) refl

array_step : (f a s : ℕ) (t : Ty) (bs rest : List ℕ) → ltb 0 a ≡ true → element_type_at (type_at f (a - 1) s) bs ≡ Ok (t, rest) → type_at (suc f) a s (97 ∷ bs) ≡ Ok (array t, rest)
unfolding type_at array_type_at
array_step f a s t bs rest h e = rw (not_none a (some_ltb a h), e) refl

made_struct : (ts : Tys) (rest : List ℕ) → has_types ts ≡ true → struct_of (ts, rest) ≡ Ok (struct ts, rest)
made_struct no_types rest h = absurd cc
made_struct (more_types t ts) rest h = refl

struct_step : (f a s : ℕ) (ts : Tys) (bs rest : List ℕ) → ltb 0 s ≡ true → has_types ts ≡ true → types_at true (type_at f a (s - 1)) (length bs) bs ≡ Ok (ts, rest) → type_at (suc f) a s (40 ∷ bs) ≡ Ok (struct ts, rest)
unfolding type_at struct_type_at
struct_step f a s ts bs rest h some e = rw (not_none s (some_ltb s h), e) (made_struct ts rest some)

types_one : (inside : Bool) (read : List ℕ → Parsed Ty) (k : ℕ) (t : Ty) (ts : Tys) (a s : ℕ) (more rest : List ℕ) → is_complete false a s t ≡ true → read (code t ++ more) ≡ Ok (t, more) → types_at inside read k more ≡ Ok (ts, rest)
    → types_at inside read (suc k) (code t ++ more) ≡ Ok (more_types t ts, rest)
unfolding types_at
types_one inside read k t ts a s more rest h e f =
    let b = begins t a s h in
    let g : code t ++ more ≡ b.0 ∷ (b.1 ++ more) = ap (λ (x : List ℕ). x ++ more) b.2 in
    let e2 : read (b.0 ∷ (b.1 ++ more)) ≡ Ok (t, more) = ap read (sym g) ∙ e in
    let free : (inside && eqb b.0 struct_end) ≡ false = free_of inside b.0 b.3 in
    rw (g, free, e2, f) refl
  where
    free_of : (inside : Bool) (c : ℕ) → eqb c struct_end ≡ false → (inside && eqb c struct_end) ≡ false
    free_of true c h = h
    free_of false c h = refl

abbrev Closes : Bool → (List ℕ → Parsed Ty) → List ℕ → List ℕ → Type 0
Closes inside read stop rest = (k : ℕ) → length stop ≤ k → types_at inside read k stop ≡ Ok (no_types, rest)

closes_struct : (read : List ℕ → Parsed Ty) (rest : List ℕ) → Closes true read (struct_end ∷ rest) rest
unfolding types_at
closes_struct read rest zero le = absurd (omega arith)
closes_struct read rest (suc k) le = refl

closes_text : (read : List ℕ → Parsed Ty) → Closes false read [] []
unfolding types_at
closes_text read zero le = refl
closes_text read (suc k) le = refl

-- ---- types

mutual
  unfolding type_at

  pub type_again : (t : Ty) (f a s : ℕ) (rest : List ℕ) → a + s + 1 ≤ f → is_complete false a s t ≡ true → type_at f a s (code t ++ rest) ≡ Ok (t, rest)
  type_again t zero a s rest le h = absurd (omega arith)
  type_again (basic b) (suc f) a s rest le h = basic_again b f a s rest
  type_again variant (suc f) a s rest le h = refl
  type_again (array (entry k t)) (suc f) a s rest le h =
      let p = both_true (ltb 0 a) (is_complete true (a - 1) s (entry k t)) h in
      array_step f a s (entry k t) (code (entry k t) ++ rest) rest p.0
      (element_entry (type_at f (a - 1) s) k t rest (type_again t f (a - 1) s (entry_end ∷ rest) (omega (arith, some_ltb a p.0)) p.1))
  type_again (array t) (suc f) a s rest le h =
      let p = both_true (ltb 0 a) (is_complete true (a - 1) s t) h in
      array_step f a s t (code t ++ rest) rest p.0
      (element_plain (type_at f (a - 1) s) t (a - 1) s rest p.1 (type_again t f (a - 1) s rest (omega (arith, some_ltb a p.0)) p.1))
  type_again (entry k t) (suc f) a s rest le h = absurd cc
  type_again (struct ts) (suc f) a s rest le h =
      let p = both_true (ltb 0 s) (has_types ts && are_complete a (s - 1) ts) h in
      let q = both_true (has_types ts) (are_complete a (s - 1) ts) p.1 in
      let g : (codes ts ++ struct_end ∷ []) ++ rest ≡ codes ts ++ (struct_end ∷ rest) = append_assoc (codes ts) (struct_end ∷ []) rest in
      struct_step f a s ts ((codes ts ++ struct_end ∷ []) ++ rest) rest p.0 q.0
      (rw g (types_again ts true f a (s - 1) (length (codes ts ++ (struct_end ∷ rest))) (struct_end ∷ rest) rest (omega (arith, some_ltb s p.0)) q.1 (closes_struct (type_at f a (s - 1)) rest) (omega arith)))

  pub types_again : (ts : Tys) (inside : Bool) (f a s k : ℕ) (stop rest : List ℕ) → a + s + 1 ≤ f → are_complete a s ts ≡ true → Closes inside (type_at f a s) stop rest → length (codes ts ++ stop) ≤ k
      → types_at inside (type_at f a s) k (codes ts ++ stop) ≡ Ok (ts, rest)
  types_again no_types inside f a s k stop rest le h closes long = closes k long
  types_again (more_types t ts) inside f a s zero stop rest le h closes long =
      let p = both_true (is_complete false a s t) (are_complete a s ts) h in
      let b = begins t a s p.0 in
      absurd (omega (arith, length-append (code t ++ codes ts) stop, length-append (code t) (codes ts), ap length b.2))
  types_again (more_types t ts) inside f a s (suc k) stop rest le h closes long =
      let p = both_true (is_complete false a s t) (are_complete a s ts) h in
      let b = begins t a s p.0 in
      let g : (code t ++ codes ts) ++ stop ≡ code t ++ (codes ts ++ stop) = append_assoc (code t) (codes ts) stop in
      rw g (types_one inside (type_at f a s) k t ts a s (codes ts ++ stop) rest p.0
      (type_again t f a s (codes ts ++ stop) le p.0)
      (types_again ts inside f a s k stop rest le p.1 closes (omega (arith, ap length g, length-append (code t) (codes ts ++ stop), ap length b.2))))

-- ---- signatures

pub signature_again : (ts : Tys) → IsSignature ts → signature_of (codes ts) ≡ Ok ts
unfolding signature_of
signature_again ts h =
    let p = both_true (are_complete max_array_nesting max_struct_nesting ts) (leb (length (codes ts)) max_signature_length) h in
    let short : ltb max_signature_length (length (codes ts)) ≡ false = le-ltb _ _ (leb-yes _ _ p.1) in
    let e : types_at false complete_type_at (length (codes ts)) (codes ts ++ []) ≡ Ok (ts, []) = types_again ts false 65 32 32 (length (codes ts)) [] [] (omega arith) p.0 (closes_text complete_type_at) (omega (arith, length-append (codes ts) [])) in
    let e2 : types_at false complete_type_at (length (codes ts)) (codes ts) ≡ Ok (ts, []) = ap (types_at false complete_type_at (length (codes ts))) (sym (append-nil (codes ts))) ∙ e in
    rw (short, e2) refl

pub variant_type_again : (t : Ty) → IsSignature (one_type t) → variant_type_of (codes (one_type t)) ≡ Ok t
unfolding variant_type_of
variant_type_again t h =
    let p = both_true (are_complete max_array_nesting max_struct_nesting (one_type t)) (leb (length (codes (one_type t))) max_signature_length) h in
    let q = both_true (is_complete false max_array_nesting max_struct_nesting t) true p.0 in
    rw (type_again t 65 32 32 [] (omega arith) q.0) refl
