-- Codes of types, and what they are codes of.
use Rattle.std.proofs.Common.{◌≡◌, ℕ, ◌+◌, ◌<◌, Option, Some, None, List, [], ◌∷◌, ◌++◌, length, get_or, drop, refl, sym, ap, ◌∙◌, append_assoc, arith}
use Rattle.std.proofs.lemmas.List.{append-nil}
use Rattle.marshal_core.specs.declared.data_type.BasicType.{BasicType}
use Rattle.marshal_core.specs.declared.data_type.BasicType.TheVariants as of_type
use Rattle.marshal_core.specs.declared.data_type.DataType.{DataType}
use Rattle.marshal_core.specs.Types.{Ty, basic, variant, array, entry, struct, Tys, no_types, more_types, ty_of, types_of}
use Rattle.marshal_core.specs.Signatures.{basic_code, basic_types, with_code, code, codes}
use Rattle.marshal.proofs.Loops.{drop_one}

-- ---- one type after the other, as a loop writes them

pub codes_next : (xs : List DataType) (i : ℕ) (x : DataType) (out after total : List ℕ) → i < length xs → x ≡ get_or xs i x → after ≡ out ++ code (ty_of x) → out ++ codes (types_of (drop i xs)) ≡ total → after ++ codes (types_of (drop (i + 1) xs)) ≡ total
codes_next xs i x out after total lt e put so_far =
    ap (λ (o : List ℕ). o ++ codes (types_of (drop (i + 1) xs))) put ∙ append_assoc out (code (ty_of x)) (codes (types_of (drop (i + 1) xs))) ∙ ap (λ (ys : List DataType). out ++ codes (types_of ys)) (sym (drop_one xs i x lt e)) ∙ so_far

pub codes_end : (xs : List DataType) (i : ℕ) (out total : List ℕ) → drop i xs ≡ [] → out ++ codes (types_of (drop i xs)) ≡ total → out ≡ total
codes_end xs i out total none so_far = sym (append-nil out) ∙ ap (λ (ys : List DataType). out ++ codes (types_of ys)) (sym none) ∙ so_far

-- ---- a code is that of one type

code_known : (b : BasicType) → with_code (basic_code b) basic_types ≡ Some b
code_known of_type.Byte = refl
code_known of_type.Boolean = refl
code_known of_type.Int16 = refl
code_known of_type.Uint16 = refl
code_known of_type.Int32 = refl
code_known of_type.Uint32 = refl
code_known of_type.Int64 = refl
code_known of_type.Uint64 = refl
code_known of_type.Double = refl
code_known of_type.String = refl
code_known of_type.ObjectPath = refl
code_known of_type.Signature = refl

some_is : (a b : BasicType) → ◌≡◌ {A = Option BasicType} (Some a) (Some b) → a ≡ b
some_is a b e = cc

pub one_basic : (a b : BasicType) → basic_code a ≡ basic_code b → a ≡ b
one_basic a b e = some_is a b (sym (code_known a) ∙ ap (λ (c : ℕ). with_code c basic_types) e ∙ code_known b)

no_basic : (b : BasicType) (c : ℕ) → with_code c basic_types ≡ None → basic_code b ≡ c → ⊥
no_basic b c none e = let f : ◌≡◌ {A = Option BasicType} (Some b) None = sym (code_known b) ∙ ap (λ (c : ℕ). with_code c basic_types) e ∙ none in absurd cc

first_is : (a b : ℕ) (x y : List ℕ) → a ∷ x ≡ b ∷ y → a ≡ b
first_is a b x y e = cc

rest_is : (a b : ℕ) (x y : List ℕ) → a ∷ x ≡ b ∷ y → x ≡ y
rest_is a b x y e = cc

inner : (k : BasicType) (t : Ty) (x : List ℕ) → code (entry k t) ++ x ≡ 123 ∷ basic_code k ∷ (code t ++ 125 ∷ x)
inner k t x = ap (λ (z : List ℕ). 123 ∷ basic_code k ∷ z) (append_assoc (code t) (125 ∷ []) x)

fields_inner : (ts : Tys) (x : List ℕ) → code (struct ts) ++ x ≡ 40 ∷ (codes ts ++ 41 ∷ x)
fields_inner ts x = ap (λ (z : List ℕ). 40 ∷ z) (append_assoc (codes ts) (41 ∷ []) x)

more_inner : (t : Ty) (ts : Tys) (x : List ℕ) → codes (more_types t ts) ++ x ≡ code t ++ (codes ts ++ x)
more_inner t ts x = append_assoc (code t) (codes ts) x

-- what begins no type
abbrev Stops : List ℕ → Type 0
Stops x = (t : Ty) (y : List ℕ) → code t ++ y ≡ x → ⊥

end_stops : (x : List ℕ) → Stops (41 ∷ x)
end_stops x (basic b) y e = no_basic b 41 refl (first_is (basic_code b) 41 y x e)
end_stops x variant y e = absurd (omega (arith, first_is 118 41 y x e))
end_stops x (array t) y e = absurd (omega (arith, first_is 97 41 (code t ++ y) x e))
end_stops x (entry k t) y e = absurd (omega (arith, first_is 123 41 (basic_code k ∷ (code t ++ 125 ∷ y)) x (sym (inner k t y) ∙ e)))
end_stops x (struct ts) y e = absurd (omega (arith, first_is 40 41 (codes ts ++ 41 ∷ y) x (sym (fields_inner ts y) ∙ e)))

none_stops : Stops []
none_stops (basic b) y e = absurd cc
none_stops variant y e = absurd cc
none_stops (array t) y e = absurd cc
none_stops (entry k t) y e = absurd cc
none_stops (struct ts) y e = absurd cc

abbrev OneType : Ty → Ty → List ℕ → List ℕ → Type 0
OneType t u x y = (t ≡ u) × (x ≡ y)

mutual
  one_code : (t u : Ty) (x y : List ℕ) → code t ++ x ≡ code u ++ y → OneType t u x y
  one_code (basic a) (basic b) x y e = (ap basic (one_basic a b (first_is (basic_code a) (basic_code b) x y e)), rest_is (basic_code a) (basic_code b) x y e)
  one_code (basic a) variant x y e = absurd (no_basic a 118 refl (first_is (basic_code a) 118 x y e))
  one_code (basic a) (array u) x y e = absurd (no_basic a 97 refl (first_is (basic_code a) 97 x (code u ++ y) e))
  one_code (basic a) (entry k u) x y e = absurd (no_basic a 123 refl (first_is (basic_code a) 123 x (basic_code k ∷ (code u ++ 125 ∷ y)) (e ∙ inner k u y)))
  one_code (basic a) (struct us) x y e = absurd (no_basic a 40 refl (first_is (basic_code a) 40 x (codes us ++ 41 ∷ y) (e ∙ fields_inner us y)))
  one_code variant (basic b) x y e = absurd (no_basic b 118 refl (first_is (basic_code b) 118 y x (sym e)))
  one_code variant variant x y e = (refl, rest_is 118 118 x y e)
  one_code variant (array u) x y e = absurd (omega (arith, first_is 118 97 x (code u ++ y) e))
  one_code variant (entry k u) x y e = absurd (omega (arith, first_is 118 123 x (basic_code k ∷ (code u ++ 125 ∷ y)) (e ∙ inner k u y)))
  one_code variant (struct us) x y e = absurd (omega (arith, first_is 118 40 x (codes us ++ 41 ∷ y) (e ∙ fields_inner us y)))
  one_code (array t) (basic b) x y e = absurd (no_basic b 97 refl (first_is (basic_code b) 97 y (code t ++ x) (sym e)))
  one_code (array t) variant x y e = absurd (omega (arith, first_is 97 118 (code t ++ x) y e))
  one_code (array t) (array u) x y e = let p = one_code t u x y (rest_is 97 97 (code t ++ x) (code u ++ y) e) in (ap array p.0, p.1)
  one_code (array t) (entry k u) x y e = absurd (omega (arith, first_is 97 123 (code t ++ x) (basic_code k ∷ (code u ++ 125 ∷ y)) (e ∙ inner k u y)))
  one_code (array t) (struct us) x y e = absurd (omega (arith, first_is 97 40 (code t ++ x) (codes us ++ 41 ∷ y) (e ∙ fields_inner us y)))
  one_code (entry j t) (basic b) x y e = absurd (no_basic b 123 refl (first_is (basic_code b) 123 y (basic_code j ∷ (code t ++ 125 ∷ x)) (sym e ∙ inner j t x)))
  one_code (entry j t) variant x y e = absurd (omega (arith, first_is 123 118 (basic_code j ∷ (code t ++ 125 ∷ x)) y (sym (inner j t x) ∙ e)))
  one_code (entry j t) (array u) x y e = absurd (omega (arith, first_is 123 97 (basic_code j ∷ (code t ++ 125 ∷ x)) (code u ++ y) (sym (inner j t x) ∙ e)))
  one_code (entry j t) (entry k u) x y e =
      let f = rest_is 123 123 (basic_code j ∷ (code t ++ 125 ∷ x)) (basic_code k ∷ (code u ++ 125 ∷ y)) (sym (inner j t x) ∙ e ∙ inner k u y) in
      let p = one_code t u (125 ∷ x) (125 ∷ y) (rest_is (basic_code j) (basic_code k) (code t ++ 125 ∷ x) (code u ++ 125 ∷ y) f) in
      let q = one_basic j k (first_is (basic_code j) (basic_code k) (code t ++ 125 ∷ x) (code u ++ 125 ∷ y) f) in
      (ap (λ (z : BasicType). entry z t) q ∙ ap (entry k) p.0, rest_is 125 125 x y p.1)
  one_code (entry j t) (struct us) x y e = absurd (omega (arith, first_is 123 40 (basic_code j ∷ (code t ++ 125 ∷ x)) (codes us ++ 41 ∷ y) (sym (inner j t x) ∙ e ∙ fields_inner us y)))
  one_code (struct ts) (basic b) x y e = absurd (no_basic b 40 refl (first_is (basic_code b) 40 y (codes ts ++ 41 ∷ x) (sym e ∙ fields_inner ts x)))
  one_code (struct ts) variant x y e = absurd (omega (arith, first_is 40 118 (codes ts ++ 41 ∷ x) y (sym (fields_inner ts x) ∙ e)))
  one_code (struct ts) (array u) x y e = absurd (omega (arith, first_is 40 97 (codes ts ++ 41 ∷ x) (code u ++ y) (sym (fields_inner ts x) ∙ e)))
  one_code (struct ts) (entry k u) x y e = absurd (omega (arith, first_is 40 123 (codes ts ++ 41 ∷ x) (basic_code k ∷ (code u ++ 125 ∷ y)) (sym (fields_inner ts x) ∙ e ∙ inner k u y)))
  one_code (struct ts) (struct us) x y e =
      let p = one_codes ts us (41 ∷ x) (41 ∷ y) (end_stops x) (end_stops y) (rest_is 40 40 (codes ts ++ 41 ∷ x) (codes us ++ 41 ∷ y) (sym (fields_inner ts x) ∙ e ∙ fields_inner us y)) in
      (ap struct p.0, rest_is 41 41 x y p.1)

  one_codes : (ts us : Tys) (x y : List ℕ) → Stops x → Stops y → codes ts ++ x ≡ codes us ++ y → (ts ≡ us) × (x ≡ y)
  one_codes no_types no_types x y p q e = (refl, e)
  one_codes no_types (more_types u us) x y p q e = absurd (p u (codes us ++ y) (sym (more_inner u us y) ∙ sym e))
  one_codes (more_types t ts) no_types x y p q e = absurd (q t (codes ts ++ x) (sym (more_inner t ts x) ∙ e))
  one_codes (more_types t ts) (more_types u us) x y p q e =
      let f = one_code t u (codes ts ++ x) (codes us ++ y) (sym (more_inner t ts x) ∙ e ∙ more_inner u us y) in
      let g = one_codes ts us x y p q f.1 in
      (ap (λ (z : Ty). more_types z ts) f.0 ∙ ap (more_types u) g.0, g.1)

pub same_type : (t u : Ty) → code t ≡ code u → t ≡ u
same_type t u e = (one_code t u [] [] (ap (λ (z : List ℕ). z ++ []) e)).0

pub same_types : (ts us : Tys) → codes ts ≡ codes us → ts ≡ us
same_types ts us e = (one_codes ts us [] [] none_stops none_stops (ap (λ (z : List ℕ). z ++ []) e)).0
