-- The codes of types, one after the other.
use Rattle.std.proofs.Common.{◌≡◌, ℕ, ◌+◌, ◌<◌, ◌≤◌, List, [], ◌∷◌, ◌++◌, length, get_or, take, sym, ap, ◌∙◌, append_assoc}
use Rattle.std.proofs.lemmas.List.{append-nil, take_more, take_all}
use Rattle.marshal_core.specs.declared.data_type.DataType.{DataType}
use Rattle.marshal_core.specs.Types.{ty_of, types_of, struct}
use Rattle.marshal_core.specs.Signatures.{code, codes}

codes_push : (xs : List DataType) (x : DataType) → codes (types_of xs) ++ code (ty_of x) ≡ codes (types_of (xs ++ x ∷ []))
codes_push [] x = sym (append-nil (code (ty_of x)))
codes_push (y ∷ xs) x = append_assoc (code (ty_of y)) (codes (types_of xs)) (code (ty_of x)) ∙ ap (λ z. code (ty_of y) ++ z) (codes_push xs x)

-- as a loop writes them
pub codes_more : (xs : List DataType) (i : ℕ) (x : DataType) → i < length xs → x ≡ get_or xs i x → codes (types_of (take i xs)) ++ code (ty_of x) ≡ codes (types_of (take (i + 1) xs))
codes_more xs i x lt e =
    codes_push (take i xs) x ∙ ap (λ y. codes (types_of (take i xs ++ y ∷ []))) e ∙ ap (λ ys. codes (types_of ys)) (sym (take_more xs i x lt))

pub codes_of_struct : (xs : List DataType) (i : ℕ) → length xs ≤ i → 40 ∷ (codes (types_of (take i xs)) ++ 41 ∷ []) ≡ code (struct (types_of xs))
codes_of_struct xs i all = ap (λ ys. 40 ∷ (codes (types_of ys) ++ 41 ∷ [])) (take_all i xs all)
