-- Arguments of a body that spells its values.
use Rattle.std.proofs.Common.{◌≡◌, ℕ, ◌+◌, ◌%◌, ◌<◌, ◌≤◌, true, cond, ltb, leb, eqb, List, [], ◌∷◌, ◌++◌, length, get_or, take, drop, Result, Ok, Err, refl, sym, ap, subst, ◌∙◌, append-nil, arith}
use Rattle.std.specs.Prelude.{is_ok, IsUtf8, Option, Some, None}
use Rattle.std.specs.Str.{is_utf8}
use Rattle.std.specs.Int.{w32}
use Rattle.std.proofs.lemmas.Str.{IsUtf8-from_is_utf8}
use Rattle.std.proofs.lemmas.Bool.{ltb-false}
use Rattle.std.proofs.lemmas.List.{drop_at, length-append}
use Rattle.names.specs.declared.fault.NameFault.{NameFault}
use Rattle.names.specs.ObjectPath.{object_path_fault}
use Rattle.marshal_core.specs.declared.data_type.BasicType.{BasicType}
use Rattle.marshal_core.specs.declared.data_type.BasicType.TheVariants as of_type
use Rattle.marshal_core.specs.declared.fault.MarshalFault.{MarshalFault}
use Rattle.marshal_core.specs.declared.fault.MarshalFault.TheVariants.{Truncated, NulInText, Utf8}
use Rattle.marshal_core.specs.declared.order.Order.{Order}
use Rattle.marshal_core.specs.Types.{Ty, basic, Tys, no_types, more_types}
use Rattle.marshal_core.specs.Values.{a_basic, a_string, an_object_path, Val, Vals, more_values}
use Rattle.marshal_core.specs.Faults.{◌>>=◌}
use Rattle.marshal_core.specs.Signatures.{basic_types, code, codes, with_code, IsSignature}
use Rattle.marshal_core.specs.Spelling.{pad_len, pads, Spells}
use Rattle.marshal_core.specs.Reading.{Field, as_a, number, padding_at, fixed_at, number_at, content_at, string_at, unless_faulty, path_at, fields_at, value_at}
use Rattle.marshal_core.proofs.Results.{bind_ok, guard_ok, guard_else, ok_is, leb-no}
use Rattle.marshal.proofs.BasicTaken.{padding_takes}
use Rattle.marshal.proofs.BasicAgain.{length-pads}
use Rattle.marshal.proofs.Decoded.{is_read}
use Rattle.marshal_check.specs.Arguments.{BodyArgument, string_argument, path_argument, other_argument, argument_of, arguments_at, then_others, are_there}
use Rattle.marshal_check.specs.SignatureTexts.{is_signature_text, types_in}
use Rattle.marshal_check.proofs.Checked.{is_its_text}
use Rattle.marshal_check.proofs.Skipping.{is_basic}
use Rattle.marshal_check.proofs.Splits.{others_valid, text_types, text_valid}
use Rattle.marshal_check.proofs.Shown.{string_value, path_value}

ok_from : {A : Type 0} (r : Result A MarshalFault) → is_ok r ≡ true → (x : A) × (r ≡ Ok x)
ok_from (Ok x) e = (x, refl)
ok_from (Err f) e = absurd cc

-- ---- texts

-- the bytes behind the padding before a number
abbrev pub behind_gap : ℕ → List ℕ → List ℕ
behind_gap at bytes = drop (pad_len 4 at) bytes

-- a text where its number is this
pub record IsTextAt (order : Order) (at : ℕ) (bytes : List ℕ) (n : ℕ) : Type 0 where
  pub gap : pad_len 4 at ≤ length bytes
  pub four : 4 ≤ length (behind_gap at bytes)
  pub within : n < length (drop 4 (behind_gap at bytes))
  pub utf8 : IsUtf8 (take n (drop 4 (behind_gap at bytes)))
  pub reads : string_at order Truncated at bytes ≡ Ok (take n (drop 4 (behind_gap at bytes)), at + pad_len 4 at + 4 + n + 1, drop (n + 1) (drop 4 (behind_gap at bytes)))

abbrev pub its_number : Order → ℕ → List ℕ → ℕ
its_number order at bytes = number order w32 (take 4 (behind_gap at bytes))

padding_is : (short : MarshalFault) (at : ℕ) (bytes : List ℕ) (x : ℕ × List ℕ) → padding_at 4 short at bytes ≡ Ok x → (x ≡ (at + pad_len 4 at, behind_gap at bytes)) × (pad_len 4 at ≤ length bytes)
padding_is short at bytes x e =
    let p = padding_takes 4 short at bytes x e in
    let rest : behind_gap at bytes ≡ x.1 = ap (drop (pad_len 4 at)) p.0 ∙ drop_at (pads 4 at) x.1 (pad_len 4 at) (length-pads 4 at) in
    (rw (p.1, rest) refl, omega (arith, ap length p.0, length-append (pads 4 at) x.1, length-pads 4 at))

number_is : (order : Order) (short : MarshalFault) (at : ℕ) (bytes : List ℕ) (x : ℕ × ℕ × List ℕ) → number_at order w32 short at bytes ≡ Ok x
    → (x ≡ (its_number order at bytes, at + pad_len 4 at + 4, drop 4 (behind_gap at bytes))) × (pad_len 4 at ≤ length bytes) × (4 ≤ length (behind_gap at bytes))
unfolding number_at fixed_at
number_is order short at bytes x e =
    let f = bind_ok (padding_at 4 short at bytes >>= λ p. cond (ltb (length p.1) 4) (Err short) (Ok (take 4 p.1, p.0 + 4, drop 4 p.1))) (λ y. Ok (number order w32 y.0, y.1, y.2)) x e in
    let p = bind_ok (padding_at 4 short at bytes) (λ p. cond (ltb (length p.1) 4) (Err short) (Ok (take 4 p.1, p.0 + 4, drop 4 p.1))) f.0 f.1 in
    let g = guard_ok (ltb (length p.0.1) 4) short (Ok (take 4 p.0.1, p.0.0 + 4, drop 4 p.0.1)) f.0 p.2 in
    let q = padding_is short at bytes p.0 p.1 in
    let there : x ≡ (number order w32 (take 4 p.0.1), p.0.0 + 4, drop 4 p.0.1) =
    sym (ok_is (number order w32 f.0.0, f.0.1, f.0.2) x f.2) ∙ ap (λ (y : List ℕ × ℕ × List ℕ). (number order w32 y.0, y.1, y.2)) (sym (ok_is (take 4 p.0.1, p.0.0 + 4, drop 4 p.0.1) f.0 g.1)) in
    (there ∙ ap (λ (y : ℕ × List ℕ). (number order w32 (take 4 y.1), y.0 + 4, drop 4 y.1)) q.0, q.1, subst (λ (y : ℕ × List ℕ). 4 ≤ length y.1) q.0 (ltb-false _ _ g.0))

content_is : (short : MarshalFault) (n at : ℕ) (bytes : List ℕ) (x : List ℕ × ℕ × List ℕ) → content_at short n at bytes ≡ Ok x → (x ≡ (take n bytes, at + n + 1, drop (n + 1) bytes)) × (n < length bytes)
unfolding content_at
content_is short n at bytes x e =
    let a = guard_ok (leb (length bytes) n) short _ x e in
    let b = guard_ok _ NulInText _ x a.1 in
    let c = guard_else (eqb (get_or bytes n 0) 0) NulInText (Ok (take n bytes, at + n + 1, drop (n + 1) bytes)) x b.1 in
    (sym (ok_is (take n bytes, at + n + 1, drop (n + 1) bytes) x c.1), leb-no _ _ a.0)

pub text_at : (order : Order) (at n : ℕ) (bytes : List ℕ) → is_ok (string_at order Truncated at bytes) ≡ true → n ≡ its_number order at bytes → IsTextAt order at bytes n
unfolding string_at
text_at order at n bytes there is =
    let x = ok_from (string_at order Truncated at bytes) there in
    let b = bind_ok (number_at order w32 Truncated at bytes) (λ n. content_at Truncated n.0 n.1 n.2 >>= λ text. cond (is_utf8 text.0) (Ok text) (Err Utf8)) x.0 x.1 in
    let a = bind_ok (content_at Truncated b.0.0 b.0.1 b.0.2) (λ text. cond (is_utf8 text.0) (Ok text) (Err Utf8)) x.0 b.2 in
    let u = guard_else (is_utf8 a.0.0) Utf8 (Ok a.0) x.0 a.2 in
    let m = number_is order Truncated at bytes b.0 b.1 in
    let same : b.0 ≡ (n, at + pad_len 4 at + 4, drop 4 (behind_gap at bytes)) = m.0 ∙ ap (λ (k : ℕ). (k, at + pad_len 4 at + 4, drop 4 (behind_gap at bytes))) (sym is) in
    let c = subst (λ (y : ℕ × ℕ × List ℕ). (a.0 ≡ (take y.0 y.2, y.1 + y.0 + 1, drop (y.0 + 1) y.2)) × (y.0 < length y.2)) same (content_is Truncated b.0.0 b.0.1 b.0.2 a.0 a.1) in
    record {
      gap = m.1;
      four = m.2;
      within = c.1;
      utf8 = subst (λ (y : List ℕ × ℕ × List ℕ). IsUtf8 y.0) c.0 (IsUtf8-from_is_utf8 a.0.0 u.0);
      reads = x.1 ∙ ap (λ (y : List ℕ × ℕ × List ℕ). Ok y) (sym (ok_is a.0 x.0 u.1) ∙ c.0);
    }

-- an object path is a string
path_string : (order : Order) (short : MarshalFault) (at : ℕ) (bytes : List ℕ) (x : List ℕ × ℕ × List ℕ) → path_at order short at bytes ≡ Ok x → string_at order short at bytes ≡ Ok x
unfolding path_at
path_string order short at bytes x e =
    let a = bind_ok (string_at order short at bytes) (λ text. unless_faulty text (object_path_fault text.0)) x e in
    let same : a.0 ≡ x = at_fault a.0 (object_path_fault a.0.0) a.2 in
    a.1 ∙ ap (λ (y : List ℕ × ℕ × List ℕ). Ok y) same where
      at_fault : (y : List ℕ × ℕ × List ℕ) (o : Option NameFault) → unless_faulty y o ≡ Ok x → y ≡ x
      at_fault y None e = ok_is y x e
      at_fault y (Some f) e = absurd cc

-- ---- the first of the types

no_head : (text others : List ℕ) (c : ℕ) → text ≡ c ∷ others → text ≡ [] → ⊥
no_head text others c f e = omega (arith, ap length (sym f ∙ e))

abbrev pub Follow : Ty → List ℕ → List ℕ → Type 0
Follow t text others = (is_signature_text others ≡ true) × (types_in text ≡ more_types t (types_in others))

begins_basic : (ts : Tys) (text others : List ℕ) (c : ℕ) (b : BasicType) → IsSignature ts → text ≡ codes ts → text ≡ c ∷ others → with_code c basic_types ≡ Some b → (is_signature_text others ≡ true) × (ts ≡ more_types (basic b) (types_in others))
begins_basic no_types text others c b h e f g = absurd (no_head text others c f e)
begins_basic (more_types t us) text others c b h e f g =
    let k : t ≡ basic b = is_basic t (codes us) text others c b e f g in
    let o : others ≡ codes us = ap (drop 1) (sym f ∙ e ∙ ap (λ (u : Ty). code u ++ codes us) k) in
    let ho = others_valid t us h in
    (text_valid others us ho o, ap (λ (u : Ty). more_types u us) k ∙ ap (more_types (basic b)) (sym (text_types others us ho o)))

pub basic_first : (text others : List ℕ) (c : ℕ) (b : BasicType) → is_signature_text text ≡ true → text ≡ c ∷ others → with_code c basic_types ≡ Some b → Follow (basic b) text others
basic_first text others c b valid f g = let p = is_its_text text valid in begins_basic (types_in text) text others c b p.0 p.1 f g

begins_some : (ts : Tys) (text : List ℕ) → IsSignature ts → text ≡ codes ts → 0 < length text → (t : Ty) × (others : List ℕ) × ((is_signature_text others ≡ true) × (ts ≡ more_types t (types_in others))) × (text ≡ code t ++ others)
begins_some no_types text h e some = absurd (omega (arith, ap length e))
begins_some (more_types t us) text h e some = let ho = others_valid t us h in (t, codes us, (text_valid (codes us) us ho refl, ap (more_types t) (sym (text_types (codes us) us ho refl))), e)

-- the first type of a text, and the text of the others
pub text_some : (text : List ℕ) → is_signature_text text ≡ true → 0 < length text → (t : Ty) × (others : List ℕ) × Follow t text others × (text ≡ code t ++ others)
text_some text valid some = let p = is_its_text text valid in begins_some (types_in text) text p.0 p.1 some

pub any_first : (text others : List ℕ) → is_signature_text text ≡ true → 0 < length text → ((t : Ty) (tail : List ℕ) → text ≡ code t ++ tail → others ≡ tail) → (t : Ty) × Follow t text others × (text ≡ code t ++ others)
any_first text others valid some follows =
    let f = text_some text valid some in
    let o : others ≡ f.1 = follows f.0 f.1 f.3 in
    (f.0, subst (Follow f.0 text) (sym o) f.2, f.3 ∙ ap (λ (x : List ℕ). code f.0 ++ x) (sym o))

-- ---- the first of the values

first_there : (order : Order) (t : Ty) (us : Tys) (at : ℕ) (bytes : List ℕ) → are_there order (more_types t us) at bytes ≡ true → (v : Val × ℕ × List ℕ) × (value_at 64 order Truncated t at bytes ≡ Ok v) × (are_there order us v.1 v.2 ≡ true)
unfolding fields_at
first_there order t us at bytes e =
    let x = ok_from (fields_at (value_at 64 order) Truncated (more_types t us) at bytes) e in
    let v = bind_ok (value_at 64 order Truncated t at bytes) (λ v. fields_at (value_at 64 order) Truncated us v.1 v.2 >>= λ vs. Ok (more_values v.0 vs.0, vs.1, vs.2)) x.0 x.1 in
    let ws = bind_ok (fields_at (value_at 64 order) Truncated us v.0.1 v.0.2) (λ ws. Ok (more_values v.0.0 ws.0, ws.1, ws.2)) x.0 v.2 in
    (v.0, v.1, ap is_ok ws.1)

-- the first value is this one, and the others follow it
abbrev pub Steps : Order → List ℕ → ℕ → List ℕ → BodyArgument → List ℕ → ℕ → List ℕ → Type 0
Steps order text at bytes x others p rest = (arguments_at order (types_in text) at bytes ≡ x ∷ arguments_at order (types_in others) p rest) × (are_there order (types_in others) p rest ≡ true)

step : (order : Order) (t : Ty) (text others : List ℕ) (at p : ℕ) (bytes rest : List ℕ) (v : Val) → types_in text ≡ more_types t (types_in others) → are_there order (types_in text) at bytes ≡ true → value_at 64 order Truncated t at bytes ≡ Ok (v, p, rest)
    → Steps order text at bytes (argument_of v) others p rest
step order t text others at p bytes rest v e there r =
    let f = first_there order t (types_in others) at bytes (subst (λ (ts : Tys). are_there order ts at bytes ≡ true) e there) in
    let same : f.0 ≡ (v, p, rest) = ok_is f.0 (v, p, rest) (sym f.1 ∙ r) in
    (ap (λ (ts : Tys). arguments_at order ts at bytes) e ∙ ap (then_others (arguments_at order (types_in others))) r, subst (λ (y : Val × ℕ × List ℕ). are_there order (types_in others) y.1 y.2 ≡ true) same f.2)

-- ---- strings and object paths

pub string_there : (order : Order) (text others : List ℕ) (at : ℕ) (bytes : List ℕ) → types_in text ≡ more_types (basic of_type.String) (types_in others) → are_there order (types_in text) at bytes ≡ true → is_ok (string_at order Truncated at bytes) ≡ true
string_there order text others at bytes e there =
    let f = first_there order (basic of_type.String) (types_in others) at bytes (subst (λ (ts : Tys). are_there order ts at bytes ≡ true) e there) in
    let a = bind_ok (as_a a_string (string_at order Truncated at bytes)) (λ x. Ok (a_basic x.0, x.1, x.2)) f.0 (sym (string_value order Truncated at bytes) ∙ f.1) in
    let b = bind_ok (string_at order Truncated at bytes) (λ x. Ok (a_string x.0, x.1, x.2)) a.0 a.1 in
    ap is_ok b.1

pub path_there : (order : Order) (text others : List ℕ) (at : ℕ) (bytes : List ℕ) → types_in text ≡ more_types (basic of_type.ObjectPath) (types_in others) → are_there order (types_in text) at bytes ≡ true
    → (x : List ℕ × ℕ × List ℕ) × (path_at order Truncated at bytes ≡ Ok x) × (is_ok (string_at order Truncated at bytes) ≡ true)
path_there order text others at bytes e there =
    let f = first_there order (basic of_type.ObjectPath) (types_in others) at bytes (subst (λ (ts : Tys). are_there order ts at bytes ≡ true) e there) in
    let a = bind_ok (as_a an_object_path (path_at order Truncated at bytes)) (λ x. Ok (a_basic x.0, x.1, x.2)) f.0 (sym (path_value order Truncated at bytes) ∙ f.1) in
    let b = bind_ok (path_at order Truncated at bytes) (λ x. Ok (an_object_path x.0, x.1, x.2)) a.0 a.1 in
    (b.0, b.1, ap is_ok (path_string order Truncated at bytes b.0 b.1))

pub string_steps : (order : Order) (text others : List ℕ) (at p : ℕ) (bytes rest lent : List ℕ) → types_in text ≡ more_types (basic of_type.String) (types_in others) → are_there order (types_in text) at bytes ≡ true → string_at order Truncated at bytes ≡ Ok (lent, p, rest)
    → Steps order text at bytes (string_argument lent) others p rest
string_steps order text others at p bytes rest lent e there r =
    step order (basic of_type.String) text others at p bytes rest (a_basic (a_string lent)) e there (string_value order Truncated at bytes ∙ rw r refl)

pub path_steps : (order : Order) (text others : List ℕ) (at p : ℕ) (bytes rest lent : List ℕ) → types_in text ≡ more_types (basic of_type.ObjectPath) (types_in others) → are_there order (types_in text) at bytes ≡ true → string_at order Truncated at bytes ≡ Ok (lent, p, rest)
    → Steps order text at bytes (path_argument lent) others p rest
path_steps order text others at p bytes rest lent e there r =
    let q = path_there order text others at bytes e there in
    let same : q.0 ≡ (lent, p, rest) = ok_is q.0 (lent, p, rest) (sym (path_string order Truncated at bytes q.0 q.1) ∙ r) in
    let is : path_at order Truncated at bytes ≡ Ok (lent, p, rest) = q.1 ∙ ap (λ (y : List ℕ × ℕ × List ℕ). Ok y) same in
    step order (basic of_type.ObjectPath) text others at p bytes rest (a_basic (an_object_path lent)) e there (path_value order Truncated at bytes ∙ rw is refl)

-- ---- values of other types

pub other_steps : (order : Order) (t : Ty) (text others : List ℕ) (at p : ℕ) (bytes rest : List ℕ) → types_in text ≡ more_types t (types_in others) → are_there order (types_in text) at bytes ≡ true
    → ((v : Val) × (value_at 64 order Truncated t at bytes ≡ Ok (v, p, rest)) × (other_argument ≡ argument_of v)) → Steps order text at bytes other_argument others p rest
other_steps order t text others at p bytes rest e there (v, r, o) =
    subst (λ (x : BodyArgument). Steps order text at bytes x others p rest) (sym o) (step order t text others at p bytes rest v e there r)

none_refused : (x : MarshalFault) (v : Val × ℕ × List ℕ) (r : Field Val) → r ≡ Err x → r ≡ Ok v → ⊥
none_refused x v r e f = cc

pub not_refused : (order : Order) (t : Ty) (text others : List ℕ) (at : ℕ) (bytes : List ℕ) (x : MarshalFault) → types_in text ≡ more_types t (types_in others) → are_there order (types_in text) at bytes ≡ true → value_at 64 order Truncated t at bytes ≡ Err x → ⊥
not_refused order t text others at bytes x e there r =
    let f = first_there order t (types_in others) at bytes (subst (λ (ts : Tys). are_there order ts at bytes ≡ true) e there) in
    none_refused x f.0 (value_at 64 order Truncated t at bytes) r f.1

-- ---- a whole body

pub body_there : (order : Order) (offset : ℕ) (ts : Tys) (body : List ℕ) → (vs : Vals) × Spells order offset ts vs body → are_there order ts (offset % 8) body ≡ true
body_there order offset ts body (vs, h) =
    let d = bind_ok (fields_at (value_at 64 order) Truncated ts (offset % 8) body) _ (vs, length body) (is_read order ts offset body body [] vs (sym (append-nil body)) h) in
    ap is_ok d.1
