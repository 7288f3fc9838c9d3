-- What decode answers.
use Rattle.std.proofs.Common.{◌≡◌, ℕ, ◌-◌, ◌+◌, ◌%◌, ◌≤◌, List, ◌++◌, length, take, Result, Ok, Err, IfOk, refl, sym, ap, subst, ◌∙◌, arith}
use Rattle.std.specs.Global.{Vec}
use Rattle.std.proofs.lemmas.List.{take_at, length-append}
use Rattle.marshal_core.specs.declared.fault.MarshalFault.{MarshalFault}
use Rattle.marshal_core.specs.declared.fault.MarshalFault.TheVariants.{Truncated}
use Rattle.marshal_core.specs.declared.order.Order.{Order}
use Rattle.marshal_core.specs.declared.value.Value.{Value}
use Rattle.marshal_core.specs.Types.{Tys}
use Rattle.marshal_core.specs.Values.{Vals, values_of}
use Rattle.marshal_core.specs.Signatures.{IsSignature}
use Rattle.marshal_core.specs.Faults.{Gives}
use Rattle.marshal_core.specs.Spelling.{SpellFields, Spells}
use Rattle.marshal_core.specs.Reading.{fields_at, value_at, decode_at}
use Rattle.marshal_core.proofs.Results.{bind_ok, done, ok_is}
use Rattle.marshal.proofs.Numbers.{AllBytes}
use Rattle.marshal.proofs.ValuesAgain.{fields_again}
use Rattle.marshal.proofs.ValuesTaken.{fields_taken}
use Rattle.marshal.proofs.Moves.{fields_move}
use Rattle.marshal.proofs.Once.{one_fields}

abbrev pub Found : Order → Tys → ℕ → List ℕ → Vals × ℕ → Type 0
Found order ts offset bytes y = (y.1 ≤ length bytes) × Spells order offset ts y.0 (take y.1 bytes)

pub is_found : (order : Order) (ts : Tys) (offset : ℕ) (bytes : List ℕ) (y : Vals × ℕ) → IsSignature ts → AllBytes bytes → decode_at order ts offset bytes ≡ Ok y → Found order ts offset bytes y
is_found order ts offset bytes y valid fits e =
    let a = bind_ok (fields_at (value_at 64 order) Truncated ts (offset % 8) bytes) (λ x. Ok (x.0, x.1 - offset % 8)) y e in
    let f = fields_taken 64 order Truncated ts (offset % 8) bytes a.0 fits a.1 in
    let used : a.0.1 - offset % 8 ≡ length f.0 = omega (arith, f.3) in
    let front : take (length f.0) bytes ≡ f.0 = ap (take (length f.0)) f.2 ∙ take_at f.0 a.0.2 (length f.0) refl in
    let le : length f.0 ≤ length bytes = omega (arith, ap length f.2, length-append f.0 a.0.2) in
    let same : offset % 8 % 8 ≡ offset % 8 = omega arith in
    let there : SpellFields a.0.0 64 order offset ts f.0 = fields_move a.0.0 64 order (offset % 8) offset ts f.0 same f.1 in
    let here : Found order ts offset bytes (a.0.0, length f.0) = (le, (valid, rw front there)) in
    subst (Found order ts offset bytes) (ok_is (a.0.0, a.0.1 - offset % 8) y a.2)
    (subst (λ (k : ℕ). Found order ts offset bytes (a.0.0, k)) (sym used) here)

pub found : (order : Order) (ts : Tys) (offset : ℕ) (bytes : List ℕ) (r : Result (Vec Value × ℕ) MarshalFault) → IsSignature ts → AllBytes bytes → Gives (λ x. (values_of x.0.items, x.1)) r (decode_at order ts offset bytes)
    → IfOk r (λ x. (x.1 ≤ length bytes) × Spells order offset ts (values_of x.0.items) (take x.1 bytes))
found order ts offset bytes (Ok x) valid fits given = is_found order ts offset bytes (values_of x.0.items, x.1) valid fits given
found order ts offset bytes (Err e) valid fits given = tt

pub is_read : (order : Order) (ts : Tys) (offset : ℕ) (bytes front rest : List ℕ) (vs : Vals) → bytes ≡ front ++ rest → Spells order offset ts vs front → decode_at order ts offset bytes ≡ Ok (vs, length front)
is_read order ts offset bytes front rest vs e h =
    let same : offset % 8 ≡ offset % 8 % 8 = omega arith in
    let f = fields_again vs 64 order Truncated (offset % 8) ts front rest (fields_move vs 64 order offset (offset % 8) ts front same h.1) in
    let used : offset % 8 + length front - offset % 8 ≡ length front = omega arith in
    rw (e, f, used) refl

pub is_one : (vs ws : Vals) (order : Order) (offset : ℕ) (ts : Tys) (a b x y : List ℕ) → Spells order offset ts vs a → Spells order offset ts ws b → a ++ x ≡ b ++ y → (a ≡ b) × (vs ≡ ws)
is_one vs ws order offset ts a b x y h k e =
    let f = fields_again vs 64 order Truncated offset ts a x h.1 in
    let g = fields_again ws 64 order Truncated offset ts b y k.1 in
    let both : done (vs, offset + length a, x) ≡ done (ws, offset + length b, y) = sym f ∙ ap (fields_at (value_at 64 order) Truncated ts offset) e ∙ g in
    let same = ok_is (vs, offset + length a, x) (ws, offset + length b, y) both in
    let len : offset + length a ≡ offset + length b = ap (λ (z : Vals × ℕ × List ℕ). z.1) same in
    let len2 : length b ≡ length a = omega (arith, len) in
    (sym (take_at a x (length a) refl) ∙ ap (take (length a)) e ∙ take_at b y (length a) len2, ap (λ (z : Vals × ℕ × List ℕ). z.0) same)

pub is_one_text : (vs : Vals) (order : Order) (offset : ℕ) (ts : Tys) (a b : List ℕ) → Spells order offset ts vs a → Spells order offset ts vs b → a ≡ b
is_one_text vs order offset ts a b h k = one_fields vs 64 order offset ts a b h.1 k.1
