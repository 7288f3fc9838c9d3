-- Numbers and strings as they stand in bytes.
use Rattle.std.proofs.Common.{◌≡◌, ℕ, zero, suc, ◌+◌, ◌≤◌, ◌<◌, ◌^◌, Bool, true, List, [], ◌∷◌, ◌++◌, length, get_or, take, drop, Result, Ok, Err, is_ok, refl, sym, ap, subst, ◌∙◌, append_assoc, arith, nat_eq}
use Rattle.std.specs.Prelude.{◌||◌}
use Rattle.std.specs.List.{list_any}
use Rattle.std.specs.Int.{w32}
use Rattle.std.proofs.lemmas.List.{take_at, drop_at, take-append-drop, length-append, length-take, length-take-le, length-drop}
use Rattle.std.proofs.lemmas.Nat.{be_bytes_4, le_bytes_4, from_be_bytes-to_be_bytes_4, from_le_bytes-to_le_bytes_4}
use Rattle.marshal_core.specs.declared.fault.MarshalFault.{MarshalFault}
use Rattle.marshal_core.specs.declared.order.Order.{Order}
use Rattle.marshal_core.specs.declared.order.Order.TheVariants.{Little, Big}
use Rattle.marshal_core.specs.Types.{Tys}
use Rattle.marshal_core.specs.Signatures.{codes, signature_of, IsSignature}
use Rattle.marshal_core.proofs.TypesTaken.{signature_takes}
use Rattle.marshal_core.specs.Spelling.{ended, has_zero, number_bytes}
use Rattle.message_core.specs.Announcements.{number}

abbrev pub AreBytes : List ℕ → Type 0
AreBytes bytes = (i : ℕ) → get_or bytes i 0 < 256

pub length-number : (order : Order) (n : ℕ) → length (number_bytes order w32 n) ≡ 4
length-number Little n = refl
length-number Big n = refl

pub take_byte : (k : ℕ) (bytes : List ℕ) (i : ℕ) → get_or bytes i 0 < 256 → get_or (take k bytes) i 0 < 256
take_byte zero bytes i h = omega arith
take_byte (suc k) [] i h = omega arith
take_byte (suc k) (b ∷ bytes) zero h = h
take_byte (suc k) (b ∷ bytes) (suc i) h = take_byte k bytes i h

take_bytes : (k : ℕ) (bytes : List ℕ) → AreBytes bytes → AreBytes (take k bytes)
take_bytes k bytes h i = take_byte k bytes i (h i)

-- four bytes are the number in them
pub number_spelled : (order : Order) (bytes : List ℕ) → 4 ≤ length bytes → AreBytes bytes → number_bytes order w32 (number order 0 bytes) ≡ take 4 bytes
number_spelled Little bytes long fits = le_bytes_4 (take 4 bytes) _ (omega (arith, length-take 4 bytes)) (take_bytes 4 bytes fits) refl
number_spelled Big bytes long fits = be_bytes_4 (take 4 bytes) _ (omega (arith, length-take 4 bytes)) (take_bytes 4 bytes fits) refl

-- and where a number stands, it is read
pub number_read : (order : Order) (n : ℕ) (rest : List ℕ) → n < 2 ^ 32 → number order 0 (number_bytes order w32 n ++ rest) ≡ n
number_read Little n rest fits = from_le_bytes-to_le_bytes_4 n fits
number_read Big n rest fits = from_be_bytes-to_be_bytes_4 n fits

pub has_zero_any : (bytes : List ℕ) → list_any (λ y. nat_eq y 0) bytes ≡ has_zero bytes
has_zero_any [] = refl
has_zero_any (b ∷ bytes) = ap (λ (r : Bool). nat_eq b 0 || r) (has_zero_any bytes)

head_tail : (xs : List ℕ) → 0 < length xs → get_or xs 0 0 ≡ 0 → xs ≡ 0 ∷ drop 1 xs
head_tail [] long z = absurd (omega arith)
head_tail (x ∷ xs) long z = ap (λ (y : ℕ). y ∷ xs) z

-- the text that stands after its length and before a zero byte
pub text_found : (order : Order) (bytes : List ℕ) (n : ℕ) → 4 ≤ length bytes → AreBytes bytes → n ≡ number order 0 bytes → n < length (drop 4 bytes) → get_or (drop n (drop 4 bytes)) 0 0 ≡ 0
    → bytes ≡ number_bytes order w32 n ++ (ended (take n (drop 4 bytes)) ++ drop 1 (drop n (drop 4 bytes)))
text_found order bytes n long fits e within ends =
    let R = drop 4 bytes in
    let a : bytes ≡ take 4 bytes ++ R = sym (take-append-drop 4 bytes) in
    let b : take 4 bytes ≡ number_bytes order w32 n = sym (number_spelled order bytes long fits) ∙ ap (number_bytes order w32) (sym e) in
    let c : R ≡ take n R ++ drop n R = sym (take-append-drop n R) in
    let d : drop n R ≡ 0 ∷ drop 1 (drop n R) = head_tail (drop n R) (omega (arith, length-drop n R)) ends in
    let f : R ≡ ended (take n R) ++ drop 1 (drop n R) = c ∙ ap (λ (x : List ℕ). take n R ++ x) d ∙ sym (append_assoc (take n R) (0 ∷ []) (drop 1 (drop n R))) in
    a ∙ ap (λ (x : List ℕ). x ++ R) b ∙ ap (λ (x : List ℕ). number_bytes order w32 n ++ x) f

-- what reading meets where a string stands
pub record Meets (order : Order) (text rest bytes : List ℕ) : Type 0 where
  pub long : 4 ≤ length bytes
  pub told : number order 0 bytes ≡ length text
  pub behind : drop 4 bytes ≡ text ++ (0 ∷ rest)

pub text_met : (order : Order) (text rest bytes : List ℕ) → length text < 2 ^ 32 → bytes ≡ number_bytes order w32 (length text) ++ (ended text ++ rest) → Meets order text rest bytes
text_met order text rest bytes fits e =
    let w = number_bytes order w32 (length text) in
    let tail = ended text ++ rest in
    record {
      long = omega (arith, ap length e, length-append w tail, length-number order (length text));
      told = ap (number order 0) e ∙ number_read order (length text) tail fits;
      behind = ap (drop 4) e ∙ drop_at w tail 4 (length-number order (length text)) ∙ append_assoc text (0 ∷ []) rest;
    }

pub string_found : (order : Order) (bytes rest text end : List ℕ) (n : ℕ) → 4 ≤ length bytes → AreBytes bytes → n ≡ number order 0 bytes → n < 2 ^ 32 → rest ≡ drop 4 bytes → n < length rest
    → text ≡ take n rest → end ≡ drop n rest → get_or end 0 0 ≡ 0
    → (length text < 2 ^ 32) × (more : List ℕ) × (bytes ≡ number_bytes order w32 (length text) ++ (ended text ++ more))
string_found order bytes rest text end n long fits e small er within et ee ends =
    let R : List ℕ = drop 4 bytes in
    let M : List ℕ = drop 1 (drop n R) in
    let inside : n < length R = subst (λ (x : List ℕ). n < length x) er within in
    let t : text ≡ take n R = et ∙ ap (take n) er in
    let z : get_or (drop n R) 0 0 ≡ 0 = ap (λ (x : List ℕ). get_or x 0 0) (sym (ee ∙ ap (drop n) er)) ∙ ends in
    let len : length text ≡ n = ap length t ∙ length-take-le n R (omega (arith, inside)) in
    let f = text_found order bytes n long fits e inside z in
    let g : bytes ≡ number_bytes order w32 (length text) ++ (ended text ++ M) =
    f ∙ ap (λ (k : ℕ). number_bytes order w32 k ++ (ended (take n R) ++ M)) (sym len) ∙ ap (λ (x : List ℕ). number_bytes order w32 (length text) ++ (ended x ++ M)) (sym t) in
    (omega (arith, len, small), M, g)

-- the bytes that a string takes
pub string_taken : (order : Order) (text more bytes : List ℕ) → bytes ≡ number_bytes order w32 (length text) ++ (ended text ++ more)
    → (5 + length text ≤ length bytes) × (take (5 + length text) bytes ≡ number_bytes order w32 (length text) ++ ended text)
string_taken order text more bytes e =
    let w : List ℕ = number_bytes order w32 (length text) in
    let front : List ℕ = w ++ ended text in
    let g : bytes ≡ front ++ more = e ∙ sym (append_assoc w (ended text) more) in
    let len : length front ≡ 5 + length text = omega (arith, length-append w (ended text), length-append text (0 ∷ []), length-number order (length text)) in
    (omega (arith, ap length g, length-append front more, len), ap (take (5 + length text)) g ∙ take_at front more (5 + length text) len)

-- the bytes that a signature takes
pub signature_taken : (bytes rest text end : List ℕ) (n : ℕ) → bytes ≡ n ∷ rest → n < length rest → text ≡ take n rest → end ≡ drop n rest → get_or end 0 0 ≡ 0
    → (2 + n ≤ length bytes) × (take (2 + n) bytes ≡ length text ∷ ended text)
signature_taken bytes rest text end n e within et ee ends =
    let z : drop n rest ≡ 0 ∷ drop 1 (drop n rest) = head_tail (drop n rest) (omega (arith, length-drop n rest)) (ap (λ (x : List ℕ). get_or x 0 0) (sym ee) ∙ ends) in
    let len : length text ≡ n = ap length et ∙ length-take-le n rest (omega (arith, within)) in
    let r : rest ≡ ended text ++ drop 1 (drop n rest) =
    sym (take-append-drop n rest) ∙ ap (λ (x : List ℕ). x ++ drop n rest) (sym et) ∙ ap (λ (x : List ℕ). text ++ x) z ∙ sym (append_assoc text (0 ∷ []) (drop 1 (drop n rest))) in
    let g : bytes ≡ (length text ∷ ended text) ++ drop 1 (drop n rest) = e ∙ ap (λ (x : List ℕ). n ∷ x) r ∙ ap (λ (k : ℕ). k ∷ (ended text ++ drop 1 (drop n rest))) (sym len) in
    let size : length (length text ∷ ended text) ≡ 2 + n = omega (arith, length-append text (0 ∷ []), len) in
    (omega (arith, ap length e, within), ap (take (2 + n)) g ∙ take_at (length text ∷ ended text) (drop 1 (drop n rest)) (2 + n) size)

pub signature_is : (text : List ℕ) (answer : Bool) → answer ≡ is_ok (signature_of text) → answer ≡ true → (ts : Tys) × IsSignature ts × (text ≡ codes ts)
signature_is text answer e h = found (signature_of text) refl (sym e ∙ h) where
  found : (r : Result Tys MarshalFault) → signature_of text ≡ r → is_ok r ≡ true → (ts : Tys) × IsSignature ts × (text ≡ codes ts)
  found (Ok ts) r ok = let k = signature_takes text ts r in (ts, k.0, k.1)
  found (Err f) r ok = absurd cc
