-- Where lines end.
use Rattle.std.proofs.Common.{◌≡◌, ℕ, ◌+◌, ◌-◌, Bool, true, false, List, [], ◌∷◌, ◌++◌, length, take, Some, refl, sym, ap, ◌∙◌, arith}
use Rattle.std.specs.Prelude.{◌&&◌, ◌||◌, ◌==◌, slice_get}
use mathlib.Core.Bool.{or_assoc, or-true, or-false}
use Rattle.std.proofs.lemmas.Bool.{false≢true, and_parts, eqb-true}
use Rattle.std.proofs.lemmas.List.{take_all, take_more}
use Rattle.std.proofs.lemmas.Option.{get_or_from_slice_get}
use Rattle.sasl.specs.Lines.{has_end}
use Rattle.sasl.specs.Words.{ends_with_return}
use Rattle.sasl.proofs.Splitting.{or_parts, or_none}

abbrev is_end : ℕ → ℕ → Bool
is_end a b = (a == 13) && (b == 10)

-- A byte completes an end where it is a line feed behind a carriage return.
pub has_end-push : (line : List ℕ) (b : ℕ) → has_end (line ++ b ∷ []) ≡ (has_end line || (ends_with_return line && (b == 10)))
has_end-push [] b = refl
has_end-push (a ∷ []) b = or-false (is_end a b)
has_end-push (a ∷ c ∷ line) b =
    ap (λ (t : Bool). is_end a c || t) (has_end-push (c ∷ line) b)
    ∙ sym (or_assoc (is_end a c) (has_end (c ∷ line)) (ends_with_return (c ∷ line) && (b == 10)))

-- What stands in front of bytes without an end has none.
pub front_has_none : (front more : List ℕ) → has_end (front ++ more) ≡ false → has_end front ≡ false
front_has_none [] more h = refl
front_has_none (a ∷ []) more h = refl
front_has_none (a ∷ b ∷ front) more h =
    let parts = or_parts (is_end a b) (has_end ((b ∷ front) ++ more)) h in
    or_none (is_end a b) (has_end (b ∷ front)) parts.0 (front_has_none (b ∷ front) more parts.1)

pub return_last : (line : List ℕ) → ends_with_return line ≡ true → (front : List ℕ) × (line ≡ front ++ 13 ∷ [])
return_last [] h = absurd (false≢true h)
return_last (a ∷ []) h = ([], ap (λ (n : ℕ). n ∷ []) (eqb-true a 13 h))
return_last (a ∷ b ∷ line) h =
    let behind = return_last (b ∷ line) h in
    (a ∷ behind.0, ap (λ (x : List ℕ). a ∷ x) behind.1)

pub ends_with_return-push : (line : List ℕ) (b : ℕ) → ends_with_return (line ++ b ∷ []) ≡ (b == 13)
ends_with_return-push [] b = refl
ends_with_return-push (a ∷ []) b = refl
ends_with_return-push (a ∷ c ∷ line) b = ends_with_return-push (c ∷ line) b

pub has_end-end : (line more : List ℕ) → has_end (line ++ 13 ∷ 10 ∷ more) ≡ true
has_end-end [] more = refl
has_end-end (a ∷ []) more = or-true (is_end a 13)
has_end-end (a ∷ b ∷ line) more = ap (λ (t : Bool). is_end a b || t) (has_end-end (b ∷ line) more) ∙ or-true (is_end a b)

-- A byte that completes an end is a line feed, behind a line and a carriage return.
pub record Completed (left : List ℕ) (b : ℕ) : Type 0 where
  pub line : List ℕ
  pub left_is : left ≡ line ++ 13 ∷ []
  pub byte_is : b ≡ 10

pub completed : (left : List ℕ) (b : ℕ) → has_end left ≡ false → has_end (left ++ b ∷ []) ≡ true → Completed left b
completed left b none end =
    let told : (ends_with_return left && (b == 10)) ≡ true = ap (λ (t : Bool). t || (ends_with_return left && (b == 10))) (sym none) ∙ sym (has_end-push left b) ∙ end in
    let parts = and_parts (ends_with_return left) (b == 10) told in
    let front = return_last left parts.0 in
    record { line = front.0; left_is = front.1; byte_is = eqb-true b 10 parts.1 }

-- A byte that is none, or stands behind no carriage return, completes none.
pub still_none : (left : List ℕ) (b : ℕ) → has_end left ≡ false → (ends_with_return left && (b == 10)) ≡ false → has_end (left ++ b ∷ []) ≡ false
still_none left b none other = has_end-push left b ∙ or_none (has_end left) (ends_with_return left && (b == 10)) none other

-- the last byte of what is not empty
pub last_byte : (line : List ℕ) (b : ℕ) → Some b ≡ slice_get line (length line - 1) → (b == 13) ≡ ends_with_return line
last_byte [] b e = absurd (cc)
last_byte (a ∷ line) b e =
    let n : ℕ = length (a ∷ line) - 1 in
    let whole : take (n + 1) (a ∷ line) ≡ a ∷ line = take_all (n + 1) (a ∷ line) (omega arith) in
    let parts : a ∷ line ≡ take n (a ∷ line) ++ b ∷ [] = sym whole ∙ take_more (a ∷ line) n 0 (omega arith) ∙ ap (λ (x : ℕ). take n (a ∷ line) ++ x ∷ []) (get_or_from_slice_get (a ∷ line) n b 0 (sym e)) in
    sym (ap ends_with_return parts ∙ ends_with_return-push (take n (a ∷ line)) b)
