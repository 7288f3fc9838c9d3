-- Files that are cut into lines.
use Rattle.std.proofs.Common.{◌≡◌, ◌≢◌, ℕ, ◌+◌, ◌<◌, ◌≤◌, Bool, true, false, cond, Some, None, List, [], ◌∷◌, length, take, drop, refl, sym, ap, ◌∙◌, subst, arith}
use Rattle.std.specs.Prelude.{position, nat_lt}
use Rattle.std.specs.List.{slice_split, onto_first, position_or_len}
use Rattle.std.proofs.lemmas.Bool.{cond_both}
use Rattle.std.proofs.lemmas.Bool.Decides.{nat_tests}
use Rattle.std.proofs.lemmas.List.Splits.{slice_split_first}
use Rattle.trace_words.proofs.PartLemmas.{split_whole}
use Rattle.trace_check_core.specs.Traces.{is_line_feed, lines_of, without_empty_end}

-- ## The first line feed

-- where it is, if it is there
pub record IsFirst (p : ℕ → Bool) (xs : List ℕ) (at : ℕ) : Type 0 where
  pub is : at ≡ position_or_len p xs
  pub within : at < length xs

first_by : (b : Bool) (n at : ℕ) → cond b (Some n) None ≡ Some at → (b ≡ true) × (n ≡ at)
first_by true n at e = (refl, cc e)
first_by false n at e = absurd (cc e)

none_by : (b : Bool) (n : ℕ) → cond b (Some n) None ≡ None → b ≡ false
none_by true n e = absurd (cc e)
none_by false n e = refl

first_place : (p : ℕ → Bool) (xs : List ℕ) (at : ℕ) → position p xs ≡ Some at → IsFirst p xs at
first_place p xs at e =
    let found = first_by (nat_lt (position_or_len p xs) (length xs)) (position_or_len p xs) at e in
    record { is = sym found.1; within = let inside : position_or_len p xs < length xs = grind (arith, nat_tests, found.0) in omega (arith, inside, found.1) }

no_place : (p : ℕ → Bool) (xs : List ℕ) → position p xs ≡ None → length xs ≤ position_or_len p xs
no_place p xs e =
    let none = none_by (nat_lt (position_or_len p xs) (length xs)) (position_or_len p xs) e in
    grind (arith, nat_tests, none)

-- ## Lines

some_first : (x : ℕ) (parts : List (List ℕ)) → onto_first x parts ≢ []
some_first x [] e = absurd (cc e)
some_first x (part ∷ parts) e = absurd (cc e)

some_part : (p : ℕ → Bool) (xs : List ℕ) → slice_split p xs ≢ []
some_part p [] = λ e. absurd (cc e)
some_part p (x ∷ xs) =
    cond_both (p x) ([] ∷ slice_split p xs) (onto_first x (slice_split p xs)) (λ parts. parts ≢ []) (λ _ e. absurd (cc e)) (λ _. some_first x (slice_split p xs))

line_kept : (line : List ℕ) (parts : List (List ℕ)) → parts ≢ [] → without_empty_end (line ∷ parts) ≡ line ∷ without_empty_end parts
line_kept line [] some = absurd (some refl)
line_kept line (part ∷ parts) some = refl

pub cut_there : (bytes : List ℕ) (at : ℕ) → position is_line_feed bytes ≡ Some at → lines_of bytes ≡ take at bytes ∷ lines_of (drop (at + 1) bytes)
cut_there bytes at e =
    let first = first_place is_line_feed bytes at e in
    let parts = slice_split_first is_line_feed bytes 0 (subst (λ n. n < length bytes) first.is first.within) in
    ap without_empty_end parts
    ∙ line_kept (take (position_or_len is_line_feed bytes) bytes) (slice_split is_line_feed (drop (position_or_len is_line_feed bytes + 1) bytes)) (some_part is_line_feed (drop (position_or_len is_line_feed bytes + 1) bytes))
    ∙ ap (λ (n : ℕ). take n bytes ∷ lines_of (drop (n + 1) bytes)) (sym first.is)

pub within_bytes : (bytes : List ℕ) (at : ℕ) → position is_line_feed bytes ≡ Some at → at < length bytes
within_bytes bytes at e = (first_place is_line_feed bytes at e).within

last_kept : (bytes : List ℕ) → bytes ≢ [] → without_empty_end (bytes ∷ []) ≡ bytes ∷ []
last_kept [] some = absurd (some refl)
last_kept (b ∷ bytes) some = refl

pub cut_nowhere : (bytes : List ℕ) → bytes ≢ [] → position is_line_feed bytes ≡ None → lines_of bytes ≡ bytes ∷ []
cut_nowhere bytes some e = ap without_empty_end (split_whole is_line_feed bytes (no_place is_line_feed bytes e)) ∙ last_kept bytes some
