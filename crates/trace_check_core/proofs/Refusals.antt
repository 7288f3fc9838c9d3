-- The first line that is refused, on the way along the lines.
use Rattle.std.proofs.Common.{◌≡◌, ℕ, ◌+◌, ◌<◌, ◌≤◌, Bool, true, false, Option, Some, None, List, [], ◌∷◌, ◌++◌, length, take, drop, get_or, refl, sym, ap, ◌∙◌, arith}
use Rattle.std.proofs.lemmas.List.{take_more, drop_more, length-drop, nil_from_length}
use Rattle.trace_lines.specs.Lines.{Line}
use Rattle.trace_check_core.specs.Verdicts.{first_refused}

-- a line that is refused
refused_here : (test : List Line → Line → Bool) (number : ℕ) (before : List Line) (line : Line) (lines : List Line) → test before line ≡ false → first_refused test number before (line ∷ lines) ≡ Some number
refused_here test number before line lines e = rw e refl

-- and one that passes
passed_here : (test : List Line → Line → Bool) (number : ℕ) (before : List Line) (line : Line) (lines : List Line) → test before line ≡ true → first_refused test number before (line ∷ lines) ≡ first_refused test (number + 1) (before ++ line ∷ []) lines
passed_here test number before line lines e = rw e refl

pub refused_at : (test : List Line → Line → Bool) (lines : List Line) (number i : ℕ) (line : Line) (found : Option ℕ) → i < length lines → line ≡ get_or lines i line → test (take i lines) line ≡ false →
    found ≡ first_refused test number (take i lines) (drop i lines) → found ≡ Some number
refused_at test lines number i line found within is fails so_far =
    so_far ∙ ap (first_refused test number (take i lines)) (drop_more lines i line within ∙ ap (λ (l : Line). l ∷ drop (i + 1) lines) (sym is))
    ∙ refused_here test number (take i lines) line (drop (i + 1) lines) fails

pub one_more : (lines : List Line) (i : ℕ) (line : Line) → i < length lines → line ≡ get_or lines i line → take (i + 1) lines ≡ take i lines ++ line ∷ []
one_more lines i line within is = take_more lines i line within ∙ ap (λ (l : Line). take i lines ++ l ∷ []) (sym is)

pub passed_at : (test : List Line → Line → Bool) (lines : List Line) (number i : ℕ) (line : Line) (found : Option ℕ) → i < length lines → line ≡ get_or lines i line → test (take i lines) line ≡ true →
    found ≡ first_refused test number (take i lines) (drop i lines) → found ≡ first_refused test (number + 1) (take (i + 1) lines) (drop (i + 1) lines)
passed_at test lines number i line found within is passes so_far =
    so_far ∙ ap (first_refused test number (take i lines)) (drop_more lines i line within ∙ ap (λ (l : Line). l ∷ drop (i + 1) lines) (sym is))
    ∙ passed_here test number (take i lines) line (drop (i + 1) lines) passes
    ∙ ap (λ (before : List Line). first_refused test (number + 1) before (drop (i + 1) lines)) (sym (one_more lines i line within is))

none_left : (lines : List Line) (i : ℕ) → length lines ≤ i → drop i lines ≡ []
none_left lines i past = let count = length-drop i lines in nil_from_length (drop i lines) (omega (arith, count, past))

pub passed_all : (test : List Line → Line → Bool) (lines : List Line) (number i : ℕ) (found : Option ℕ) → length lines ≤ i →
    found ≡ first_refused test number (take i lines) (drop i lines) → found ≡ None
passed_all test lines number i found past so_far = so_far ∙ ap (first_refused test number (take i lines)) (none_left lines i past)
