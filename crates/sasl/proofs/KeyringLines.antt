-- The lines of a keyring, one by one.
use Rattle.std.proofs.Common.{◌≡◌, ℕ, ◌+◌, ◌<◌, Bool, false, List, [], ◌∷◌, ◌++◌, length, Option, Some, None, Err, refl, sym, ap, ◌∙◌, arith}
use Rattle.std.specs.Prelude.{◌==◌, unwrap_or}
use Rattle.std.specs.Borrow.{Bor}
use Rattle.std.specs.List.{slice_split, join_with_byte}
use Rattle.std.proofs.lemmas.Bool.{true≢false}
use Rattle.std.proofs.lemmas.List.{length-append}
use Rattle.std.proofs.lemmas.List.Splits.{join_with_byte-slice_split}
use Rattle.sasl.specs.declared.fault.KeyringFault.TheVariants.{Line}
use Rattle.sasl.specs.Settings.{Cookie}
use Rattle.sasl.specs.Words.{parts_of}
use Rattle.sasl.specs.Hearing.{is_nil}
use Rattle.sasl.specs.Keyrings.{cookie_in, without_empty_last, lines_of, unless_bad, cookie_from}
use Rattle.sasl.proofs.Splitting.{one_part, some_parts}

abbrev pub bytes_behind : Option (Bor (List ℕ)) → List ℕ
bytes_behind None = []
bytes_behind (Some behind) = behind.now

more_lines : (line : List ℕ) (parts : List (List ℕ)) → is_nil parts ≡ false → without_empty_last (line ∷ parts) ≡ line ∷ without_empty_last parts
more_lines line [] h = absurd (true≢false h)
more_lines line (next ∷ parts) h = refl

only_line : (line : List ℕ) → 0 < length line → without_empty_last (line ∷ []) ≡ line ∷ []
only_line [] h = absurd (omega (arith, h))
only_line (b ∷ line) h = refl

-- the first line, and those behind it
pub line_cut : (rest line : List ℕ) (behind : Option (Bor (List ℕ))) → 0 < length rest → slice_split (λ b. b == 10) rest ≡ line ∷ parts_of 10 behind → lines_of rest ≡ line ∷ lines_of (bytes_behind behind)
line_cut rest line None some e =
    let all : rest ≡ line = one_part 10 rest line e in
    ap without_empty_last e ∙ only_line line (omega (arith, some, ap length all))
line_cut rest line (Some behind) some e = ap without_empty_last e ∙ more_lines line (slice_split (λ b. b == 10) behind.now) (some_parts (λ b. b == 10) behind.now)

joins : (line behind : List ℕ) (parts : List (List ℕ)) → parts ≡ slice_split (λ b. b == 10) behind → is_nil parts ≡ false → join_with_byte 10 (line ∷ parts) ≡ line ++ 10 ∷ behind
joins line behind [] e h = absurd (true≢false h)
joins line behind (next ∷ parts) e h = ap (λ (x : List ℕ). line ++ 10 ∷ x) (ap (join_with_byte 10) e ∙ join_with_byte-slice_split 10 behind)

-- what lies behind a line is shorter
pub line_shortens : (rest line : List ℕ) (behind : Option (Bor (List ℕ))) → 0 < length rest → slice_split (λ b. b == 10) rest ≡ line ∷ parts_of 10 behind → length (bytes_behind behind) < length rest
line_shortens rest line None some e = some
line_shortens rest line (Some behind) some e =
    let whole : rest ≡ line ++ 10 ∷ behind.now =
    sym (join_with_byte-slice_split 10 rest) ∙ ap (join_with_byte 10) e ∙ joins line behind.now (slice_split (λ b. b == 10) behind.now) refl (some_parts (λ b. b == 10) behind.now) in
    omega (arith, ap length whole, length-append line (10 ∷ behind.now))

module _ (before : Option Cookie) (n : ℕ) (rest line behind : List ℕ) (cut : lines_of rest ≡ line ∷ lines_of behind) where
  -- a line that reads
  pub line_reads : (cookie : Cookie) → Some cookie ≡ cookie_in line → cookie_from before n (lines_of rest) ≡ cookie_from (Some cookie) (n + 1) (lines_of behind)
  line_reads cookie h = ap (cookie_from before n) cut ∙ ap (λ (o : Option Cookie). unless_bad n o (cookie_from o (n + 1) (lines_of behind))) (sym h)

  -- a line that does not
  pub line_is_bad : None ≡ cookie_in line → cookie_from before n (lines_of rest) ≡ Err (Line n)
  line_is_bad h = ap (cookie_from before n) cut ∙ ap (λ (o : Option Cookie). unless_bad n o (cookie_from o (n + 1) (lines_of behind))) (sym h)

-- the bytes behind a line, or none
pub rest_is : (behind : Option (Bor (List ℕ))) (none rest : Bor (List ℕ)) → rest ≡ unwrap_or behind none → none.now ≡ [] → rest.now ≡ bytes_behind behind
rest_is None none rest e h = ap (λ (b : Bor (List ℕ)). b.now) e ∙ h
rest_is (Some behind) none rest e h = ap (λ (b : Bor (List ℕ)). b.now) e

pub not_empty : (bytes : List ℕ) (t : Bool) → t ≡ (length bytes == 0) → t ≡ false → 0 < length bytes
not_empty [] t e h = absurd (true≢false (sym e ∙ h))
not_empty (b ∷ bytes) t e h = omega arith
