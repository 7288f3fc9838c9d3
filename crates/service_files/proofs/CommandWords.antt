-- The words of a command, as they are taken off.
use Rattle.std.proofs.Common.{◌≡◌, ℕ, ◌<◌, ◌≤◌, Bool, true, false, cond, List, [], ◌∷◌, length, sym, ap, ◌∙◌}
use Rattle.std.specs.Prelude.{◌==◌, not, filter}
use Rattle.std.specs.List.{slice_split, position_or_len, before_first, after_first}
use Rattle.std.proofs.lemmas.List.Splits.{slice_split_first}
use Rattle.names.specs.Texts.{Text}
use Rattle.service_files.specs.ServiceFiles.{words_of, is_empty}
use Rattle.service_files.proofs.Cutting.{split_whole}

abbrev pub is_space : ℕ → Bool
is_space b = b == 32

abbrev kept : List Text → List Text
kept parts = filter (λ word. not (is_empty word)) parts

abbrev with_word : Text → Text → Bool → List Text
with_word word rest b = cond (not b) (word ∷ words_of rest) (words_of rest)

cut : (command word rest : Text) → position_or_len is_space command < length command → word ≡ before_first is_space command → rest ≡ after_first is_space command → words_of command ≡ with_word word rest (is_empty word)
cut command word rest inside e f =
    ap kept (slice_split_first is_space command 0 inside
    ∙ sym (ap (λ (w : Text). w ∷ slice_split is_space rest) e ∙ ap (λ (r : Text). before_first is_space command ∷ slice_split is_space r) f))

-- a word at the front
pub word_cut : (command word rest : Text) → position_or_len is_space command < length command → word ≡ before_first is_space command → rest ≡ after_first is_space command → is_empty word ≡ false → words_of command ≡ word ∷ words_of rest
word_cut command word rest inside e f full = cut command word rest inside e f ∙ ap (with_word word rest) full

-- a space at the front
pub space_cut : (command word rest : Text) → position_or_len is_space command < length command → word ≡ before_first is_space command → rest ≡ after_first is_space command → is_empty word ≡ true → words_of command ≡ words_of rest
space_cut command word rest inside e f none = cut command word rest inside e f ∙ ap (with_word word rest) none

-- no space
pub last_word : (command : Text) (t : Bool) → length command ≤ position_or_len is_space command → is_empty command ≡ t → words_of command ≡ cond (not t) (command ∷ []) []
last_word command t whole e = ap kept (split_whole is_space command whole) ∙ ap (λ (b : Bool). cond (not b) (command ∷ []) []) e
