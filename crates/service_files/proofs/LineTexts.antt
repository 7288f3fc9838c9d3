-- Lines that are text, and such as are not.
use Rattle.std.proofs.Common.{◌≡◌, ℕ, Bool, true, false, List, Option, None, refl, sym, ap, ◌∙◌}
use Rattle.std.specs.Prelude.{if◌then◌else◌}
use Rattle.std.specs.Str.{IsUtf8, is_utf8}
use Rattle.std.proofs.lemmas.Str.{IsUtf8-from_is_utf8, is_utf8-from_IsUtf8}
use Rattle.service_files.specs.ServiceFiles.{Said, said_of, said_by}

pub text_says : (bytes : List ℕ) (said : Option Said) → IsUtf8 bytes → said ≡ said_of bytes → said ≡ said_by bytes
text_says bytes said h e = e ∙ sym (ap (λ (b : Bool). if b then said_of bytes else None) (is_utf8-from_IsUtf8 bytes h))

pub no_text : (bytes : List ℕ) → ¬ (IsUtf8 bytes) → None ≡ said_by bytes
no_text bytes h = go (is_utf8 bytes) (λ e. h (IsUtf8-from_is_utf8 bytes e))
  where
    go : (b : Bool) → ¬ (b ≡ true) → None ≡ (if b then said_of bytes else None)
    go true none = absurd (none refl)
    go false none = refl
