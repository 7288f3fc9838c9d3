use Rattle.std.proofs.lemmas.Str.{IsUtf8-had}
use Rattle.names.proofs.short_text.FixedText.as_str.Goals as goal

pub from_utf8_unchecked-requires : goal.from_utf8_unchecked-requires
from_utf8_unchecked-requires g c = rw c.from.ensures (IsUtf8-had _ c.self.invariant.3)
