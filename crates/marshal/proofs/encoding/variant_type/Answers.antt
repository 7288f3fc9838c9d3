use Rattle.marshal.proofs.WrittenSteps.{short}
use Rattle.marshal.proofs.encoding.variant_type.Goals as goal

pub short_text-requires : goal.short_text-requires
short_text-requires c = rw (c.deref-2.ensures.value, ← c.deref.ensures.value) (short c.deref.result.now _ c.in_ok-from_bytes.ensures)
