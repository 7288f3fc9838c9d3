use Rattle.std.proofs.Common.{◌≡◌, drop}
use Rattle.message_core.specs.Whole.{unplaced}
use Rattle.message_core.proofs.reading.check_required.Given as goal

abbrev pub invariant-loop-field : goal.invariant-loop-field
invariant-loop-field l = unplaced (drop l.field-index l.field-items) l.places ≡ unplaced l.field-items l.places
