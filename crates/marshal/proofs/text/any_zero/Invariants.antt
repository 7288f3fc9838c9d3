use Rattle.std.proofs.Common.{◌≡◌, drop}
use Rattle.std.specs.Prelude.{◌||◌}
use Rattle.marshal_core.specs.Spelling.{has_zero}
use Rattle.marshal.proofs.text.any_zero.Given as goal

abbrev pub invariant-loop-b : goal.invariant-loop-b
invariant-loop-b l = (l.zero || has_zero (drop l.b-index l.bytes)) ≡ has_zero l.bytes
