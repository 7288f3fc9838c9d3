use Rattle.std.proofs.Common.{◌≡◌, ◌+◌, ◌≤◌, length}
use Rattle.marshal_check.proofs.TypeTexts.{beyond}
use Rattle.marshal_check.proofs.letters.skip_type.Given as goal

abbrev pub invariant-each : goal.invariant-each
invariant-each l = record {
  rest : beyond l.open l.rest ≡ beyond 0 l.of;
  within : l.open + length l.rest ≤ length l.of;
}

abbrev pub decreases-each : goal.decreases-each
decreases-each l = length l.rest
