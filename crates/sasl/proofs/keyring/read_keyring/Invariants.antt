use Rattle.std.proofs.Common.{◌≡◌, ◌+◌, ◌≤◌, None, length}
use Rattle.std.specs.Prelude.{option_map}
use Rattle.sasl.specs.Keyrings.{cookie_from, lines_of}
use Rattle.sasl.specs.Entries.{cookie_said}
use Rattle.sasl.proofs.keyring.read_keyring.Given as goal

abbrev pub invariant-loop-last : goal.invariant-loop-last
invariant-loop-last l = record {
  cookie : cookie_from None 1 (lines_of l.bytes) ≡ cookie_from (option_map cookie_said l.last) (l.lines + 1) (lines_of l.rest);
  few : l.lines + length l.rest ≤ length l.bytes;
}

abbrev pub decreases-loop-last : goal.decreases-loop-last
decreases-loop-last l = length l.rest
