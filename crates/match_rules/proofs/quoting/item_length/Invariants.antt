use Rattle.std.proofs.Common.{◌≡◌, ◌+◌, drop}
use Rattle.match_rules.specs.RuleFaults.{Outside}
use Rattle.match_rules.specs.Reading.{quoting_of, item_length}
use Rattle.match_rules.proofs.quoting.item_length.Given as goal

abbrev pub invariant-loop-i : goal.invariant-loop-i
invariant-loop-i l = l.i + item_length (quoting_of l.quoting) (drop l.i l.text) ≡ item_length Outside l.text
