use Rattle.std.proofs.Common.{◌≡◌, ◌+◌, ◌≤◌, ◌++◌, drop, option_map}
use Rattle.arrayvec.specs.ArrayVec.{array_vec_len}
use Rattle.match_rules.specs.RuleFaults.{Outside, value_from}
use Rattle.match_rules.specs.Reading.{quoting_of, held_back}
use Rattle.match_rules.proofs.quoting.value_of.Given as goal

abbrev pub invariant-loop-byte : goal.invariant-loop-byte
invariant-loop-byte l =
    (array_vec_len l.value + held_back (quoting_of l.quoting) ≤ l.byte-index)
    × (option_map (λ more. l.value.items ++ more) (value_from (quoting_of l.quoting) (drop l.byte-index l.text)) ≡ value_from Outside l.text)
