use Rattle.std.proofs.Common.{◌≡◌, ◌++◌, take, flat_map}
use Rattle.std.specs.Prelude.{string_bytes}
use Rattle.trace_check_core.specs.Listings.{behind_comma}
use Rattle.trace_check_core.proofs.answers.push_names.Given as goal

abbrev pub invariant-loop-entry : goal.invariant-loop-entry
invariant-loop-entry l = string_bytes l.text ≡ string_bytes l.initial.text ++ flat_map (λ b. behind_comma b.value.name) (take l.entry-index l.names)
