use Rattle.std.proofs.Common.{◌≡◌, ◌++◌, take, flat_map}
use Rattle.std.specs.Prelude.{string_bytes}
use Rattle.trace_check_core.specs.Listings.{behind_comma}
use Rattle.trace_check_core.proofs.answers.push_services.Given as goal

abbrev pub invariant-loop-service : goal.invariant-loop-service
invariant-loop-service l = string_bytes l.text ≡ string_bytes l.initial.text ++ flat_map behind_comma (take l.service-index l.services)
