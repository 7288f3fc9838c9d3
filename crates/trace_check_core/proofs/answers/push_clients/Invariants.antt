use Rattle.std.proofs.Common.{◌≡◌, ◌++◌, take, flat_map}
use Rattle.std.specs.Prelude.{string_bytes}
use Rattle.trace_check_core.specs.Listings.{client_listed}
use Rattle.trace_check_core.proofs.answers.push_clients.Given as goal

abbrev pub invariant-loop-member : goal.invariant-loop-member
invariant-loop-member l = string_bytes l.text ≡ string_bytes l.initial.text ++ flat_map client_listed (take l.member-index l.members)
