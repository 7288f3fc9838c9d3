use Rattle.std.proofs.Common.{◌≡◌, ◌++◌, take, flat_map}
use Rattle.std.specs.Prelude.{string_bytes}
use Rattle.trace_check_core.specs.Listings.{waiting_listed}
use Rattle.trace_check_core.proofs.answers.push_waiting.Given as goal

abbrev pub invariant-loop-place : goal.invariant-loop-place
invariant-loop-place l = string_bytes l.text ≡ string_bytes l.initial.text ++ flat_map waiting_listed (take l.place-index l.waiting)
