use Rattle.std.proofs.Common.{◌≡◌, drop}
use Rattle.message_core.specs.Whole.{place_of}
use Rattle.message_core.proofs.reading.place_of.Given as goal

abbrev pub invariant-loop-place : goal.invariant-loop-place
invariant-loop-place l = place_of l.code (drop l.place-index l.places) ≡ place_of l.code l.places
