use Rattle.std.proofs.Common.{◌≡◌, ◌+◌, drop}
use Rattle.message.specs.Layout.{count_below as below}
use Rattle.message.proofs.layout.count_below.Given as goal

abbrev pub invariant-loop-place : goal.invariant-loop-place
invariant-loop-place l = record { index : l.index ≡ l.place-index; rest : l.index + below l.code (drop l.place-index l.places) ≡ below l.code l.places }
