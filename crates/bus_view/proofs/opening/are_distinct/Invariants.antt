use Rattle.std.proofs.Common.{◌↔◌, length}
use Rattle.std.specs.List.{IsDistinct}
use Rattle.names.specs.Texts.{text_eq}
use Rattle.bus_view.proofs.opening.are_distinct.Given as goal

-- the names are distinct where the rest are
abbrev pub invariant-loop-first : goal.invariant-loop-first
invariant-loop-first l = IsDistinct text_eq l.names ↔ IsDistinct text_eq l.rest

abbrev pub decreases-loop-first : goal.decreases-loop-first
decreases-loop-first l = length l.rest
