use Rattle.std.proofs.Common.{◌≡◌, ◌≤◌, ◌++◌, ℕ, List, flat_map, length, take}
use Rattle.names.specs.Texts.{Text}
use Rattle.bus_view.specs.Bodies.{AreListed}
use Rattle.registry.specs.NamesListed.{only}
use Rattle.registry.proofs.listed.push_all.Given as goal

-- the names of the first of them were written
abbrev pub invariant-loop-entry : goal.invariant-loop-entry
invariant-loop-entry g l =
    (l.start ≤ length l.body.items) × (take l.start l.body.items ≡ take l.start l.fn.body.items)
    × ((before : List ℕ) (names : List Text) → length before ≡ l.start → AreListed before names l.fn.body.items
    → AreListed before (names ++ flat_map (λ entry. only (g.T.Listed.text entry)) (take l.entry-index l.entries)) l.body.items)
