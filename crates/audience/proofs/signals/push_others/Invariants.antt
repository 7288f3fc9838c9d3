use Rattle.std.specs.Prelude.{◌≡◌, ◌≤◌, filter, length, not, take}
use Rattle.seq_bus_core.specs.Steps.{is_among}
use Rattle.audience.proofs.signals.push_others.Given as goal

-- of those that were looked at, the others were added
abbrev pub invariant-loop-conn : goal.invariant-loop-conn
invariant-loop-conn l =
    (l.others ≡ filter (λ m. not (is_among l.to m)) (take l.conn-index l.shown))
    × (length l.others ≤ l.conn-index)
