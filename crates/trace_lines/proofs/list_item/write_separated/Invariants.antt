use Rattle.std.proofs.Common.{◌≡◌, ◌++◌, take}
use Rattle.std.specs.List.{flat_map}
use Rattle.trace_lines.proofs.list_item.write_separated.Given as goal

abbrev pub invariant-loop-other : goal.invariant-loop-other
invariant-loop-other g l = l.draft ≡ l.initial.draft ++ flat_map (λ other. l.separator ++ g.T.ListItem.text other) (take l.other-index l.others)
