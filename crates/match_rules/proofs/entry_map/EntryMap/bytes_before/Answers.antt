use Rattle.std.proofs.Common.{ap, arith}
use Rattle.match_rules.specs.EntryView.{pair_of, entries_left}
use Rattle.match_rules.specs.Reading.{bytes_before}
use Rattle.match_rules.proofs.Putting.{bytes_before-within, bytes_before-behind}
use Rattle.match_rules.proofs.entry_map.EntryMap.bytes_before.Goals as goal

pub overflow_add-before-in-loop-entry : goal.overflow_add-before-in-loop-entry
overflow_add-before-in-loop-entry c =
    let here = bytes_before-behind c.args.place (pair_of c.in-Some.entry) (entries_left c.next.new.self) (omega (arith, c.place.ensures, c.if-place.false)) in
    let left = ap (λ entries. bytes_before c.args.place entries) c.in-Some.ensures.steps in
    omega (arith, here, left, c.loop-entry.invariant, bytes_before-within c.args.place c.args.self.now, c.entries-entry-items.ensures.room)
