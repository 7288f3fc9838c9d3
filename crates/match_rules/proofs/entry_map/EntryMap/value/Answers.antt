use Rattle.std.proofs.Common.{sym, ◌∙◌, arith}
use Rattle.match_rules.specs.EntryView.{pair_of, entries_left}
use Rattle.match_rules.proofs.ValueLemmas.{found_value, taken_value, no_value, behind_rises, behind_taken, behind_value}
use Rattle.match_rules.proofs.entry_map.EntryMap.value.Goals as goal

pub returns-then-here-place-clause-value : goal.returns-then-here-place-clause-value
returns-then-here-place-clause-value c =
    found_value c.args.key (pair_of c.in-Some.entry) (entries_left c.next.new.self) (entries_left c.loop-entry.entry-iterator) c.args.self.now c.in-Some.ensures.steps c.loop-entry.invariant.value
    (sym c.place-here.ensures ∙ c.if-here-place.true ∙ c.place-place.ensures)

pub returns-then-here-place-clause-taken : goal.returns-then-here-place-clause-taken
returns-then-here-place-clause-taken c =
    taken_value c.args.key (pair_of c.in-Some.entry) (entries_left c.next.new.self) c.loop-entry.entry-iterator.bytes.now c.requires c.in-Some.ensures.steps c.loop-entry.invariant.taken
    (sym c.place-here.ensures ∙ c.if-here-place.true ∙ c.place-place.ensures)

pub returns-then-place-here-clause-value : goal.returns-then-place-here-clause-value
returns-then-place-here-clause-value c =
    no_value c.args.key (pair_of c.in-Some.entry) (entries_left c.next.new.self) (entries_left c.loop-entry.entry-iterator) c.args.self.now c.in-Some.ensures.steps c.loop-entry.invariant.rising c.loop-entry.invariant.value
    (omega (arith, c.place-here.ensures, c.place-place.ensures, c.if-place-here.true))

pub loop-entry-preserved : goal.loop-entry-preserved
loop-entry-preserved c = record {
  rising = behind_rises (pair_of c.in-Some.entry) (entries_left c.next.new.self) (entries_left c.loop-entry.entry-iterator) c.in-Some.ensures.steps c.loop-entry.invariant.rising;
  taken = behind_taken (pair_of c.in-Some.entry) (entries_left c.next.new.self) (entries_left c.loop-entry.entry-iterator) c.in-Some.ensures.steps c.loop-entry.invariant.taken;
  value = behind_value c.args.key (pair_of c.in-Some.entry) (entries_left c.next.new.self) (entries_left c.loop-entry.entry-iterator) c.args.self.now c.in-Some.ensures.steps c.loop-entry.invariant.value
      (λ e. c.if-here-place.false (c.place-here.ensures ∙ e ∙ sym c.place-place.ensures));
}
