use Rattle.std.proofs.Common.{◌≡◌, ◌∙◌, ◌+◌, ◌++◌, List, length, refl, ap, sym, subst}
use Rattle.seq_bus_core.specs.Batches.{entries_of, outcomes_of}
use Rattle.seq_bus_core.specs.BusState.{BusState}
use Rattle.seq_bus_core.specs.Histories.{History}
use Rattle.seq_bus_core.specs.Tickets.{WholeBus, bus_after}
use Rattle.seq_bus_core.specs.declared.change.Change.{Change}
use Rattle.registry.specs.PreparedChanges.{state_along}
use Rattle.settling.specs.Batches.{IsSomeBusAlong, SettleAlong}
use Rattle.settling.specs.Settlings.{Settling}
use Rattle.seq_bus.specs.PlainBus.{PlainBus, bus_now, opened_as}
use Rattle.seq_bus.proofs.HistoryLemmas.{along_history, bounded_along_history, kept_along, opened_along}
use Rattle.seq_bus.proofs.bus.SeqBus.change_all.Goals as goal

pub settle-outcomes-requires : goal.settle-outcomes-requires
settle-outcomes-requires c =
    let before = c.self.inside in
    let s : BusState = before.registry in
    let changes : List Change = c.args.changes.items in
    let settlings : List Settling = c.in-Ok.settlings in
    let here : SettleAlong s 1 changes settlings = subst (λ (cs : List Change). SettleAlong s 1 cs settlings) c.deref.ensures.value c.in-Ok.ensures.settles in
    subst (λ (cs : List Change). IsSomeBusAlong cs settlings before.calls) (sym c.deref-2.ensures.value)
    (bus_after (opened_as s) before.seen.items, (1, (c.self.invariant.holding, along_history s before.calls before.seen.items changes settlings c.self.invariant here)))

pub invariant_of-self-2 : goal.invariant_of-self-2
invariant_of-self-2 c =
    let before = c.self.inside in
    let s : BusState = before.registry in
    let changes : List Change = c.args.changes.items in
    let settlings : List Settling = c.in-Ok.settlings in
    let here : SettleAlong s 1 changes settlings = subst (λ (cs : List Change). SettleAlong s 1 cs settlings) c.deref.ensures.value c.in-Ok.ensures.settles in
    let along = along_history s before.calls before.seen.items changes settlings c.self.invariant here in
    let settled = (rw c.deref-2.ensures.value at c.settle-outcomes.ensures) (bus_after (opened_as s) before.seen.items) 1 c.self.invariant.holding along in
    let t : BusState = c.prepare_all.new.registry in
    let t_is : t ≡ state_along s 1 changes = c.in-Ok.ensures.made ∙ ap (state_along s 1) c.deref.ensures.value in
    let grown : c.add_entries.new.seen.items ≡ before.seen.items ++ entries_of 1 (length before.seen.items + 1) changes =
    c.add_entries.ensures ∙ ap (λ (h : History). h ++ entries_of 1 (length h + 1) changes) c.reserve.ensures.items in
    rw grown (kept_along s t before.calls c.settle-outcomes.new.calls before.seen.items (length before.seen.items + 1) changes c.self.invariant t_is refl settled.0)

pub returns-clause-made : goal.returns-clause-made
returns-clause-made c =
    let before = c.self.inside in
    let s : BusState = before.registry in
    let changes : List Change = c.args.changes.items in
    let settlings : List Settling = c.in-Ok.settlings in
    let here : SettleAlong s 1 changes settlings = subst (λ (cs : List Change). SettleAlong s 1 cs settlings) c.deref.ensures.value c.in-Ok.ensures.settles in
    let along = along_history s before.calls before.seen.items changes settlings c.self.invariant here in
    let settled = (rw c.deref-2.ensures.value at c.settle-outcomes.ensures) (bus_after (opened_as s) before.seen.items) 1 c.self.invariant.holding along in
    let t : BusState = c.prepare_all.new.registry in
    let t_is : t ≡ state_along s 1 changes = c.in-Ok.ensures.made ∙ ap (state_along s 1) c.deref.ensures.value in
    let grown : c.add_entries.new.seen.items ≡ before.seen.items ++ entries_of 1 (length before.seen.items + 1) changes =
    c.add_entries.ensures ∙ ap (λ (h : History). h ++ entries_of 1 (length h + 1) changes) c.reserve.ensures.items in
    let now : bus_now c.args.self.now ≡ bus_after (opened_as s) before.seen.items = ap bus_now (sym c.self.view_is) in
    let after : PlainBus → PlainBus = λ b. record b { seen = b.seen ++ entries_of 1 (length b.seen + 1) changes } in
    let opened = ap opened_as t_is ∙ opened_along s changes in
    record {
      told = settled.1 ∙ sym (ap (λ (b : WholeBus). outcomes_of b 1 changes) now);
      published = (λ k. record { opening = opened k; seen = grown k }) ∙ ap after c.self.view_is;
    }

pub returns-clause-few : goal.returns-clause-few
returns-clause-few c =
    let before = c.self.inside in
    let s : BusState = before.registry in
    let changes : List Change = c.args.changes.items in
    let settlings : List Settling = c.in-Ok.settlings in
    let here : SettleAlong s 1 changes settlings = subst (λ (cs : List Change). SettleAlong s 1 cs settlings) c.deref.ensures.value c.in-Ok.ensures.settles in
    let along = along_history s before.calls before.seen.items changes settlings c.self.invariant here in
    let settled = (rw c.deref-2.ensures.value at c.settle-outcomes.ensures) (bus_after (opened_as s) before.seen.items) 1 c.self.invariant.holding along in
    bounded_along_history s before.calls before.seen.items changes c.settle-outcomes.result.items c.self.invariant settled.1
