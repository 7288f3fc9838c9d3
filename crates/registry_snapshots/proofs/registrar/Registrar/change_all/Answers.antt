use Rattle.std.proofs.Common.{◌≡◌, ◌∙◌, ◌+◌, ◌++◌, ℕ, List, length, false, ap, sym, subst, rules}
use Rattle.std.proofs.lemmas.List.{length-append}
use Rattle.registry.specs.PreparedChanges.{PreparedChange, ArePreparedFor, state_along}
use Rattle.registry.proofs.Along.{absorbed_is}
use Rattle.seq_bus_core.specs.Batches.{entries_of, outcomes_of}
use Rattle.seq_bus_core.specs.BusState.{BusState}
use Rattle.seq_bus_core.specs.Histories.{History}
use Rattle.seq_bus_core.specs.Tickets.{bus_after}
use Rattle.seq_bus_core.proofs.Extending.{entries_length}
use Rattle.seq_bus_core.specs.declared.change.Change.{Change}
use Rattle.settling.specs.Batches.{IsSomeBusAlong, SettleAlong}
use Rattle.settling.specs.Settlings.{Settling}
use Rattle.registry_snapshots_core.specs.Copies.{PrefixView, SnapView}
use Rattle.registry_snapshots.proofs.Changes.{all_changed, calls_along, bounded_told_all, settle_after}
use Rattle.registry_snapshots.proofs.registrar.Registrar.change_all.Goals as goal

pub settle-outcomes-requires : goal.settle-outcomes-requires
settle-outcomes-requires g c =
    let s : SnapView = c.self.inside.copies.0 in
    let changes : List Change = c.args.changes.items in
    let settlings : List Settling = c.in-Ok-prepare_all.settlings in
    let unspent : c.self.inside.copies.1 ≡ false = search rules in
    let here : SettleAlong c.self.inside.third c.args.seat changes settlings = subst (λ (cs : List Change). SettleAlong c.self.inside.third c.args.seat cs settlings) c.deref.ensures.value c.in-Ok-prepare_all.ensures.settles in
    let along = settle_after g.J.Naming.book g.J.Naming.opening s c.self.inside.third c.args.seat changes settlings c.published-shown.ensures.kept (c.self.invariant.0.same unspent) here in
    subst (λ (cs : List Change). IsSomeBusAlong cs settlings c.self.inside.calls) (sym c.deref-2.ensures.value)
    (bus_after g.J.Naming.opening s.prefix.log, (c.args.seat, (c.self.invariant.0.waiting.holding, along)))

pub invariant_of-self-2 : goal.invariant_of-self-2
invariant_of-self-2 g c =
    let s : SnapView = c.self.inside.copies.0 in
    let seat = c.args.seat in
    let changes : List Change = c.args.changes.items in
    let settlings : List Settling = c.in-Ok-prepare_all.settlings in
    let prepared : List PreparedChange = c.in-Ok-prepare_all.prepared.items in
    let b = bus_after g.J.Naming.opening s.prefix.log in
    let unspent : c.self.inside.copies.1 ≡ false = search rules in
    let third = c.self.invariant.0.same unspent in
    let here : SettleAlong c.self.inside.third seat changes settlings = subst (λ (cs : List Change). SettleAlong c.self.inside.third seat cs settlings) c.deref.ensures.value c.in-Ok-prepare_all.ensures.settles in
    let along = settle_after g.J.Naming.book g.J.Naming.opening s c.self.inside.third seat changes settlings c.published-shown.ensures.kept third here in
    let settled = (rw c.deref-2.ensures.value at c.settle-outcomes.ensures) b seat c.self.invariant.0.waiting.holding along in
    let same = c.in-Ok.ensures.prefix.0 ∙ ap (λ (t : SnapView). t.prefix) c.published-shown.ensures.value in
    let next = ap (λ (f : PrefixView). f.log) (c.in-Ok-publish_all.ensures.published ∙ c.in-Ok-publish_all.ensures.next) ∙ ap (λ (f : PrefixView). f.log ++ entries_of seat (c.made-made.result + 1) changes) same in
    let all : ArePreparedFor seat changes prepared = subst (λ (cs : List Change). ArePreparedFor seat cs prepared) c.deref.ensures.value c.in-Ok-prepare_all.ensures.prepared in
    let bus = c.in-Ok-prepare_all.ensures.made ∙ ap (state_along c.self.inside.third seat) c.deref.ensures.value ∙ ap (λ (t : BusState). state_along t seat changes) third ∙ sym (absorbed_is s.bus seat changes prepared all) ∙ sym c.in-Ok-publish_all.ensures.bus in
    let count : c.len-2.result ≡ length changes = search rules in
    let counted = c.add.ensures.total ∙ ap (λ (n : ℕ). c.self.inside.ledger.total + n) count ∙ ap (λ (n : ℕ). n + length changes) c.self.invariant.1
    ∙ ap (λ (n : ℕ). length s.prefix.log + n) (sym (entries_length seat (c.made-made.result + 1) changes))
    ∙ sym (length-append s.prefix.log (entries_of seat (c.made-made.result + 1) changes))
    ∙ sym (ap (λ (h : History). length h) next) in (
      record {
        waiting = calls_along g.J.Naming.opening s.prefix.log c.publish_all.new.self.0.prefix.log seat (c.made-made.result + 1) changes c.self.inside.calls c.settle-outcomes.new.calls c.self.invariant.0.waiting settled.0 next;
        same = λ _. bus;
      },
      counted,
    )

pub returns-clause-made : goal.returns-clause-made
returns-clause-made g c =
    let s : SnapView = c.self.inside.copies.0 in
    let seat = c.args.seat in
    let changes : List Change = c.args.changes.items in
    let settlings : List Settling = c.in-Ok-prepare_all.settlings in
    let b = bus_after g.J.Naming.opening s.prefix.log in
    let unspent : c.self.inside.copies.1 ≡ false = search rules in
    let here : SettleAlong c.self.inside.third seat changes settlings = subst (λ (cs : List Change). SettleAlong c.self.inside.third seat cs settlings) c.deref.ensures.value c.in-Ok-prepare_all.ensures.settles in
    let along = settle_after g.J.Naming.book g.J.Naming.opening s c.self.inside.third seat changes settlings c.published-shown.ensures.kept (c.self.invariant.0.same unspent) here in
    let settled = (rw c.deref-2.ensures.value at c.settle-outcomes.ensures) b seat c.self.invariant.0.waiting.holding along in
    let same = c.in-Ok.ensures.prefix.0 ∙ ap (λ (t : SnapView). t.prefix) c.published-shown.ensures.value in
    let told = settled.1 ∙ ap (λ (f : PrefixView). outcomes_of (bus_after g.J.Naming.opening f.log) seat changes) (sym same) in
    rw (c.made-made.ensures) at (all_changed g.J.Naming.book g.J.Naming.opening c.args.known.now.log c.in-Ok.prefix.log c.in-Ok-publish_all.next.log seat c.made-made.result changes c.settle-outcomes.result.items
    c.in-Ok.ensures.known c.in-Ok.ensures.prefix.1 c.in-Ok.ensures.made.0 told (ap (λ (f : PrefixView). f.log) c.in-Ok-publish_all.ensures.next))

pub returns-clause-few : goal.returns-clause-few
returns-clause-few g c =
    let s : SnapView = c.self.inside.copies.0 in
    let seat = c.args.seat in
    let changes : List Change = c.args.changes.items in
    let settlings : List Settling = c.in-Ok-prepare_all.settlings in
    let b = bus_after g.J.Naming.opening s.prefix.log in
    let unspent : c.self.inside.copies.1 ≡ false = search rules in
    let here : SettleAlong c.self.inside.third seat changes settlings = subst (λ (cs : List Change). SettleAlong c.self.inside.third seat cs settlings) c.deref.ensures.value c.in-Ok-prepare_all.ensures.settles in
    let along = settle_after g.J.Naming.book g.J.Naming.opening s c.self.inside.third seat changes settlings c.published-shown.ensures.kept (c.self.invariant.0.same unspent) here in
    let settled = (rw c.deref-2.ensures.value at c.settle-outcomes.ensures) b seat c.self.invariant.0.waiting.holding along in
    bounded_told_all g.J.Naming.opening s.prefix.log seat changes c.self.inside.calls c.settle-outcomes.result.items c.self.invariant.0.waiting settled.1
