use Rattle.std.proofs.Common.{◌≡◌, ◌∙◌, ◌+◌, ◌++◌, ◌∷◌, [], ℕ, length, false, ap, sym, rules}
use Rattle.std.proofs.lemmas.List.{length-append}
use Rattle.registry.specs.PreparedChanges.{PreparedChange}
use Rattle.seq_bus_core.specs.BusState.{BusState}
use Rattle.seq_bus_core.specs.Histories.{History, entry_alone}
use Rattle.seq_bus_core.specs.Steps.{step}
use Rattle.seq_bus_core.specs.Tickets.{bus_step, bus_after}
use Rattle.registry_snapshots_core.specs.Copies.{PrefixView, SnapView}
use Rattle.registry_snapshots.proofs.Changes.{calls_more, changed, bounded_told, settles_after}
use Rattle.registry_snapshots.proofs.registrar.Registrar.change.Goals as goal

pub settle-outcome-requires : goal.settle-outcome-requires
settle-outcome-requires g c =
    let s : SnapView = c.self.inside.copies.0 in
    let unspent : c.self.inside.copies.1 ≡ false = search rules in
    let settles = settles_after g.J.Naming.book g.J.Naming.opening s c.self.inside.third c.args.seat c.args.change.now c.in-Ok.settling c.published-shown.ensures.kept (c.self.invariant.0.same unspent) c.in-Ok.ensures.settles in
    (bus_after g.J.Naming.opening s.prefix.log, (c.args.seat, (c.self.invariant.0.waiting.holding, settles)))

pub invariant_of-self-2 : goal.invariant_of-self-2
invariant_of-self-2 g c =
    let s : SnapView = c.self.inside.copies.0 in
    let seat = c.args.seat in
    let change = c.args.change.now in
    let b = bus_after g.J.Naming.opening s.prefix.log in
    let unspent : c.self.inside.copies.1 ≡ false = search rules in
    let third = c.self.invariant.0.same unspent in
    let settles = settles_after g.J.Naming.book g.J.Naming.opening s c.self.inside.third seat change c.in-Ok.settling c.published-shown.ensures.kept third c.in-Ok.ensures.settles in
    let settled = c.settle-outcome.ensures b seat c.self.invariant.0.waiting.holding settles in
    let same = c.in_ok-prefix.ensures.prefix.0 ∙ ap (λ (t : SnapView). t.prefix) c.published-shown.ensures.value in
    let next = ap (λ (f : PrefixView). f.log) (c.in-Ok-publish.ensures.published ∙ c.in-Ok-publish.ensures.next)
    ∙ ap (λ (f : PrefixView). f.log ++ entry_alone seat (c.made-made.result + 1) change ∷ []) same in
    let waiting = calls_more g.J.Naming.opening s.prefix.log c.publish.new.self.0.prefix.log seat (c.made-made.result + 1) change c.self.inside.calls c.settle-outcome.new.calls c.self.invariant.0.waiting settled.0 next in
    let p : PreparedChange = c.in-Ok.prepared in
    let bus = c.in-Ok.ensures.made ∙ ap (λ (t : BusState). (step t p.seat p.change).0) third ∙ sym c.in-Ok-publish.ensures.bus in
    let counted = c.add.ensures.total ∙ ap (λ (n : ℕ). n + 1) c.self.invariant.1
    ∙ sym (length-append s.prefix.log (entry_alone seat (c.made-made.result + 1) change ∷ []))
    ∙ sym (ap (λ (h : History). length h) next) in
    (record { waiting = waiting; same = λ _. bus }, counted)

pub returns-clause-made : goal.returns-clause-made
returns-clause-made g c =
    let s : SnapView = c.self.inside.copies.0 in
    let seat = c.args.seat in
    let change = c.args.change.now in
    let b = bus_after g.J.Naming.opening s.prefix.log in
    let unspent : c.self.inside.copies.1 ≡ false = search rules in
    let settles = settles_after g.J.Naming.book g.J.Naming.opening s c.self.inside.third seat change c.in-Ok.settling c.published-shown.ensures.kept (c.self.invariant.0.same unspent) c.in-Ok.ensures.settles in
    let settled = c.settle-outcome.ensures b seat c.self.invariant.0.waiting.holding settles in
    let same = c.in_ok-prefix.ensures.prefix.0 ∙ ap (λ (t : SnapView). t.prefix) c.published-shown.ensures.value in
    let told = settled.1 ∙ ap (λ (f : PrefixView). (bus_step (bus_after g.J.Naming.opening f.log) seat change).1) (sym same) in
    rw (c.made-made.ensures) at (changed g.J.Naming.book g.J.Naming.opening c.args.known.now.log c.in_ok-prefix.prefix.log c.in-Ok-publish.next.log seat c.made-made.result change c.settle-outcome.result
    c.in_ok-prefix.ensures.known c.in_ok-prefix.ensures.prefix.1 c.in_ok-prefix.ensures.made.0 told (ap (λ (f : PrefixView). f.log) c.in-Ok-publish.ensures.next))

pub returns-clause-few : goal.returns-clause-few
returns-clause-few g c =
    let s : SnapView = c.self.inside.copies.0 in
    let seat = c.args.seat in
    let change = c.args.change.now in
    let b = bus_after g.J.Naming.opening s.prefix.log in
    let unspent : c.self.inside.copies.1 ≡ false = search rules in
    let settles = settles_after g.J.Naming.book g.J.Naming.opening s c.self.inside.third seat change c.in-Ok.settling c.published-shown.ensures.kept (c.self.invariant.0.same unspent) c.in-Ok.ensures.settles in
    let settled = c.settle-outcome.ensures b seat c.self.invariant.0.waiting.holding settles in
    bounded_told g.J.Naming.opening s.prefix.log seat change c.self.inside.calls c.settle-outcome.result c.self.invariant.0.waiting settled.1
