use Rattle.std.proofs.Common.{◌≡◌, ◌∙◌, ◌+◌, ◌++◌, ◌∷◌, [], true, is_ok, length, ap, sym, subst, rules}
use Rattle.seq_bus_core.specs.BusState.{BusState}
use Rattle.seq_bus_core.specs.Bounds.{IsBounded}
use Rattle.seq_bus_core.specs.Steps.{step}
use Rattle.seq_bus_core.specs.Tickets.{WholeBus, bus_step, bus_after}
use Rattle.seq_bus_core.specs.declared.entry.Entry.{Entry}
use Rattle.registry.proofs.Along.{absorbed_one}
use Rattle.seq_bus.specs.PlainBus.{PlainBus, bus_now, next_entry, opened_as}
use Rattle.seq_bus.proofs.HistoryLemmas.{bounded_at, kept_more, opened_after, settles_after}
use Rattle.seq_bus.proofs.bus.SeqBus.change.Goals as goal

pub settle-outcome-requires : goal.settle-outcome-requires
settle-outcome-requires c =
    let before = c.self.inside in
    (bus_after (opened_as before.registry) before.seen.items, (1, (c.self.invariant.holding, settles_after before.registry before.calls before.seen.items c.args.change c.in-Ok.settling c.self.invariant c.in-Ok.ensures.settles)))

pub invariant_of-self-2 : goal.invariant_of-self-2
invariant_of-self-2 c =
    let before = c.self.inside in
    let s : BusState = before.registry in
    let t : BusState = c.absorb.new.self in
    let t_is : t ≡ (step s 1 c.args.change).0 = c.absorb.ensures ∙ absorbed_one s 1 c.args.change c.in-Ok.prepared c.in-Ok.ensures.prepared in
    let settles = settles_after s before.calls before.seen.items c.args.change c.in-Ok.settling c.self.invariant c.in-Ok.ensures.settles in
    let settled = c.settle-outcome.ensures (bus_after (opened_as s) before.seen.items) 1 c.self.invariant.holding settles in
    let entry : Entry = record { seat = 1; number = c.len.result + 1; change = c.args.change; left = 0 } in
    let stored : is_ok c.push.result ≡ true = search rules in
    let grown : c.push.new.self.items ≡ before.seen.items ++ entry ∷ [] = rw stored at c.push.ensures.items ∙ ap (λ items. items ++ entry ∷ []) c.reserve.ensures.items in
    rw grown (kept_more s t before.calls c.settle-outcome.new.calls before.seen.items (c.len.result + 1) c.args.change c.self.invariant t_is (ap (λ n. n + 1) (search rules)) settled.0)

pub returns-clause-made : goal.returns-clause-made
returns-clause-made c =
    let before = c.self.inside in
    let s : BusState = before.registry in
    let t : BusState = c.absorb.new.self in
    let t_is : t ≡ (step s 1 c.args.change).0 = c.absorb.ensures ∙ absorbed_one s 1 c.args.change c.in-Ok.prepared c.in-Ok.ensures.prepared in
    let settles = settles_after s before.calls before.seen.items c.args.change c.in-Ok.settling c.self.invariant c.in-Ok.ensures.settles in
    let settled = c.settle-outcome.ensures (bus_after (opened_as s) before.seen.items) 1 c.self.invariant.holding settles in
    let stored : is_ok c.push.result ≡ true = search rules in
    let count : c.len.result ≡ length before.seen.items = search rules in
    let grown : c.push.new.self.items ≡ before.seen.items ++ record { seat = 1; number = length before.seen.items + 1; change = c.args.change; left = 0 } ∷ [] =
    rw stored at c.push.ensures.items ∙ ap (λ items. items ++ record { seat = 1; number = c.len.result + 1; change = c.args.change; left = 0 } ∷ []) c.reserve.ensures.items
    ∙ ap (λ n. before.seen.items ++ record { seat = 1; number = n + 1; change = c.args.change; left = 0 } ∷ []) count in
    let now : bus_now c.args.self.now ≡ bus_after (opened_as s) before.seen.items = ap bus_now (sym c.self.view_is) in
    let after : PlainBus → PlainBus = λ b. record b { seen = b.seen ++ next_entry b c.args.change ∷ [] } in
    let opened = opened_after s t c.args.change t_is in
    record {
      told = settled.1 ∙ sym (ap (λ (b : WholeBus). (bus_step b 1 c.args.change).1) now);
      published = (λ k. record { opening = opened k; seen = grown k }) ∙ ap after c.self.view_is;
    }

pub returns-clause-few : goal.returns-clause-few
returns-clause-few c =
    let before = c.self.inside in
    let s : BusState = before.registry in
    let settles = settles_after s before.calls before.seen.items c.args.change c.in-Ok.settling c.self.invariant c.in-Ok.ensures.settles in
    let settled = c.settle-outcome.ensures (bus_after (opened_as s) before.seen.items) 1 c.self.invariant.holding settles in
    subst IsBounded (sym settled.1) (bounded_at s before.calls before.seen.items c.args.change c.self.invariant)
