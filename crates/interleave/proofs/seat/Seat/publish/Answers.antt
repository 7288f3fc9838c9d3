use Rattle.std.proofs.Common.{◌≡◌, ◌∙◌, ◌<◌, ◌+◌, ◌++◌, ◌∷◌, [], List, length, map, take, ap, sym, refl, subst, arith, rules}
use Rattle.std.proofs.lemmas.List.{take_more, take_all}
use Rattle.seq_bus_core.specs.declared.change.Change.{Change}
use Rattle.interleave_core.specs.Worlds.{told_from}
use Rattle.interleave.specs.Logs.{AreLines}
use Rattle.interleave.specs.Playing.{bus_along, making, makings}
use Rattle.interleave.proofs.RunLemmas.{none_published, one_published}
use Rattle.interleave.proofs.seat.Seat.publish.Goals as goal

pub loop-change-init : goal.loop-change-init
loop-change-init c = none_published c.args.self.now.bus c.args.seat c.args.published.now.items c.args.log.now.items

pub loop-change-preserved : goal.loop-change-preserved
loop-change-preserved c =
    let changes = c.args.changes.now in
    let i = c.loop-change.change-index in
    let x = c.change-item.result in
    let lt : i < length changes = omega (arith, c.loop-change-test.true) in
    let grown = take_more changes i x lt ∙ ap (λ (y : Change). take i changes ++ y ∷ []) (sym c.change-item.is) in
    let place : c.len.result ≡ length c.loop-change.published.items + 1 = search rules in
    rw (grown, c.in_ok-push.ensures.items, c.in_ok-push-2.ensures.items)
    (one_published c.args.self.now.bus c.args.seat c.args.published.now.items c.args.log.now.items (take i changes) x c.loop-change.self.bus c.make.new.self c.loop-change.published.items c.loop-change.log.items _ _
    c.loop-change.invariant c.in_ok-outcome.ensures.made refl refl place (refl, c.in_ok-outcome.ensures.told))

pub returns-clause-bus : goal.returns-clause-bus
returns-clause-bus c =
    let whole = take_all c.loop-change.change-index c.args.changes.now (omega (arith, c.loop-change-test.false)) in
    c.loop-change.invariant.bus ∙ ap (λ (changes : List Change). bus_along c.args.self.now.bus (makings c.args.seat changes)) whole

pub returns-clause-published : goal.returns-clause-published
returns-clause-published c =
    let whole = take_all c.loop-change.change-index c.args.changes.now (omega (arith, c.loop-change-test.false)) in
    c.loop-change.invariant.made ∙ ap (λ (changes : List Change). map making c.args.published.now.items ++ makings c.args.seat changes) whole

pub returns-clause-logged : goal.returns-clause-logged
returns-clause-logged c lines at =
    let whole = take_all c.loop-change.change-index c.args.changes.now (omega (arith, c.loop-change-test.false)) in
    subst (λ (changes : List Change). AreLines c.loop-change.log.items (lines ++ told_from c.args.self.now.bus c.args.seat (length c.args.published.now.items) changes)) whole (c.loop-change.invariant.told lines at)
