use Rattle.std.proofs.Common.{◌∙◌, ◌<◌, ◌++◌, ◌∷◌, [], List, length, map, take, ap, sym, refl, arith}
use Rattle.std.proofs.lemmas.List.{take_more}
use Rattle.std.proofs.lemmas.List.{take_all}
use Rattle.seq_bus_core.specs.Tickets.{WholeBus, bus_step}
use Rattle.interleave.specs.declared.seat.Made.{Made}
use Rattle.interleave.specs.Playing.{bus_along, making}
use Rattle.interleave.proofs.RunLemmas.{along_push}
use Rattle.interleave.proofs.seat.make_all.Goals as goal

pub loop-made-init : goal.loop-made-init
loop-made-init c = refl

pub loop-made-preserved : goal.loop-made-preserved
loop-made-preserved c =
    let changes = c.args.changes.now in
    let i = c.loop-made.made-index in
    let x = c.made-item.result in
    let lt : i < length changes = omega (arith, c.loop-made-test.true) in
    let grown = take_more changes i x lt ∙ ap (λ (y : Made). take i changes ++ y ∷ []) (sym c.made-item.is) in
    c.in_ok-make.ensures.made ∙ ap (λ (b : WholeBus). (bus_step b x.seat x.change.now).0) c.loop-made.invariant
    ∙ sym (along_push c.args.bus.now (take i changes) x) ∙ sym (ap (λ (ms : List Made). bus_along c.args.bus.now (map making ms)) grown)

pub returns : goal.returns
returns c =
    let whole = take_all c.loop-made.made-index c.args.changes.now (omega (arith, c.loop-made-test.false)) in
    c.loop-made.invariant ∙ ap (λ (ms : List Made). bus_along c.args.bus.now (map making ms)) whole
