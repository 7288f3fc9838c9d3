use Rattle.std.proofs.Common.{◌≡◌, None, Some, true, false, count_by, get_or, take, refl, sym, ap, ◌∙◌, arith}
use Rattle.std.specs.Prelude.{option_copied}
use Rattle.std.proofs.lemmas.List.{take_all}
use Rattle.router_core.specs.Standing.{is_unnamed}
use Rattle.router.proofs.Slabs.{count_more}
use Rattle.router.proofs.naming.count_unnamed.Goals as goal
use Rattle.router.proofs.naming.count_unnamed.Goals.{then-is_unnamed, else-is_unnamed}

pub loop-key-preserved : goal.loop-key-preserved
loop-key-preserved c =
    let slots = c.args.peers.now.slots in
    let at = c.loop-key in
    let there : get_or slots at.key None ≡ Some c.in-Some.peer.now = sym (ap option_copied (sym c.in-Some.is) ∙ c.get.ensures) in
    elim c.if-is_unnamed.branch [
      | then-is_unnamed w ↦
          let more = count_more is_unnamed refl slots at.key true (ap is_unnamed there ∙ sym w.if-is_unnamed.ensures) in
          record { counts = omega (arith, w.count-is, at.invariant.counts, more); few = omega (arith, w.count-is, at.invariant.few) }
      | else-is_unnamed w ↦
          let more = count_more is_unnamed refl slots at.key false (ap is_unnamed there ∙ sym w.if-is_unnamed.ensures) in
          record { counts = omega (arith, w.count-is, at.invariant.counts, more); few = omega (arith, w.count-is, at.invariant.few) }
    ]

pub loop-key-preserved-in_default : goal.loop-key-preserved-in_default
loop-key-preserved-in_default c =
    let slots = c.args.peers.now.slots in
    let at = c.loop-key in
    let more = count_more is_unnamed refl slots at.key false (ap is_unnamed (sym c.get.ensures ∙ ap option_copied c.in_default.is)) in
    record { counts = omega (arith, at.invariant.counts, more); few = omega (arith, at.invariant.few) }

pub returns : goal.returns
returns c =
    let slots = c.args.peers.now.slots in
    let at = c.loop-key in
    let whole : take at.key slots ≡ slots = take_all at.key slots (omega (arith, c.capacity-key-end.ensures.slots)) in
    at.invariant.counts ∙ ap (count_by is_unnamed) whole
