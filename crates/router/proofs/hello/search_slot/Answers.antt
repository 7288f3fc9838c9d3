use Rattle.std.proofs.Common.{◌≡◌, None, Some, get_or, refl, sym, ap, ◌∙◌, arith}
use Rattle.std.specs.Prelude.{option_copied}
use Rattle.router_core.specs.Standing.{has_slot}
use Rattle.router.proofs.Slabs.{first_of_all, none_of_all, passes_until}
use Rattle.router.proofs.hello.search_slot.Goals as goal

pub loop-key-preserved : goal.loop-key-preserved
loop-key-preserved c =
    let test = has_slot c.args.slot in
    let there : get_or c.args.peers.now.slots c.loop-key.key None ≡ Some c.in-Some.peer.now = sym (ap option_copied (sym c.in-Some.is) ∙ c.get.ensures) in
    passes_until test c.args.peers.now.slots c.loop-key.key c.loop-key.invariant (ap test there ∙ sym c.if-has_slot.ensures)

pub loop-key-preserved-in_default : goal.loop-key-preserved-in_default
loop-key-preserved-in_default c =
    let test = has_slot c.args.slot in
    passes_until test c.args.peers.now.slots c.loop-key.key c.loop-key.invariant (ap test (sym c.get.ensures ∙ ap option_copied c.in_default.is))

pub returns-then-has_slot : goal.returns-then-has_slot
returns-then-has_slot c =
    let test = has_slot c.args.slot in
    let there : get_or c.args.peers.now.slots c.loop-key.key None ≡ Some c.in-Some.peer.now = sym (ap option_copied (sym c.in-Some.is) ∙ c.get.ensures) in
    sym (first_of_all test refl c.args.peers.now.slots c.loop-key.key c.loop-key.invariant (ap test there ∙ sym c.if-has_slot.ensures))

pub returns : goal.returns
returns c =
    sym (none_of_all (has_slot c.args.slot) refl c.args.peers.now.slots c.loop-key.key (omega (arith, c.capacity-key-end.ensures.slots)) c.loop-key.invariant)
