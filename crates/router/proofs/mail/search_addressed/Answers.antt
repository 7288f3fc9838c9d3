use Rattle.std.proofs.Common.{◌≡◌, None, Some, get_or, refl, sym, ap, ◌∙◌, arith}
use Rattle.std.specs.Prelude.{option_copied}
use Rattle.router_core.specs.Standing.{is_conn}
use Rattle.router.proofs.Slabs.{first_of_all, none_of_all, passes_until}
use Rattle.router.proofs.mail.search_addressed.Goals as goal

pub loop-key-preserved : goal.loop-key-preserved
loop-key-preserved c =
    let test = is_conn c.args.slot c.args.number in
    let there : get_or c.args.peers.now.slots c.loop-key.key None ≡ Some c.in-Some.peer.now = sym (ap option_copied (sym c.in-Some.is) ∙ c.get.ensures) in
    passes_until test c.args.peers.now.slots c.loop-key.key c.loop-key.invariant (ap test there ∙ sym c.if-is_addressed.ensures)

pub loop-key-preserved-in_default : goal.loop-key-preserved-in_default
loop-key-preserved-in_default c =
    let test = is_conn c.args.slot c.args.number in
    passes_until test c.args.peers.now.slots c.loop-key.key c.loop-key.invariant (ap test (sym c.get.ensures ∙ ap option_copied c.in_default.is))

pub returns-then-is_addressed : goal.returns-then-is_addressed
returns-then-is_addressed c =
    let test = is_conn c.args.slot c.args.number in
    let there : get_or c.args.peers.now.slots c.loop-key.key None ≡ Some c.in-Some.peer.now = sym (ap option_copied (sym c.in-Some.is) ∙ c.get.ensures) in
    sym (first_of_all test refl c.args.peers.now.slots c.loop-key.key c.loop-key.invariant (ap test there ∙ sym c.if-is_addressed.ensures))

pub returns : goal.returns
returns c =
    sym (none_of_all (is_conn c.args.slot c.args.number) refl c.args.peers.now.slots c.loop-key.key (omega (arith, c.capacity-key-end.ensures.slots)) c.loop-key.invariant)
