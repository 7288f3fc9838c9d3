use Rattle.std.proofs.Common.{◌≡◌, ◌<◌, None, Some, true, false, get_or, refl, rules, arith, sym, ap, ◌∙◌}
use Rattle.std.specs.Prelude.{option_copied}
use Rattle.router_core.specs.Standing.{is_conn}
use Rattle.router.specs.Indexed.{slot_count}
use Rattle.router.proofs.Indexing.{found_here, found_nowhere, slot_of_conn}
use Rattle.router.proofs.mail.find_addressed.Goals as goal

pub returns-in_default : goal.returns-in_default
returns-in_default c =
    let slot = c.args.slot in
    let slots = c.args.peers.now.slots in
    let key_of_slot = c.args.key_of_slot.now in
    let test = is_conn slot c.args.number in
    let at : c.from-at.result ≡ slot = search rules in
    let below : slot < slot_count = omega (arith, at, c.if-at-ge-SLOT_COUNT.false) in
    let key = get_or key_of_slot c.from-at.result 0 in
    let kept : get_or key_of_slot slot 0 ≡ key = ap (λ n. get_or key_of_slot n 0) (sym at) in
    let isnt : test (get_or slots key None) ≡ false = ap test (sym c.get.ensures ∙ ap option_copied c.in_default.is) in
    sym (found_nowhere test refl slot (slot_of_conn slot c.args.number) slots key_of_slot c.requires below key kept isnt)

pub returns-then-is_addressed : goal.returns-then-is_addressed
returns-then-is_addressed c =
    let slot = c.args.slot in
    let slots = c.args.peers.now.slots in
    let key_of_slot = c.args.key_of_slot.now in
    let test = is_conn slot c.args.number in
    let at : c.from-at.result ≡ slot = search rules in
    let below : slot < slot_count = omega (arith, at, c.if-at-ge-SLOT_COUNT.false) in
    let key = get_or key_of_slot c.from-at.result 0 in
    let kept : get_or key_of_slot slot 0 ≡ key = ap (λ n. get_or key_of_slot n 0) (sym at) in
    let there : get_or slots key None ≡ Some c.in-Some.peer.now = sym (ap option_copied (sym c.in-Some.is) ∙ c.get.ensures) in
    let is : test (get_or slots key None) ≡ true = ap test there ∙ sym c.if-is_addressed.ensures in
    sym (found_here test refl slot (slot_of_conn slot c.args.number) slots key_of_slot c.requires below key kept is)

pub returns : goal.returns
returns c =
    let slot = c.args.slot in
    let slots = c.args.peers.now.slots in
    let key_of_slot = c.args.key_of_slot.now in
    let test = is_conn slot c.args.number in
    let at : c.from-at.result ≡ slot = search rules in
    let below : slot < slot_count = omega (arith, at, c.if-at-ge-SLOT_COUNT.false) in
    let key = get_or key_of_slot c.from-at.result 0 in
    let kept : get_or key_of_slot slot 0 ≡ key = ap (λ n. get_or key_of_slot n 0) (sym at) in
    let there : get_or slots key None ≡ Some c.in-Some.peer.now = sym (ap option_copied (sym c.in-Some.is) ∙ c.get.ensures) in
    let isnt : test (get_or slots key None) ≡ false = ap test there ∙ sym c.if-is_addressed.ensures in
    sym (found_nowhere test refl slot (slot_of_conn slot c.args.number) slots key_of_slot c.requires below key kept isnt)
