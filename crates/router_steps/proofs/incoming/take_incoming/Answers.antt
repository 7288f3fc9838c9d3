use Rattle.std.proofs.Common.{◌++◌, List, ℕ, sym, ap, subst, ◌∙◌}
use Rattle.message.specs.Framing.{Unread, IsJudged}
use Rattle.message_core.specs.declared.announcement.TheConstants.{MAXIMUM_LENGTH}
use Rattle.router_steps.specs.Pending.{pending_bytes}
use Rattle.router_steps.proofs.Judging.{judged}
use Rattle.router_steps.proofs.Pendings.{none_taken}
use Rattle.router_steps.proofs.incoming.take_incoming.Goals as goal

pub returns-in_default-fault-clause-incoming : goal.returns-in_default-fault-clause-incoming
returns-in_default-fault-clause-incoming c =
    let bytes = c.args.unread.now.bytes in
    let none = none_taken c.args.pending.now.items c.pop_front.new.self.items c.pop_front.result c.in_default.not-Some c.pop_front.ensures.items c.pop_front.ensures.rest in
    let other = c.in_default-fault.not-NoMemory in
    let here = judged MAXIMUM_LENGTH c.in-Err.fault c.args.unread.now c.next.new.self other c.requires.fine c.in-Err.ensures.fault in (
      (subst (λ (p : List (List ℕ)). IsJudged MAXIMUM_LENGTH c.in-Err.fault (pending_bytes p ++ bytes)) (sym none.0) here, other),
      ap (λ (p : List (List ℕ)). pending_bytes p ++ c.new.result.bytes) none.1 ∙ ap (λ (u : Unread). u.bytes) c.new.ensures,
    )
