use Rattle.std.proofs.Common.{◌≡◌, ◌++◌, List, ℕ, Option, None, IfSome, IfNone, sym, ap, subst, ◌∙◌}
use Rattle.message_core.specs.declared.announcement.TheConstants.{MAXIMUM_LENGTH}
use Rattle.message.specs.Framing.{Unread, IsWaiting, IsTaken, IsJudged}
use Rattle.router_steps.specs.Pending.{pending_bytes}
use Rattle.router_steps.proofs.Judging.{judged, bytes_kept}
use Rattle.router_steps.proofs.Pendings.{bytes_read}
use Rattle.router_steps.proofs.incoming.read_more.Goals as goal

pub returns-in-Ok-Some-clause-bytes : goal.returns-in-Ok-Some-clause-bytes
returns-in-Ok-Some-clause-bytes c =
    let old = c.args.pending.now.items in
    let new = c.push_back_reserved.new.self.items in
    let message = c.in-Ok-Some.message in
    let unread = c.args.unread.now in
    let rest = c.next.new.self in
    let taken = subst (λ (o : Option (List ℕ)). IfSome o (λ m. IsTaken MAXIMUM_LENGTH m unread rest)) c.in-Ok-Some.field-0-is c.in-Ok-Some.ensures.some in
    bytes_read old c.reserve.new.self.items new message unread.bytes rest.bytes c.reserve.ensures.items c.push_back_reserved.ensures.items taken.taken

pub returns-in-Ok-None-clause-more : goal.returns-in-Ok-None-clause-more
returns-in-Ok-None-clause-more c =
    let unread = c.args.unread.now in
    let rest = c.next.new.self in
    let waits = subst (λ (o : Option (List ℕ)). IfNone o ((unread.fault ≡ None) × IsWaiting MAXIMUM_LENGTH unread.bytes × (rest ≡ unread))) c.in-Ok-None.field-0-is c.in-Ok-None.ensures.none in
    subst (λ (u : Unread). IsWaiting MAXIMUM_LENGTH u.bytes) (sym waits.2) waits.1

pub returns-in_default-clause-more : goal.returns-in_default-clause-more
returns-in_default-clause-more c =
    let unread = c.args.unread.now in
    let other = c.in_default.not-NoMemory in
    let here = judged MAXIMUM_LENGTH c.in-Err.fault unread c.next.new.self other c.requires.fine c.in-Err.ensures.fault in
    let same = ap (λ (u : Unread). u.bytes) c.forget_fault.ensures ∙ bytes_kept MAXIMUM_LENGTH c.in-Err.fault unread c.next.new.self c.in-Err.ensures.fault in
    (subst (λ (l : List ℕ). IsJudged MAXIMUM_LENGTH c.in-Err.fault l) (sym same) here, other)

pub returns-in_default-clause-bytes : goal.returns-in_default-clause-bytes
returns-in_default-clause-bytes c =
    let unread = c.args.unread.now in
    let same = ap (λ (u : Unread). u.bytes) c.forget_fault.ensures ∙ bytes_kept MAXIMUM_LENGTH c.in-Err.fault unread c.next.new.self c.in-Err.ensures.fault in
    ap (λ (p : List (List ℕ)). pending_bytes p ++ c.forget_fault.new.self.bytes) c.reserve.ensures.items ∙ ap (λ (l : List ℕ). pending_bytes c.args.pending.now.items ++ l) same
