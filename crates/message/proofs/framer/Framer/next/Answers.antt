use Rattle.std.proofs.Common.{◌≡◌, ◌-◌, ◌≤◌, length, take, drop, Some, None, Err, refl, sym, ap, subst, ◌∙◌, arith, inl, inr}
use Rattle.std.proofs.lemmas.List.{take_all, length-drop}
use Rattle.message_core.specs.Announcements.{announced}
use Rattle.message.specs.Framing.{Unread, IsJudged}
use Rattle.message.proofs.Front.{none_of, kept, none_announced}
use Rattle.message.proofs.framer.Framer.next.Goals as goal

pub returns-in-Err-clause-fault : goal.returns-in-Err-clause-fault
returns-in-Err-clause-fault c =
    let items = c.self.inside.buffer.items in
    let from = c.self.inside.from in
    let all : take (length items - from) (drop from items) ≡ drop from items = take_all (length items - from) (drop from items) (omega (arith, length-drop from items)) in
    let told : (16 ≤ length (take (length items - from) (drop from items))) × (announced 134217728 (take (length items - from) (drop from items)) ≡ Err c.in-Err.fault) = rw (← c.deref.ensures.value) c.in-Err.ensures.fault in
    let judged : IsJudged 134217728 c.in-Err.fault (take (length items - from) (drop from items)) = (told.0, inl told.1) in
    rw (← c.self.view_is) (kept 134217728 c.in-Err.fault _ _ c.in-Err.ensures.memory (inr (none_of c.self.inside.fault c.in_default.not-Some, subst (IsJudged 134217728 c.in-Err.fault) all judged, refl)))

pub returns-in-Err-clause-no_message : goal.returns-in-Err-clause-no_message
returns-in-Err-clause-no_message c =
    let items = c.self.inside.buffer.items in
    let from = c.self.inside.from in
    let all : take (length items - from) (drop from items) ≡ drop from items = take_all (length items - from) (drop from items) (omega (arith, length-drop from items)) in
    let told : (16 ≤ length (take (length items - from) (drop from items))) × (announced 134217728 (take (length items - from) (drop from items)) ≡ Err c.in-Err.fault) = rw (← c.deref.ensures.value) c.in-Err.ensures.fault in
    λ other. rw (← c.self.view_is) (λ fine. none_announced 134217728 (drop from items) c.in-Err.fault (ap (announced 134217728) (sym all) ∙ told.1))

pub returns-in_default-fault-clause-fault : goal.returns-in_default-fault-clause-fault
returns-in_default-fault-clause-fault c =
    let f = c.in-Err-take_front.fault in
    let other = c.in_default-fault.not-NoMemory in
    let fine : c.args.self.now.fault ≡ None = ap (λ (u : Unread). u.fault) (sym c.self.view_is) ∙ none_of c.self.inside.fault c.in_default.not-Some in
    let same = c.self-2.view_is ∙ c.in-Err-take_front.ensures.refused in
    kept 134217728 f _ _ other (inr (fine, c.in-Err-take_front.ensures.fault other, ap (λ (u : Unread). let v : Unread = record { bytes = u.bytes; fault = Some f } in v) same))

pub returns-in_default-fault-clause-no_message : goal.returns-in_default-fault-clause-no_message
returns-in_default-fault-clause-no_message c other fine = c.in-Err-take_front.ensures.no_message c.in_default-fault.not-NoMemory

pub returns-in-Ok-clause-some : goal.returns-in-Ok-clause-some
returns-in-Ok-clause-some c = c.in-Ok.ensures.taken
