use Rattle.std.proofs.Common.{◌≡◌, false, ◌∙◌, sym, ap, subst, inl, inr, refl}
use Rattle.std.specs.Prelude.{MatchOption}
use Rattle.outbox.specs.Lanes.{WasEmpty}
use Rattle.routers_core.specs.Posts.{HasNone, SlotMail, Takes, is_due}
use Rattle.routers_core.proofs.Taking.{place, took_own}
use Rattle.routers_core.proofs.slot_mail.SlotMail.take.Goals as goal

pub returns-in-Some : goal.returns-in-Some
returns-in-Some g c =
    subst (λ (p : SlotMail _). Takes p c.in-Some.item (record { tap = c.self.inside.tap; own = c.take_next.new.self; taken = c.self.inside.taken })) c.self.view_is
    (inl (c.in-Some.ensures.1, inl c.in-Some.ensures.0, refl))

pub returns-in-Some-take_of_others : goal.returns-in-Some-take_of_others
returns-in-Some-take_of_others g c =
    let same = ap (place c.self.inside.tap c.self.inside.taken) c.in_default.ensures.0 in
    subst (λ (p : SlotMail _). Takes p c.in-Some-take_of_others.item c.take_of_others.new.self) (same ∙ c.self.view_is)
    (inr (subst (λ own. is_due c.self.inside.taken own ≡ false) (sym c.in_default.ensures.0) c.in_default.ensures.1, c.in-Some-take_of_others.ensures))

pub returns-in-None : goal.returns-in-None
returns-in-None g c =
    let p : SlotMail _ = record { tap = c.self-2.inside.tap; own = c.self-2.inside.own; taken = c.self-2.inside.taken } in
    let same = c.self-2.view_is ∙ c.in-None.ensures.0 in
    let empty = subst WasEmpty (sym (ap (λ (q : SlotMail _). q.tap) same)) c.in-None.ensures.1 in
    let before = ap (place c.self.inside.tap c.self.inside.taken) c.in_default.ensures.0 in
    subst (λ (q : SlotMail _). MatchOption c.take.result ((record p { own = c.take.new.self } ≡ q) × HasNone q) (λ item. Takes q item (record p { own = c.take.new.self })))
    (same ∙ before ∙ c.self.view_is) (took_own p c.take.new.self c.take.result empty c.take.ensures)
