use Rattle.std.proofs.Common.{subst}
use Rattle.routers_core.specs.Posts.{SlotMail, TakesOfOthers}
use Rattle.routers_core.proofs.slot_mail.SlotMail.take_of_others.Goals as goal

pub returns : goal.returns
returns g c =
    subst (λ (p : SlotMail _). TakesOfOthers p c.in_ok-item.item (record { tap = c.take.new.self; own = c.self.inside.own; taken = c.saturating_add-self-inside.result })) c.self.view_is (
      c.take.new.self.hand,
      c.in_ok-item.ensures.rule,
      (λ i. record { tap = record { queue = c.in_ok-item.ensures.queue i; hand = c.take.new.self.hand }; own = c.self.inside.own; taken = c.saturating_add-self-inside.ensures i }),
    )
