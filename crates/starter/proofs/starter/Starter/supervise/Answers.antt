use Rattle.std.proofs.Common.{◌≡◌, ◌∙◌, None, reverse, refl, sym, ap, subst}
use Rattle.std.proofs.lemmas.List.{reverse-reverse}
use Rattle.supervisor.specs.Supervising.{decide}
use Rattle.starter.specs.States.{AreInOrder, AreReports, IsNotRun}
use Rattle.starter.proofs.Orders.{decided_in_order, not_run_is_reported, on_ok}
use Rattle.starter.proofs.Steps.{hears, makes_none}
use Rattle.starter.proofs.starter.Starter.supervise.Goals as goal

pub returns-in_default-clause-steps : goal.returns-in_default-clause-steps
returns-in_default-clause-steps g c = λ now. makes_none refl

pub returns-in_err-deeds-clause-steps : goal.returns-in_err-deeds-clause-steps
returns-in_err-deeds-clause-steps g c = λ now. makes_none (rw (← c.self.view_is, c.in_err-deeds.ensures.err) refl)

pub do_all-requires-clause-order : goal.do_all-requires-clause-order
do_all-requires-clause-order g c =
    let due : reverse c.reverse.new.self.items ≡ (decide c.self.inside.supervisor c.in-Some.event).deeds =
    ap reverse c.reverse.ensures.items ∙ reverse-reverse c.in_ok-deeds.deeds.items ∙ c.in_ok-deeds.ensures.deeds in
    subst (λ l. AreInOrder l None) (sym due) (decided_in_order c.self.inside.supervisor c.in-Some.event)

pub returns-clause-steps : goal.returns-clause-steps
returns-clause-steps g c = λ now.
    let due : reverse c.reverse.new.self.items ≡ (decide c.self.inside.supervisor c.in-Some.event).deeds =
    ap reverse c.reverse.ensures.items ∙ reverse-reverse c.in_ok-deeds.deeds.items ∙ c.in_ok-deeds.ensures.deeds in
    let none = rw (← c.self.view_is) at c.requires.idle in
    rw (← c.self.view_is) (hears c.in-Some.event _ _ c.in-Some.is none c.in_ok-deeds.ensures.kept due (c.do_all.ensures.steps now))

pub returns-clause-not_run : goal.returns-clause-not_run
returns-clause-not_run g c = on_ok c.do_all.result (c.do_all.ensures.not_run tt)

pub returns-clause-told : goal.returns-clause-told
returns-clause-told g c =
    let due : reverse c.reverse.new.self.items ≡ (decide c.self.inside.supervisor c.in-Some.event).deeds =
    ap reverse c.reverse.ensures.items ∙ reverse-reverse c.in_ok-deeds.deeds.items ∙ c.in_ok-deeds.ensures.deeds in
    on_ok c.do_all.result (λ not_run. c.do_all.ensures.told (subst (λ l. AreReports l) (sym due)
    (not_run_is_reported c.self.inside.supervisor c.in-Some.event (subst (λ u. IsNotRun u) (ap (λ s. s.untold) (sym c.self.view_is) ∙ c.in-Some.is) not_run))))
