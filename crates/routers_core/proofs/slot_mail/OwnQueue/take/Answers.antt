use Rattle.std.proofs.Common.{rules, ◌≡◌, ◌∷◌, ◌∙◌, length, refl, sym, ap}
use Rattle.std.proofs.lemmas.List.{nil_from_length}
use Rattle.routers_core.proofs.slot_mail.OwnQueue.take.Goals as goal
use Rattle.routers_core.proofs.slot_mail.OwnQueue.take.Goals.{then-is_empty, else-is_empty}

pub returns : goal.returns
returns g c =
    let kept = c.in_ok-kept.kept in
    let items : c.args.self.now ≡ kept ∷ c.pop_front.new.self.items = sym c.self.view_is ∙ c.in_ok-kept.ensures.items in
    let left : c.pop_front.new.self.items ≡ c.if-is_empty.self = elim c.if-is_empty.branch [
      | then-is_empty w ↦ (let none : length c.pop_front.new.self.items ≡ 0 = search rules in nil_from_length _ none ∙ sym w.begin_anew.ensures ∙ sym w.self-is)
      | else-is_empty w ↦ sym w.self-is
    ] in
    (kept, refl, items ∙ ap (λ left. kept ∷ left) left)
