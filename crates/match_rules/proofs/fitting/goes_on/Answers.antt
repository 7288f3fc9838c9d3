use Rattle.std.proofs.Common.{◌∙◌, sym, inl, inr, length}
use Rattle.std.proofs.lemmas.Bool.{eqb-true, eqb-false, le-ltb, true≢false}
use Rattle.match_rules.proofs.EntryLemmas.{begins-on, begins-not}
use Rattle.match_rules.proofs.fitting.goes_on.Goals as goal
use Rattle.match_rules.proofs.fitting.goes_on.Goals.{then-front-text, else-front-text}

pub returns-then-text-front : goal.returns-then-text-front
returns-then-text-front c =
    elim c.if-front-text.branch [
      | then-front-text w ↦ c.starts_with.ensures.value ∙ begins-on c.args.front.now c.args.byte c.args.text.now w.if-front-text.true (eqb-true _ _ (sym w.value-is ∙ c.if-text-front.true))
      | else-front-text w ↦ absurd (true≢false (sym c.if-text-front.true ∙ w.value-is ∙ le-ltb (length c.args.front.now) (length c.args.text.now) w.if-front-text.false))
    ]

pub returns-else-text-front : goal.returns-else-text-front
returns-else-text-front c =
    elim c.if-front-text.branch [
      | then-front-text w ↦ c.if-text-front.false ∙ sym (begins-not c.args.front.now c.args.byte c.args.text.now (inr (eqb-false _ _ (sym w.value-is ∙ c.if-text-front.false))))
      | else-front-text w ↦ c.if-text-front.false ∙ sym (begins-not c.args.front.now c.args.byte c.args.text.now (inl w.if-front-text.false))
    ]
