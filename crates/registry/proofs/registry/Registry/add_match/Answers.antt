use Rattle.std.proofs.Common.{◌≡◌, refl, sym, ap, ◌∙◌}
use Rattle.seq_bus_core.specs.BusState.{BusState}
use Rattle.seq_bus_core.specs.Steps.{step}
use Rattle.seq_bus_core.specs.declared.change.Change.TheVariants.{AddMatch}
use Rattle.seq_bus_core.specs.declared.outcome.Reply.TheVariants.{Done}
use Rattle.registry.specs.declared.registry.Registry.TheInside.{Inside}
use Rattle.registry.specs.Matches.{reply_to_add}
use Rattle.registry.specs.Tables.{state_of}
use Rattle.registry.proofs.Kept.{kept}
use Rattle.registry.proofs.MatchLemmas.{add_made, add_not_made}
use Rattle.registry.proofs.registry.Registry.add_match.Goals as goal
use Rattle.registry.proofs.registry.Registry.add_match.Goals.{After-add}

next : After-add → Inside
next c = record c.self.inside { rules = c.add.new.self }

after : (c : After-add) → (step (state_of c.self.inside) c.args.seat (AddMatch c.args.connection c.args.rule.now)).0 ≡ state_of (next c)
unfolding next
after c =
    let s = state_of c.self.inside in
    let n = c.args.connection in
    let rule = c.args.rule.now in
    let seat = c.args.seat in
    let done : reply_to_add s n ≡ Done = ap (λ (t : BusState). reply_to_add t n) c.self.view_is ∙ sym c.reply_to_add.ensures ∙ c.in-Done.is in
    (add_made s seat n rule done).0 ∙ ap (λ rules. record s { rules = rules }) (sym c.add.ensures)

pub invariant_of-self : goal.invariant_of-self
unfolding next
invariant_of-self c =
    kept c.self.inside (next c) c.self.invariant c.args.seat (AddMatch c.args.connection c.args.rule.now) (after c) refl

pub returns-in-Done : goal.returns-in-Done
unfolding next
returns-in-Done c = rw (← c.self.view_is) (sym (after c))

pub returns-in_default : goal.returns-in_default
returns-in_default c = sym (add_not_made c.args.self.now c.args.seat c.args.connection c.args.rule.now (λ done. c.in_default.not-Done (c.reply_to_add.ensures ∙ done)))
