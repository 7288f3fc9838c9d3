use Rattle.std.proofs.Common.{refl, sym, ◌∙◌, subst}
use Rattle.seq_bus_core.specs.declared.change.Change.{Change}
use Rattle.seq_bus_core.specs.declared.error_kind.ErrorKind.{ErrorKind}
use Rattle.router_core.specs.Answers.{Says, Refuses, refusal_of}
use Rattle.router_core.specs.Scripts.{Gives, Changes, Comes}
use Rattle.router_core.specs.Serving.{failing_all}
use Rattle.router_steps.proofs.Sequels.{comes_then}
use Rattle.router_steps.proofs.context.Context.end_start.Goals as goal

pub returns-in-Ok-clause-comes : goal.returns-in-Ok-clause-comes
returns-in-Ok-clause-comes g c s =
    let told = g.V.BusView.told in
    let registry_of = g.V.BusView.registry_of in
    let passes = g.G.Gate.passes in
    let alone = g.V.BusView.alone in
    let o = c.in-Ok.outcome in
    let m = c.change.new.self.world in
    let n = c.announce.new.self.world in
    let v = c.fail_all.new.self.world in
    let changes = subst (λ (change : Change). Changes alone change c.args.self.now.world (Says o) m) c.change_of.ensures c.in-Ok.ensures.changes in
    let fails = subst (λ (error : ErrorKind). Comes told registry_of passes alone (failing_all error o.tickets) n tt v) c.error_of_end.ensures c.fail_all.ensures.comes in
    let ended = comes_then told registry_of passes alone (λ (done : Unit {0}). Gives s) tt v s v (refl, refl) (failing_all _ o.tickets) n fails in
    (Says o, m, changes, (n, c.announce.ensures.announces, ended))

pub returns-then-is_final-clause-comes : goal.returns-then-is_final-clause-comes
returns-then-is_final-clause-comes g c s =
    let alone = g.V.BusView.alone in
    let m = c.change.new.self.world in
    let why = refusal_of c.in-Err.why in
    let changes = subst (λ (change : Change). Changes alone change c.args.self.now.world (Refuses why) m) c.change_of.ensures c.in-Err.ensures.changes in
    (Refuses why, m, changes, (sym c.is_final.ensures ∙ c.if-is_final.true, (refl, refl)))
