use Rattle.std.proofs.Common.{◌≡◌, List, refl, sym, ap, ◌∙◌, subst}
use Rattle.match_rules.specs.OwnedRules.{OwnedRule, rules_without}
use Rattle.seq_bus_core.specs.BusState.{BusState, Connection, OwnedName}
use Rattle.seq_bus_core.specs.Consistency.{IsConsistent}
use Rattle.seq_bus_core.specs.Steps.{names_without, step}
use Rattle.seq_bus_core.specs.declared.change.Change.TheVariants.{BecomeMonitor}
use Rattle.seq_bus_core.specs.declared.outcome.Reply.TheVariants.{Done}
use Rattle.registry.specs.declared.registry.Registry.TheInside.{Inside}
use Rattle.registry.specs.Monitors.{reply_to_monitor}
use Rattle.registry.specs.Tables.{state_of}
use Rattle.registry.proofs.Kept.{kept}
use Rattle.registry.proofs.MonitorLemmas.{monitor_made, monitor_not_made}
use Rattle.registry.proofs.registry.Registry.become_monitor.Goals as goal
use Rattle.registry.proofs.registry.Registry.become_monitor.Goals.{After-drop_owner}

next : After-drop_owner → Inside
next c = record c.self.inside { connections = c.become_monitor.new.self; names = c.leave.new.self; rules = c.drop_owner.new.self }

after : (c : After-drop_owner) → (step (state_of c.self.inside) c.args.seat (BecomeMonitor c.args.connection c.args.rules.now)).0 ≡ state_of (next c)
unfolding next
after c =
    let s = state_of c.self.inside in
    let n = c.args.connection in
    let done : reply_to_monitor s n ≡ Done = ap (λ (t : BusState). reply_to_monitor t n) c.self.view_is ∙ sym c.reply_to_monitor.ensures ∙ c.in-Done.is in
    let with_parts : List Connection → List OwnedName → List OwnedRule → BusState = λ connections names rules. record s { connections = connections; names = names; rules = rules } in
    ap (λ r. r.0) (monitor_made s c.args.seat n c.args.rules.now c.self.invariant.consistent done)
    ∙ ap (λ connections. with_parts connections (names_without n s.names) (rules_without n s.rules)) (sym c.become_monitor.ensures)
    ∙ ap (λ names. with_parts c.become_monitor.new.self names (rules_without n s.rules)) (sym c.leave.ensures)
    ∙ ap (λ rules. with_parts c.become_monitor.new.self c.leave.new.self rules) (sym c.drop_owner.ensures)

pub invariant_of-self : goal.invariant_of-self
unfolding next
invariant_of-self c =
    kept c.self.inside (next c) c.self.invariant c.args.seat (BecomeMonitor c.args.connection c.args.rules.now) (after c) refl

pub returns-in-Done : goal.returns-in-Done
unfolding next
returns-in-Done c = rw (← c.self.view_is) (sym (after c))

pub returns-in_default : goal.returns-in_default
returns-in_default c =
    let s : BusState = c.args.self.now in
    sym (ap (λ r. r.0) (monitor_not_made s c.args.seat c.args.connection c.args.rules.now (subst IsConsistent c.self.view_is c.self.invariant.consistent)
    (λ done. c.in_default.not-Done (c.reply_to_monitor.ensures ∙ done))))
