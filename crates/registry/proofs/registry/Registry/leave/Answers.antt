use Rattle.std.proofs.Common.{◌≡◌, true, is_some, List, refl, sym, ap, ◌∙◌, subst}
use Rattle.match_rules.specs.OwnedRules.{OwnedRule, rules_without}
use Rattle.seq_bus_core.specs.BusState.{BusState, Connection, OwnedName, connection_of}
use Rattle.seq_bus_core.specs.Steps.{names_without, step}
use Rattle.seq_bus_core.specs.declared.change.Change.TheVariants.{Leave}
use Rattle.registry.specs.declared.registry.Registry.TheInside.{Inside}
use Rattle.registry.specs.Tables.{state_of}
use Rattle.registry.proofs.Kept.{kept}
use Rattle.registry.proofs.LeaveLemmas.{leave_gone, leave_state}
use Rattle.registry.proofs.registry.Registry.leave.Goals as goal
use Rattle.registry.proofs.registry.Registry.leave.Goals.{After-drop_owner}

pub returns-then-not-present : goal.returns-then-not-present
returns-then-not-present c = sym (leave_gone c.args.self.now c.args.seat c.args.connection (sym c.if-not-present.ensures)).0

next : After-drop_owner → Inside
next c = record c.self.inside { connections = c.leave.new.self; names = c.leave-2.new.self; rules = c.drop_owner.new.self }

after : (c : After-drop_owner) → (step (state_of c.self.inside) c.args.seat (Leave c.args.connection)).0 ≡ state_of (next c)
unfolding next
after c =
    let s = state_of c.self.inside in
    let n = c.args.connection in
    let present : is_some (connection_of s n) ≡ true = subst (λ (t : BusState). is_some (connection_of t n) ≡ true) (sym c.self.view_is) (sym c.if-not-present.ensures) in
    let with_parts : List Connection → List OwnedName → List OwnedRule → BusState = λ connections names rules. record s { connections = connections; names = names; rules = rules } in
    leave_state s c.args.seat n present
    ∙ ap (λ connections. with_parts connections (names_without n s.names) (rules_without n s.rules)) (sym c.leave.ensures)
    ∙ ap (λ names. with_parts c.leave.new.self names (rules_without n s.rules)) (sym c.leave-2.ensures)
    ∙ ap (λ rules. with_parts c.leave.new.self c.leave-2.new.self rules) (sym c.drop_owner.ensures)

pub invariant_of-self : goal.invariant_of-self
unfolding next
invariant_of-self c =
    kept c.self.inside (next c) c.self.invariant c.args.seat (Leave c.args.connection) (after c) refl

pub returns : goal.returns
unfolding next
returns c = rw (← c.self.view_is) (sym (after c))
