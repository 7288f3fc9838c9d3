use Rattle.std.proofs.Common.{◌≡◌, [], sym, ap, ◌∙◌, subst}
use Rattle.seq_bus_core.specs.BusState.{BusState}
use Rattle.seq_bus_core.specs.Changes.{no_call}
use Rattle.seq_bus_core.specs.Consistency.{IsConsistent, IsWithinLimits}
use Rattle.seq_bus_core.specs.Steps.{step}
use Rattle.seq_bus_core.specs.declared.change.Change.TheVariants.{Hold}
use Rattle.seq_bus_core.proofs.ConsistencyLaws.{steps_keep_consistency}
use Rattle.seq_bus_core.proofs.LimitLaws.{steps_keep_limits}
use Rattle.registry.specs.Starts.{state_told, waited}
use Rattle.registry.proofs.StartLemmas.{hold_by, not_held}
use Rattle.registry.proofs.registry.Registry.hold.Goals as goal
use Rattle.registry.proofs.registry.Registry.hold.Goals.{In-Held}

-- the state of a call that waits
held : (c : In-Held) → (step c.args.self.now c.args.seat (Hold c.args.connection c.args.name.now no_call [])).0 ≡ waited c.args.self.now c.args.name.now
held c =
    let s : BusState = c.args.self.now in
    let name = c.args.name.now in
    ap (λ r. r.0) (hold_by s c.args.seat c.args.connection name no_call []) ∙ ap (state_told s name) (sym c.reply_to_hold.ensures ∙ c.in-Held.is)

pub wait-requires-clause-consistent : goal.wait-requires-clause-consistent
wait-requires-clause-consistent c =
    subst IsConsistent (held (goal.at.wait-requires-clause-consistent c).In-Held)
    (steps_keep_consistency c.args.self.now c.args.seat (Hold c.args.connection c.args.name.now no_call []) (subst IsConsistent c.self.view_is c.self.invariant.consistent))

pub wait-requires-clause-within_limits : goal.wait-requires-clause-within_limits
wait-requires-clause-within_limits c =
    subst IsWithinLimits (held (goal.at.wait-requires-clause-within_limits c).In-Held)
    (steps_keep_limits c.args.self.now c.args.seat (Hold c.args.connection c.args.name.now no_call []) (subst IsConsistent c.self.view_is c.self.invariant.consistent) (subst IsWithinLimits c.self.view_is c.self.invariant.within_limits))

pub returns-in-Held : goal.returns-in-Held
returns-in-Held c = c.wait.ensures ∙ sym (held (goal.at.returns-in-Held c).In-Held)

pub returns-in_default : goal.returns-in_default
returns-in_default c =
    let s : BusState = c.args.self.now in
    let name = c.args.name.now in
    sym (ap (λ r. r.0) (hold_by s c.args.seat c.args.connection name no_call []) ∙ ap (state_told s name) (sym c.reply_to_hold.ensures) ∙ not_held s name c.reply_to_hold.result (λ n is. c.in_default.not-Held n is))
