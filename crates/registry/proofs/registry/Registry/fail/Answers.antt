use Rattle.std.proofs.Common.{◌≡◌, List, refl, sym, ap, ◌∙◌, subst}
use Rattle.seq_bus_core.specs.BusState.{BusState, RunningStart}
use Rattle.seq_bus_core.specs.Consistency.{IsConsistent}
use Rattle.seq_bus_core.specs.Steps.{fail}
use Rattle.seq_bus_core.specs.declared.change.Change.TheVariants.{StartTimedOut}
use Rattle.registry.specs.declared.registry.Registry.TheInside.{Inside}
use Rattle.registry.specs.Starts.{is_running}
use Rattle.registry.specs.Tables.{state_of}
use Rattle.registry.proofs.Kept.{kept}
use Rattle.registry.proofs.StartLemmas.{fail_done, fail_ignored}
use Rattle.registry.proofs.registry.Registry.fail.Goals as goal
use Rattle.registry.proofs.registry.Registry.fail.Goals.{After-end}

next : After-end → Inside
next c = record c.self.inside { starts = c.end.new.self }

after : (c : After-end) → (fail (state_of c.self.inside) c.args.name.now c.args.start).0 ≡ state_of (next c)
unfolding next
after c =
    let s : BusState = state_of c.self.inside in
    let name = c.args.name.now in
    let runs = ap (λ (t : BusState). is_running t name c.args.start) c.self.view_is ∙ sym c.if-is_running.ensures in
    ap (λ r. r.0) (fail_done s name c.args.start c.self.invariant.consistent runs) ∙ ap (λ (starts : List RunningStart). record s { starts = starts }) (sym c.end.ensures)

pub invariant_of-self : goal.invariant_of-self
unfolding next
invariant_of-self c = kept c.self.inside (next c) c.self.invariant 0 (StartTimedOut c.args.name.now c.args.start) (after c) refl

pub returns-then-is_running : goal.returns-then-is_running
unfolding next
returns-then-is_running c = rw (← c.self.view_is) (sym (after c))

pub returns-else-is_running : goal.returns-else-is_running
returns-else-is_running c = sym (ap (λ r. r.0) (fail_ignored c.args.self.now c.args.name.now c.args.start (subst IsConsistent c.self.view_is c.self.invariant.consistent) (sym c.if-is_running.ensures)))
