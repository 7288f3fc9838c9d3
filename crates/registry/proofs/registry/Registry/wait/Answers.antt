use Rattle.std.proofs.Common.{ap, ◌∙◌, subst, arith}
use Rattle.seq_bus_core.specs.BusState.{BusState, tickets_in}
use Rattle.seq_bus_core.specs.Consistency.{IsConsistent}
use Rattle.registry_core.proofs.StartLemmas.{one_more}
use Rattle.registry.proofs.StartLemmas.{next_waiting, waited_starts}
use Rattle.registry.proofs.registry.Registry.wait.Goals as goal

pub wait-requires : goal.wait-requires
wait-requires c =
    let s : BusState = c.args.self.now in
    let name = c.args.name.now in
    let h : IsConsistent s = subst IsConsistent c.self.view_is c.self.invariant.consistent in
    let same = ap (λ (t : BusState). tickets_in t.starts) c.self.view_is in
    let one = ap tickets_in (waited_starts s name) ∙ one_more s.starts (next_waiting s name) h.start_names_differ in
    omega (arith, c.requires.within_limits.tickets, same, one)
