use Rattle.std.proofs.Common.{◌≤◌, length, sym, subst}
use Rattle.seq_bus_core.specs.BusState.{BusState}
use Rattle.seq_bus_core.specs.Consistency.{IsConsistent, IsWithinLimits}
use Rattle.seq_bus_core.specs.Histories.{max_services}
use Rattle.bus_view.proofs.BodyLemmas.{listed_few}
use Rattle.registry.specs.NamesListed.{names_in}
use Rattle.registry.proofs.Listing.{few_in}
use Rattle.registry.proofs.registry.Registry.append_list.Goals as goal

pub end_names-requires-clause-few : goal.end_names-requires-clause-few
end_names-requires-clause-few c =
    (listed_few c.args.body.now.items c.push_list.new.body.items c.in_ok-start.start (names_in c.args.self.now c.args.list.now) (sym c.in_ok-start.ensures.place)
    (c.in-Ok.ensures.listed c.args.body.now.items (sym c.in_ok-start.ensures.place) c.in_ok-start.ensures.begun)
    (few_in c.args.self.now c.args.list.now (subst IsConsistent c.self.view_is c.self.invariant.consistent) (subst IsWithinLimits c.self.view_is c.self.invariant.within_limits)
    (subst (λ (t : BusState). length t.services ≤ max_services) c.self.view_is c.self.invariant.few_services))).1

pub returns-in-Ok-clause-answered : goal.returns-in-Ok-clause-answered
returns-in-Ok-clause-answered c =
    c.end_names.ensures c.args.body.now.items (names_in c.args.self.now c.args.list.now) (sym c.in_ok-start.ensures.place)
    (c.in-Ok.ensures.listed c.args.body.now.items (sym c.in_ok-start.ensures.place) c.in_ok-start.ensures.begun)
    (few_in c.args.self.now c.args.list.now (subst IsConsistent c.self.view_is c.self.invariant.consistent) (subst IsWithinLimits c.self.view_is c.self.invariant.within_limits)
    (subst (λ (t : BusState). length t.services ≤ max_services) c.self.view_is c.self.invariant.few_services))
