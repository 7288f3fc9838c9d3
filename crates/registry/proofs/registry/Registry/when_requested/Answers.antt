use Rattle.std.proofs.Common.{sym, subst}
use Rattle.owner_queues.specs.Queues.{HasRoom}
use Rattle.seq_bus_core.specs.BusState.{BusState}
use Rattle.seq_bus_core.specs.Consistency.{IsConsistent, IsWithinLimits}
use Rattle.registry_core.specs.NameTables.{SearchGives}
use Rattle.registry.proofs.RequestLemmas.{room_for}
use Rattle.registry.proofs.registry.Registry.when_requested.Goals as goal

pub request-reply-requires : goal.request-reply-requires
request-reply-requires c =
    let s : BusState = c.args.self.now in
    let h : IsConsistent s = subst IsConsistent c.self.view_is c.self.invariant.consistent in
    let limits : IsWithinLimits s = subst IsWithinLimits c.self.view_is c.self.invariant.within_limits in
    subst (HasRoom c.args.connection) (sym c.requires.queue) (room_for s c.args.connection c.args.name.now h limits (sym c.if-not-is_client.ensures))

pub would_fit_at-requires : goal.would_fit_at-requires
would_fit_at-requires c = (c.args.name.now, subst (λ (s : BusState). SearchGives s.names c.args.name.now c.args.found) (sym c.self.view_is) c.requires.found)
