use Rattle.std.proofs.Common.{◌≡◌, []}
use Rattle.seq_bus.proofs.HistoryLemmas.{opened_kept}
use Rattle.seq_bus.proofs.bus.SeqBus.new.Goals as goal

pub invariant_of-result : goal.invariant_of-result
invariant_of-result c =
    let calls : c.in_ok-new.field-0 ≡ [] = c.in_ok-new.ensures in
    let seen : c.new-4.result.items ≡ [] = c.new-4.ensures.items in
    rw (calls, seen) (opened_kept c.in_ok-registry.registry c.args.profile c.args.routers c.args.services.now c.in_ok-registry.ensures)
