use Rattle.std.proofs.Common.{◌≡◌, ◌+◌, ◌<◌, ◌≤◌, ◌==◌, ℕ, false, length, take, get_or, count_by, arith}
use Rattle.owner_queues.specs.declared.owner.QueuedOwner.{QueuedOwner}
use Rattle.registry_core.specs.NameIndexes.{held}
use Rattle.registry_core.proofs.CountLemmas.{own_place}
use Rattle.registry_core.proofs.name_index.NameIndex.take_all.Goals as goal

nobody : QueuedOwner
nobody = record { connection = 0; allow_replacement = false; do_not_queue = false }

pub take-requires : goal.take-requires
unfolding nobody
take-requires c =
    let queue = c.args.queue.now in
    let i = c.loop-owner.owner-index in
    let id = c.args.id in
    let there : i < length queue = omega arith in
    let number : ℕ = (get_or queue i nobody).connection in
    let done : held number id c.loop-owner.self.places + count_by (λ o. o.connection == number) (take i queue) ≡ held number id c.args.self.now.places = c.loop-owner.invariant.its number in
    let own : count_by (λ o. o.connection == number) (take i queue) + 1 ≤ count_by (λ o. o.connection == number) queue = own_place queue i nobody there in
    let all : count_by (λ o. o.connection == number) queue ≤ held number id c.args.self.now.places = c.requires number in
    omega (arith, done, own, all)
