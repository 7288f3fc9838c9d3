use Rattle.registry_snapshots_core.proofs.Prefixes.{begins_same}
use Rattle.registry_snapshots.proofs.seat.Seat.go_on.Goals as goal

pub invariant_of-self : goal.invariant_of-self
invariant_of-self g c =
    (c.requires.book, λ held is. begins_same held c.args.prefix.log (cc (is, c.copy.ensures, c.of-note.ensures)), λ unwatched. absurd cc, c.self.invariant.3, c.self.invariant.4)
