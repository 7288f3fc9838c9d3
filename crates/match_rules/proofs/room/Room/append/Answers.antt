use Rattle.std.proofs.Common.{◌≡◌, ◌+◌, ◌-◌, ◌≤◌, length, take, ap, arith}
use Rattle.std.proofs.lemmas.List.{length-take-le}
use Rattle.match_rules.proofs.RoomLemmas.{zero_behind, zero_further}
use Rattle.match_rules.proofs.room.Room.append.Goals as goal

pub invariant_of-self : goal.invariant_of-self
invariant_of-self c =
    let zeros = zero_further c.self.inside.bytes c.self.inside.length (length c.args.bytes.now) c.self.invariant.2 in
    let old : length (take c.self.inside.length c.self.inside.bytes) ≡ length c.args.self.now = ap (λ t. length t) c.self.view_is in
    let long = length-take-le c.self.inside.length c.self.inside.bytes (omega (arith, c.self.invariant.0, c.self.invariant.1)) in
    let fits : c.self.inside.length + length c.args.bytes.now ≤ 1024 = omega (arith, old, long, c.requires) in
    let added = ap (λ t. length t) c.copy_from_slice.ensures.after in
    zero_behind c.self.inside.bytes c.copy_from_slice.new.self c.from-end.result (c.from-end.result + length c.args.bytes.now - c.from-end.result) (c.self.inside.length + length c.args.bytes.now)
    (omega (arith, c.from-end.ensures)) fits c.self.invariant.1 (omega (arith, added)) zeros
