use Rattle.std.proofs.Common.{◌≡◌, ◌-◌, length, take, drop, ap, ◌∙◌, arith, length-drop}
use Rattle.std.proofs.lemmas.List.{length-take-le}
use Rattle.match_rules.proofs.RoomLemmas.{zero_behind, part_moved}
use Rattle.match_rules.proofs.room.Room.move_last.Goals as goal

pub invariant_of-self : goal.invariant_of-self
invariant_of-self c =
    let old : length (take c.self.inside.length c.self.inside.bytes) ≡ length c.args.self.now = ap (λ t. length t) c.self.view_is in
    let long = length-take-le c.self.inside.length c.self.inside.bytes (omega (arith, c.self.invariant.0, c.self.invariant.1)) in
    zero_behind c.self.inside.bytes c.rotate_right.new.self c.args.at (c.from-end.result - c.args.at) c.self.inside.length
    (omega (arith, c.from-end.ensures, old, long, c.requires)) c.self.invariant.0 c.self.invariant.1
    (c.rotate_right.ensures.len ∙ length-take-le (c.from-end.result - c.args.at) (drop c.args.at c.self.inside.bytes) (omega (arith, c.from-end.ensures, old, long, c.requires, length-drop c.args.at c.self.inside.bytes, c.self.invariant.0, c.self.invariant.1))) c.self.invariant.2

pub returns : goal.returns
returns c =
    let old : length (take c.self.inside.length c.self.inside.bytes) ≡ length c.args.self.now = ap (λ t. length t) c.self.view_is in
    let long = length-take-le c.self.inside.length c.self.inside.bytes (omega (arith, c.self.invariant.0, c.self.invariant.1)) in
    part_moved c.self.inside.bytes c.rotate_right.new.self c.args.self.now c.args.at c.args.count c.self.inside.length (c.from-end.result - c.args.at)
    (omega (arith, old, long, c.requires)) (omega (arith, c.self.invariant.0, c.self.invariant.1)) c.self.view_is (omega (arith, c.from-end.ensures)) c.rotate_right.ensures.after
