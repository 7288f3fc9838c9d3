use Rattle.std.proofs.Common.{◌+◌, length, ap, arith}
use Rattle.match_rules.proofs.ItemPlaces.{item_key_is_key, length-rest}
use Rattle.match_rules.proofs.Putting.{room_after}
use Rattle.match_rules.proofs.entry_map.EntryMap.read_item.Goals as goal

pub put_taken-requires-clause-is_key : goal.put_taken-requires-clause-is_key
put_taken-requires-clause-is_key c = item_key_is_key c.args.item.now c.in-Some.key c.in-Some.ensures.0

pub put_taken-requires-in-Some-value_of-clause-is_key : goal.put_taken-requires-in-Some-value_of-clause-is_key
put_taken-requires-in-Some-value_of-clause-is_key c = item_key_is_key c.args.item.now c.in-Some.key c.in-Some.ensures.0

pub returns-in-Some-plain_value-clause-room : goal.returns-in-Some-plain_value-clause-room
returns-in-Some-plain_value-clause-room c =
    room_after c.put_taken.result c.args.self.now c.put_taken.new.self (c.in-Some.key, c.in-Some-plain_value.value.now) (length c.args.item.now) c.put_taken.ensures.rule
    (omega (arith, c.in-Some-plain_value.ensures.short, length-rest (c.in-Some.at + 1) c.args.item.now, c.in-Some.ensures.2, c.in-Some.ensures.3))

pub returns-in-Some-value_of-clause-room : goal.returns-in-Some-value_of-clause-room
returns-in-Some-value_of-clause-room c =
    let value = ap (λ bytes. length bytes) c.as_slice.ensures.value in
    room_after c.put_taken-in-Some-value_of.result c.args.self.now c.put_taken-in-Some-value_of.new.self (c.in-Some.key, c.as_slice.result.now) (length c.args.item.now) c.put_taken-in-Some-value_of.ensures.rule
    (omega (arith, value, c.in-Some-value_of.ensures.short, length-rest (c.in-Some.at + 1) c.args.item.now, c.in-Some.ensures.2, c.in-Some.ensures.3))
