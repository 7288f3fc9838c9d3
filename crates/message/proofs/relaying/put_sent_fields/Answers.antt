use Rattle.std.proofs.Common.{◌++◌, ℕ, List, length, arith, ap}
use Rattle.std.proofs.lemmas.List.{length-append}
use Rattle.marshal_core.specs.Spelling.{pads}
use Rattle.message.specs.Layout.{copied, sender_bytes}
use Rattle.message.proofs.Lines.{length-pads, copied_end, end_after}
use Rattle.message.proofs.PartLemmas.{length-sender}
use Rattle.message.proofs.relaying.put_sent_fields.Goals as goal

pub put_fields-requires-clause-small : goal.put_fields-requires-clause-small
put_fields-requires-clause-small c =
    omega (arith, c.requires.sender_place, c.requires.next_place, c.requires.end_place, c.requires.small, end_after c.args.layout.now.next c.args.layout.now.after.now)

pub put_fields-requires-clause-room : goal.put_fields-requires-clause-room
put_fields-requires-clause-room c =
    omega (arith, c.requires.sender_place, c.requires.next_place, c.requires.end_place, c.requires.room, end_after c.args.layout.now.next c.args.layout.now.after.now)

pub put_sender-requires-clause-room : goal.put_sender-requires-clause-room
put_sender-requires-clause-room c =
    let A : List ℕ = copied c.args.bytes.now 16 c.args.layout.now.before.now in
    omega (
      arith,
      c.requires.sender_place,
      c.requires.next_place,
      c.requires.end_place,
      c.requires.room,
      end_after c.args.layout.now.next c.args.layout.now.after.now,
      copied_end c.args.bytes.now 16 c.args.layout.now.before.now c.requires.before,
      ap length c.put_fields.ensures.items,
      length-append c.args.output.now.items A,
      c.put_fields.ensures.capacity,
    )

pub put_fields-requires-2-clause-room : goal.put_fields-requires-2-clause-room
put_fields-requires-2-clause-room c =
    let A : List ℕ = copied c.args.bytes.now 16 c.args.layout.now.before.now in
    let P : List ℕ = pads 8 c.args.layout.now.sender in
    let s : List ℕ = sender_bytes c.args.order c.args.name.now in
    omega (
      arith,
      c.requires.sender_place,
      c.requires.next_place,
      c.requires.end_place,
      c.requires.room,
      copied_end c.args.bytes.now 16 c.args.layout.now.before.now c.requires.before,
      ap length c.put_fields.ensures.items,
      length-append c.args.output.now.items A,
      c.put_fields.ensures.capacity,
      ap length c.put_sender.ensures.items,
      length-append c.put_fields.new.output.items (P ++ s),
      length-append P s,
      length-pads c.args.layout.now.sender,
      length-sender c.args.order c.args.name.now,
      c.put_sender.ensures.capacity,
    )
