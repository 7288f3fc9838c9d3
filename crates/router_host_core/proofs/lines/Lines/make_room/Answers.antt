use Rattle.router_host_core.proofs.Places.{places_more}
use Rattle.router_host_core.proofs.lines.Lines.make_room.Goals as goal

pub loop-key-preserved : goal.loop-key-preserved
loop-key-preserved g c =
    let so_far = c.loop-key.invariant in
    places_more c.args.self.now c.loop-key.self-inside.table.items c.push.new.self.items c.loop-key._key so_far.0.0 so_far.0.1 so_far.1 c.in_ok-push.ensures.items
