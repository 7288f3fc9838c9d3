use Rattle.std.proofs.Common.{rules, ◌≡◌, ◌∙◌, List, Option, None, Some, take, refl, sym, ap}
use Rattle.std.proofs.lemmas.List.{places, with_items_is}
use Rattle.std.specs.Vec.{with_items}
use Rattle.router_host_core.specs.Carrying.{line_at}
use Rattle.router_host_core.specs.Sockets.{IsPulledAt}
use Rattle.router_host_core.specs.declared.line.Pulled.TheVariants.{Bytes, Over}
use Rattle.router_host.specs.Doing.{Ends, Reads, with_lines}
use Rattle.router_host.specs.Keeping.{waiting}
use Rattle.router_host.specs.States.{Piece, Waiting}
use Rattle.router_host_core.specs.States.{LineState}
use Rattle.router_host.proofs.Doings.{does_one, does_then}
use Rattle.router_host.proofs.Reading.{bytes_in, ended_in, over_in, still_none}
use Rattle.router_host.proofs.host.Host.read.Goals as goal

pub returns-in-Bytes-clause-does : goal.returns-in-Bytes-clause-does
returns-in-Bytes-clause-does g c =
    let lines = c.args.self.now.carried.lines in
    let room = (with_items c.self.inside.room c.pull.new.room).items in
    let same : room ≡ c.pull.new.room = with_items_is c.self.inside.room c.pull.new.room (search (rules, places)) in
    let pulled : IsPulledAt c.args.key lines (Bytes c.in-Bytes.count) room c.pull.new.self = rw (same, ← c.self.view_is, ← c.self-inside.view_is) c.in-Bytes.ensures in
    let read = bytes_in lines c.args.key room c.pull.new.self c.in-Bytes.count (line_at lines c.args.key) refl pulled in
    let bytes = take c.in-Bytes.count room in
    does_then {b = record (with_lines c.args.self.now c.pull.new.self) { kept = Some (Piece c.args.key bytes) }}
    (does_one (Reads c.args.key bytes) (c.requires.none, c.requires.may, (read.0, read.1, (read.2.0, read.2.2, ap (λ (ls : List (Option LineState)). record (with_lines c.args.self.now ls) { kept = Some (Piece c.args.key bytes) }) read.2.3))))
    (rw (← c.self.view_is, ← c.self-inside.view_is) c.serve_kept.ensures.does)

pub returns-in-Over-clause-does : goal.returns-in-Over-clause-does
returns-in-Over-clause-does g c =
    let lines = c.args.self.now.carried.lines in
    let pulled : IsPulledAt c.args.key lines (Over c.in-Over.cause) c.pull.new.room c.pull.new.self = rw (← c.self.view_is, ← c.self-inside.view_is) c.in-Over.ensures in
    let read = over_in lines c.args.key c.pull.new.room c.pull.new.self c.in-Over.cause (line_at lines c.args.key) refl pulled in
    let ended = ended_in lines c.pull.new.self c.end.new.self c.args.key c.in-Over.cause read.0 read.1 read.3 c.end.ensures in
    let room = (with_items c.self.inside.room c.pull.new.room).items in
    let none : waiting c.self.inside.room.items c.self.inside.kept ≡ None = rw (← c.self.view_is) at c.requires.none in
    let still = still_none c.self.inside.room.items room c.self.inside.kept none in
    does_one (Ends c.args.key c.in-Over.cause) (
      c.requires.may,
      read.0,
      read.1,
      read.2,
      ◌∙◌ {b = record (with_lines c.args.self.now c.end.new.self) { kept = waiting room c.self.inside.kept }}
          (rw (← c.self.view_is, ← c.self-inside.view_is) refl)
          (◌∙◌ {b = with_lines c.args.self.now c.end.new.self}
          (ap (λ (kept : Option (Waiting g.row.V-Note.Denot)). record (with_lines c.args.self.now c.end.new.self) { kept = kept }) (still ∙ sym c.requires.none))
          (ap (with_lines c.args.self.now) ended)),
    )
