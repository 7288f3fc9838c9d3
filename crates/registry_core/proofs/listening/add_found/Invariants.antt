use Rattle.std.proofs.Common.{◌≡◌, ◌&&◌, not, map, filter, take}
use Rattle.match_index.specs.Sets.{is_in}
use Rattle.registry_core.specs.Listening.{stays}
use Rattle.registry_core.proofs.listening.add_found.Given as goal

-- those before this one that are to get the message
abbrev pub invariant-loop-entry : goal.invariant-loop-entry
invariant-loop-entry l =
    l.to ≡ map (λ m. m.conn) (filter (λ m. stays l.leaver m.conn.number && (not m.is_monitor && is_in m.conn.number l.found)) (take l.entry-index l.entries))
