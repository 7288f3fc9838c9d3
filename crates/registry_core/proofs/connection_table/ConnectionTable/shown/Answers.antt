use Rattle.std.proofs.Common.{sym, ap, ◌∙◌}
use Rattle.seq_bus_core.specs.Recipients.{conns_that, watches_by}
use Rattle.monitor.specs.Monitors.{conns_shown}
use Rattle.monitor.proofs.ShownLaws.{shown_in}
use Rattle.registry_core.specs.ConnectionTables.{connections_in}
use Rattle.registry_core.proofs.connection_table.ConnectionTable.shown.Goals as goal

pub returns : goal.returns
returns g c =
    let heads = g.O.Owners.heads c.args.owners.now in
    let facts = c.args.facts.now in
    let cs = connections_in c.self.inside.monitors c.self.inside.entries.items in
    c.shown.ensures ∙ ap (conns_shown heads facts) (sym c.self.invariant.watching) ∙ shown_in heads facts cs ∙ ap (conns_that (watches_by heads facts)) c.self.view_is
