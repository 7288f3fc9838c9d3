use Rattle.std.proofs.Common.{length, sym, ap, ◌∙◌, subst, arith}
use Rattle.seq_bus_core.specs.BusState.{BusState, connection_of}
use Rattle.seq_bus_core.specs.Consistency.{IsConsistent}
use Rattle.seq_bus_core.specs.Recipients.{inserted_conn, watches_by}
use Rattle.seq_bus_core.specs.declared.connection.Conn.{Conn}
use Rattle.registry.proofs.MonitorLemmas.{absent_with, client_out, fewer_that, found_at, found_nowhere, shown_but, unwatched, watched_with}
use Rattle.registry.proofs.registry.Registry.add_shown_with.Goals as goal

pub returns-then-not-is_watched-clause-value : goal.returns-then-not-is_watched-clause-value
returns-then-not-is_watched-clause-value g c =
    let s : BusState = c.args.self.now in
    let h : IsConsistent s = subst IsConsistent c.self.view_is c.self.invariant.consistent in
    c.add_monitors_shown.ensures.value
    ∙ client_out (g.O.Owners.heads c.args.owners.now) c.args.facts.now c.args.connection s.connections h.connections_rise c.requires.client
    ∙ unwatched (g.O.Owners.heads c.args.owners.now) c.args.facts.now c.args.connection c.args.rules.now c.args.self.now.connections (sym c.if-not-is_watched.ensures)

pub insert-requires : goal.insert-requires
insert-requires g c =
    let s : BusState = c.args.self.now in
    let n = c.args.connection in
    let there = found_at (connection_of s n) c.in-Some.conn (sym c.in-Some.is ∙ c.conn.ensures) in
    let h : IsConsistent s = subst IsConsistent c.self.view_is c.self.invariant.consistent in
    let out = client_out (g.O.Owners.heads c.args.owners.now) c.args.facts.now n s.connections h.connections_rise c.requires.client in
    let less = fewer_that n (watches_by (g.O.Owners.heads c.args.owners.now) c.args.facts.now) s.connections there.0 there.1 in
    omega (arith, ap length (c.add_monitors_shown.ensures.value ∙ out), less, c.add_monitors_shown.ensures.few)

pub returns-in-Some-clause-value : goal.returns-in-Some-clause-value
returns-in-Some-clause-value g c =
    let s : BusState = c.args.self.now in
    let n = c.args.connection in
    let heads = g.O.Owners.heads c.args.owners.now in
    let facts = c.args.facts.now in
    let there = found_at (connection_of s n) c.in-Some.conn (sym c.in-Some.is ∙ c.conn.ensures) in
    let h : IsConsistent s = subst IsConsistent c.self.view_is c.self.invariant.consistent in
    c.insert.ensures.items ∙ ap (inserted_conn c.in-Some.conn) (c.add_monitors_shown.ensures.value ∙ client_out heads facts n s.connections h.connections_rise c.requires.client)
    ∙ ap (λ (conn : Conn). inserted_conn conn (shown_but heads facts n s.connections)) (sym there.2)
    ∙ watched_with heads facts n c.args.rules.now s.connections there.0 h.connections_rise there.1 (sym c.if-not-is_watched.ensures)

pub returns-in-None-clause-value : goal.returns-in-None-clause-value
returns-in-None-clause-value g c =
    let s : BusState = c.args.self.now in
    let n = c.args.connection in
    let h : IsConsistent s = subst IsConsistent c.self.view_is c.self.invariant.consistent in
    c.add_monitors_shown.ensures.value
    ∙ client_out (g.O.Owners.heads c.args.owners.now) c.args.facts.now n s.connections h.connections_rise c.requires.client
    ∙ absent_with (g.O.Owners.heads c.args.owners.now) c.args.facts.now n c.args.rules.now s.connections (found_nowhere (connection_of s n) (sym c.in-None.is ∙ c.conn.ensures))
