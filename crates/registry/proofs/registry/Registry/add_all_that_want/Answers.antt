use Rattle.std.proofs.Common.{◌≡◌, ◌≤◌, ◌&&◌, None, true, List, length, map, filter, ap, ◌∙◌, subst, sym}
use Rattle.std.specs.List.{AllByRecursion}
use Rattle.std.proofs.lemmas.List.{length-map}
use Rattle.match_rules.specs.OwnedRules.{OwnedRule}
use Rattle.seq_bus_core.specs.BusState.{BusState, max_connections}
use Rattle.seq_bus_core.specs.declared.connection.Conn.{Conn}
use Rattle.seq_bus_core.specs.Recipients.{wants_by, conns_that}
use Rattle.registry_core.specs.declared.connection_entry.ConnectionEntry.{ConnectionEntry}
use Rattle.registry_core.specs.Listening.{Rising, has_number, stays, entry_wants}
use Rattle.registry_core.specs.ConnectionTables.{entry_of}
use Rattle.registry.specs.Tables.{state_of}
use Rattle.registry.proofs.Kept.{entries_rise}
use Rattle.registry.proofs.ListeningLemmas.{entries_that_want, rules_owned}
use Rattle.registry.proofs.registry.Registry.add_all_that_want.Goals as goal

pub add_all_that_want-requires-clause-rising : goal.add_all_that_want-requires-clause-rising
add_all_that_want-requires-clause-rising g c = subst Rising (sym c.as_slice-entries.ensures) (entries_rise (state_of c.self.inside).connections c.self.invariant.consistent.connections_rise)

pub add_all_that_want-requires-clause-few : goal.add_all_that_want-requires-clause-few
add_all_that_want-requires-clause-few g c =
    subst (λ (ms : List ConnectionEntry). length ms ≤ max_connections) (sym c.as_slice-entries.ensures)
    (subst (λ n. n ≤ max_connections) (sym (length-map (state_of c.self.inside).connections entry_of)) c.self.invariant.within_limits.connections)

pub add_all_that_want-requires-clause-owned : goal.add_all_that_want-requires-clause-owned
add_all_that_want-requires-clause-owned g c =
    subst (λ (ms : List ConnectionEntry). AllByRecursion (λ (r : OwnedRule). has_number ms r.connection ≡ true) c.self.inside.rules) (sym c.as_slice-entries.ensures)
    (rules_owned (state_of c.self.inside) c.self.invariant.consistent)

pub returns-clause-value : goal.returns-clause-value
returns-clause-value g c =
    let s = state_of c.self.inside in
    let heads = g.O.Owners.heads c.args.owners.now in
    let found : List ConnectionEntry → List Conn = λ ms. map (λ m. m.conn) (filter (λ m. stays None m.conn.number && entry_wants heads c.self.inside.rules c.args.facts.now m) ms) in
    c.add_all_that_want.ensures.value ∙ ap found c.as_slice-entries.ensures
    ∙ entries_that_want heads s.rules c.args.facts.now None s.connections
    ∙ ap (λ (t : BusState). conns_that (λ d. stays None d.number && wants_by heads t.rules c.args.facts.now d) t.connections) c.self.view_is
