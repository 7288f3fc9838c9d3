use Rattle.std.proofs.Common.{◌==◌, not, Option, Some, None, refl, ◌∙◌, subst}
use Rattle.std.specs.List.{find}
use Rattle.seq_bus_core.specs.BusState.{Connection, is_monitor}
use Rattle.registry_core.specs.ConnectionTables.{Ascending}
use Rattle.registry_core.specs.declared.connection_entry.ConnectionEntry.{ConnectionEntry}
use Rattle.registry_core.proofs.ConnectionTableLemmas.{client_is_found, test_entry}
use Rattle.registry_core.proofs.connection_table.ConnectionTable.is_client.Goals as goal

pub returns-in-Some : goal.returns-in-Some
returns-in-Some c =
    test_entry (λ (m : ConnectionEntry). not m.is_monitor) (λ (k : Connection). not (is_monitor k)) (λ k. refl) (find (λ k. k.number == c.args.number) c.args.self.now) (Some c.in-Some.entry.now) c.in-Some.ensures
    ∙ client_is_found c.args.number c.args.self.now (subst Ascending c.self.view_is c.self.invariant.rise)

pub returns-in-None : goal.returns-in-None
returns-in-None c =
    let nobody : Option ConnectionEntry = None in
    test_entry (λ (m : ConnectionEntry). not m.is_monitor) (λ (k : Connection). not (is_monitor k)) (λ k. refl) (find (λ k. k.number == c.args.number) c.args.self.now) nobody c.in-None.ensures
    ∙ client_is_found c.args.number c.args.self.now (subst Ascending c.self.view_is c.self.invariant.rise)
