use Rattle.std.proofs.Common.{◌≡◌, ◌++◌, ◌∷◌, ◌∙◌, List, [], Some, None, Box, Global, not, map, filter, flat_map, refl, sym, ap, subst, if◌then◌else◌}
use Rattle.std.proofs.lemmas.Result.{on_ok_weaker}
use Rattle.names.specs.Texts.{Text}
use Rattle.names.specs.BusName.{bus_text}
use Rattle.names.specs.UniqueName.{unique_text}
use Rattle.owner_queues.specs.declared.owner.QueuedOwner.{QueuedOwner}
use Rattle.seq_bus_core.specs.Answers.{names_there}
use Rattle.seq_bus_core.specs.BusState.{BusState, Connection, OwnedName, is_monitor, queue_of}
use Rattle.bus_view.specs.Bodies.{AreListed}
use Rattle.registry_core.specs.NameTables.{owned_name}
use Rattle.registry_core.specs.declared.connection_entry.ConnectionEntry.{ConnectionEntry}
use Rattle.registry_core.specs.declared.name_table.NameEntry.{NameEntry}
use Rattle.registry.specs.NamesListed.{only, names_in}
use Rattle.registry.specs.Tables.{state_of}
use Rattle.registry.specs.declared.listed.NamesOf.TheVariants.{All, Services}
use Rattle.registry.proofs.Listing.{all_listed, same_listed, clients_listed, owned_listed}
use Rattle.registry.proofs.registry.Registry.push_list.Goals as goal

pub returns-in_ok-push_all-in-All-clause-listed : goal.returns-in_ok-push_all-in-All-clause-listed
returns-in_ok-push_all-in-All-clause-listed c =
    let s : BusState = state_of c.self.inside in
    let client : ConnectionEntry → List Text = λ m. only (if m.is_monitor then None else Some (unique_text m.conn.number)) in
    let entry : Box NameEntry Global → List Text = λ b. only (Some b.value.name) in
    let clients : flat_map client c.as_slice.result.now ≡ map (λ (d : Connection). unique_text d.number) (filter (λ d. not (is_monitor d)) s.connections) =
    ap (flat_map client) c.as_slice.ensures ∙ clients_listed s.connections in
    let owned : flat_map entry c.as_slice-in-All.result.now ≡ map (λ (n : OwnedName). n.name) s.names =
    owned_listed (λ b. b.value.name) (λ b. owned_name b.value) c.as_slice-in-All.result.now (λ b. refl) ∙ ap (map (λ (n : OwnedName). n.name)) c.as_slice-in-All.ensures.value in
    let all : c.bus.result ∷ (flat_map client c.as_slice.result.now ++ flat_map entry c.as_slice-in-All.result.now) ≡ bus_text ∷ names_there s = λ i. c.bus.ensures i ∷ (clients i ++ owned i) in
    let names = all ∙ ap (λ (t : BusState). names_in t All) c.self.view_is ∙ ap (names_in c.args.self.now) (sym c.in-All.is) in
    on_ok_weaker c.push_all-in-All.result
    (λ listed before at empty. subst (λ (ns : List Text). AreListed before ns c.push_all-in-All.new.body.items) names
    (listed before (c.bus.result ∷ flat_map client c.as_slice.result.now) at
    (c.in_ok-push_all-in-All.ensures.listed before (c.bus.result ∷ []) at (c.in_ok-push_name-in-All.ensures.listed before [] at empty))))
    c.push_all-in-All.ensures.listed

pub returns-in_ok-push_name-in-Services-clause-listed : goal.returns-in_ok-push_name-in-Services-clause-listed
returns-in_ok-push_name-in-Services-clause-listed c =
    let s : BusState = state_of c.self.inside in
    let service : Text → List Text = λ text. only (Some text) in
    let services : flat_map service c.as_slice-in-Services.result.now ≡ s.services = ap (flat_map service) c.as_slice-in-Services.ensures ∙ same_listed s.services in
    let all : c.bus-in-Services.result ∷ flat_map service c.as_slice-in-Services.result.now ≡ bus_text ∷ s.services = λ i. c.bus-in-Services.ensures i ∷ services i in
    let names = all ∙ ap (λ (t : BusState). names_in t Services) c.self.view_is ∙ ap (names_in c.args.self.now) (sym c.in-Services.is) in
    on_ok_weaker c.push_all-in-Services.result
    (λ listed before at empty. subst (λ (ns : List Text). AreListed before ns c.push_all-in-Services.new.body.items) names
    (listed before (c.bus-in-Services.result ∷ []) at (c.in_ok-push_name-in-Services.ensures.listed before [] at empty)))
    c.push_all-in-Services.ensures.listed

pub returns-in-Bus-clause-listed : goal.returns-in-Bus-clause-listed
returns-in-Bus-clause-listed c =
    let names : c.bus-in-Bus.result ∷ [] ≡ names_in c.args.self.now c.args.list.now = ap (λ (text : Text). text ∷ []) c.bus-in-Bus.ensures ∙ ap (names_in c.args.self.now) (sym c.in-Bus.is) in
    on_ok_weaker c.push_name-in-Bus.result
    (λ listed before at empty. subst (λ (ns : List Text). AreListed before ns c.push_name-in-Bus.new.body.items) names (listed before [] at empty))
    c.push_name-in-Bus.ensures.listed

pub returns-in-Client-clause-listed : goal.returns-in-Client-clause-listed
returns-in-Client-clause-listed c =
    let names : c.of.result ∷ [] ≡ names_in c.args.self.now c.args.list.now = ap (λ (text : Text). text ∷ []) c.of.ensures ∙ ap (names_in c.args.self.now) (sym c.in-Client.is) in
    on_ok_weaker c.push_connection.result
    (λ listed before at empty. subst (λ (ns : List Text). AreListed before ns c.push_connection.new.body.items) names (listed before [] at empty))
    c.push_connection.ensures.listed

pub returns-in-Queued-clause-listed : goal.returns-in-Queued-clause-listed
returns-in-Queued-clause-listed c =
    let owners : c.queue.result.now ≡ queue_of c.args.self.now.names c.in-Queued.name = c.queue.ensures ∙ ap (queue_of c.args.self.now.names) c.as_str.ensures.value in
    let unique : QueuedOwner → Text = λ q. unique_text q.connection in
    let names = all_listed unique c.queue.result.now ∙ ap (map unique) owners ∙ ap (names_in c.args.self.now) (sym c.in-Queued.is) in
    on_ok_weaker c.push_all-in-Queued.result
    (λ listed before at empty. subst (λ (ns : List Text). AreListed before ns c.push_all-in-Queued.new.body.items) names (listed before [] at empty))
    c.push_all-in-Queued.ensures.listed
