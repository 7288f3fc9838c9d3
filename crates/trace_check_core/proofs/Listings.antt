-- Lists of names as a trace has them.
use Rattle.std.proofs.Common.{◌≡◌, Bool, true, false, cond, Some, List, [], ◌∷◌, ◌++◌, map, filter, flat_map, refl, sym, ap, ◌∙◌, append_assoc}
use Rattle.std.specs.Prelude.{◌||◌, not, option_map, if◌then◌else◌}
use Rattle.std.proofs.lemmas.Grind.{flat_map-append}
use Rattle.std.proofs.lemmas.List.Folds.{flat_map-map}
use Rattle.names.specs.Texts.{Text}
use Rattle.names.specs.BusName.{bus_text, is_bus, is_unique}
use Rattle.names.specs.UniqueName.{unique_text}
use Rattle.owner_queues.specs.Queues.{Queue}
use Rattle.owner_queues.specs.declared.owner.QueuedOwner.{QueuedOwner}
use Rattle.registry_core.specs.ConnectionTables.{entry_of}
use Rattle.registry_core.specs.declared.connection_entry.ConnectionEntry.{ConnectionEntry}
use Rattle.seq_bus_core.specs.Answers.{NameList, names_there, owner_name, queue_names, queued_names}
use Rattle.seq_bus_core.specs.BusState.{BusState, Connection, OwnedName, is_monitor, queue_of}
use Rattle.trace_lines.specs.Texts.{answer_text}
use Rattle.trace_check_core.specs.Listings.{behind_comma, client_listed, waiting_listed}

-- a list is written name by name
list_written : (first : Text) (names : List Text) → answer_text (Some (NameList (first ∷ names))) ≡ first ++ flat_map behind_comma names
list_written first names = refl

pub clients_written : (cs : List Connection) → flat_map client_listed (map entry_of cs) ≡ flat_map behind_comma (map (λ c. unique_text c.number) (filter (λ c. not (is_monitor c)) cs))
clients_written [] = refl
clients_written (c ∷ cs) = by_test (is_monitor c) (clients_written cs)
  where
    others : List Connection
    others = filter (λ d. not (is_monitor d)) cs

    by_test : (b : Bool) → flat_map client_listed (map entry_of cs) ≡ flat_map behind_comma (map (λ (d : Connection). unique_text d.number) others) →
        (if b then [] else behind_comma (unique_text c.number)) ++ flat_map client_listed (map entry_of cs) ≡ flat_map behind_comma (map (λ (d : Connection). unique_text d.number) (cond (not b) (c ∷ others) others))
    by_test true rest = rest
    by_test false rest = ap (λ (t : Text). behind_comma (unique_text c.number) ++ t) rest

pub names_written : (s : BusState) → answer_text (Some (NameList (bus_text ∷ names_there s))) ≡ bus_text ++ (flat_map client_listed (map entry_of s.connections) ++ flat_map (λ (n : OwnedName). behind_comma n.name) s.names)
names_written s =
    let clients : List Text = map (λ c. unique_text c.number) (filter (λ c. not (is_monitor c)) s.connections) in
    ap (λ (t : Text). bus_text ++ t)
    (flat_map-append behind_comma clients (map (λ (n : OwnedName). n.name) s.names)
    ∙ ap (λ (t : Text). t ++ flat_map behind_comma (map (λ (n : OwnedName). n.name) s.names)) (sym (clients_written s.connections))
    ∙ ap (λ (t : Text). flat_map client_listed (map entry_of s.connections) ++ t) (flat_map-map behind_comma (λ (n : OwnedName). n.name) s.names))

pub queue_written : (owner : QueuedOwner) (waiting : List QueuedOwner) → answer_text (option_map NameList (queued_names (owner ∷ waiting))) ≡ unique_text owner.connection ++ flat_map waiting_listed waiting
queue_written owner waiting = ap (λ (t : Text). unique_text owner.connection ++ t) (flat_map-map behind_comma (λ (q : QueuedOwner). unique_text q.connection) waiting)

-- ## What the code appends

pub names_told : (s : BusState) (members : List ConnectionEntry) (names : List OwnedName) (bus first whole : Text) → members ≡ map entry_of s.connections → names ≡ s.names →
    bus ≡ bus_text → first ≡ bus ++ flat_map client_listed members → whole ≡ first ++ flat_map (λ (n : OwnedName). behind_comma n.name) names →
    whole ≡ answer_text (Some (NameList (bus_text ∷ names_there s)))
names_told s members names bus first whole connections same is_bus clients told =
    told
    ∙ ap (λ (t : Text). t ++ flat_map (λ (n : OwnedName). behind_comma n.name) names) (clients ∙ ap (λ (t : Text). t ++ flat_map client_listed members) is_bus)
    ∙ append_assoc bus_text (flat_map client_listed members) (flat_map (λ (n : OwnedName). behind_comma n.name) names)
    ∙ ap (λ (ms : List ConnectionEntry). bus_text ++ (flat_map client_listed ms ++ flat_map (λ (n : OwnedName). behind_comma n.name) names)) connections
    ∙ ap (λ (ns : List OwnedName). bus_text ++ (flat_map client_listed (map entry_of s.connections) ++ flat_map (λ (n : OwnedName). behind_comma n.name) ns)) same
    ∙ sym (names_written s)

pub queue_told : (s : BusState) (name : Text) (owner : QueuedOwner) (waiting : List QueuedOwner) (first whole : Text) → (is_bus name || is_unique name) ≡ false → queue_of s.names name ≡ owner ∷ waiting →
    first ≡ unique_text owner.connection → whole ≡ first ++ flat_map waiting_listed waiting → whole ≡ answer_text (option_map NameList (queue_names s name))
queue_told s name owner waiting first whole plain queue is told =
    told ∙ ap (λ (t : Text). t ++ flat_map waiting_listed waiting) is ∙ sym (queue_written owner waiting)
    ∙ ap (λ (q : Queue). answer_text (option_map NameList (queued_names q))) (sym queue)
    ∙ ap (λ (b : Bool). answer_text (option_map NameList (if b then option_map (λ owner. owner ∷ []) (owner_name s name) else queued_names (queue_of s.names name)))) (sym plain)
