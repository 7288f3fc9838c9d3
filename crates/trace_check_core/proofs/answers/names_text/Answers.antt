use Rattle.std.proofs.Common.{◌∙◌, ◌++◌, sym, ap, map}
use Rattle.std.specs.Prelude.{string_bytes}
use Rattle.std.proofs.lemmas.List.Folds.{flat_map-map}
use Rattle.registry_core.specs.NameTables.{owned_name}
use Rattle.seq_bus_core.specs.BusState.{OwnedName}
use Rattle.trace_check_core.specs.Listings.{behind_comma}
use Rattle.trace_check_core.proofs.Listings.{names_told}
use Rattle.trace_check_core.proofs.answers.names_text.Goals as goal

pub returns : goal.returns
returns c =
    names_told c.args.registry.now c.connections.result.now (map (λ b. owned_name b.value) c.names.result.now) _ _ (string_bytes c.push_names.new.text)
    c.connections.ensures c.names.ensures (c.in_ok-text.ensures.ok ∙ c.as_str.ensures.value ∙ c.bus.ensures) c.in_ok-push_clients.ensures
    (c.in_ok-push_names.ensures ∙ ap (λ t. string_bytes c.push_clients.new.text ++ t) (sym (flat_map-map (λ (n : OwnedName). behind_comma n.name) (λ b. owned_name b.value) c.names.result.now)))
