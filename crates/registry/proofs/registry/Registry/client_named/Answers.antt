use Rattle.std.proofs.Common.{◌<◌, ◌^◌, Bool, Some, None, sym, ap, ◌∙◌, subst, if◌then◌else◌}
use Rattle.std.specs.List.{AllByRecursion as Each}
use Rattle.seq_bus_core.specs.BusState.{BusState}
use Rattle.registry.proofs.HeadLemmas.{client_of_number, no_client_of_name}
use Rattle.registry.proofs.Kept.{given_below}
use Rattle.registry.proofs.registry.Registry.client_named.Goals as goal

abbrev Below : BusState → Type 0
Below s = Each (λ d. d.number < 2 ^ 64) s.connections

pub returns-then-is_client : goal.returns-then-is_client
returns-then-is_client c =
    sym (client_of_number c.args.name.now c.in-Some.number c.args.self.now.connections (subst Below c.self.view_is (given_below c.self.inside c.self.invariant)) c.in-Some.ensures
    ∙ ap (λ (b : Bool). if b then Some c.in-Some.number else None) (sym c.if-is_client.ensures))

pub returns-else-is_client : goal.returns-else-is_client
returns-else-is_client c =
    sym (client_of_number c.args.name.now c.in-Some.number c.args.self.now.connections (subst Below c.self.view_is (given_below c.self.inside c.self.invariant)) c.in-Some.ensures
    ∙ ap (λ (b : Bool). if b then Some c.in-Some.number else None) (sym c.if-is_client.ensures))

pub returns-in-None : goal.returns-in-None
returns-in-None c = sym (no_client_of_name c.args.name.now c.args.self.now.connections (subst Below c.self.view_is (given_below c.self.inside c.self.invariant)) c.in-None.ensures)
