use Rattle.std.proofs.Common.{◌≡◌, ◌+◌, Some, List, refl, ◌∙◌, sym, ap}
use Rattle.seq_bus_core.specs.BusState.{BusState, Connection}
use Rattle.seq_bus_core.specs.Steps.{step}
use Rattle.seq_bus_core.specs.declared.change.Change.TheVariants.{Hello}
use Rattle.registry.specs.declared.registry.Registry.TheInside.{Inside}
use Rattle.registry.specs.Hellos.{next_conn}
use Rattle.registry.specs.Tables.{state_of}
use Rattle.registry.proofs.HelloLemmas.{above_all, has_room, hello_state, next_number_is}
use Rattle.registry.proofs.Kept.{kept}
use Rattle.registry.proofs.registry.Registry.say_hello.Goals as goal
use Rattle.registry.proofs.registry.Registry.say_hello.Goals.{After-self-1}

pub join-requires-clause-has_room : goal.join-requires-clause-has_room
join-requires-clause-has_room c =
    let s = state_of c.self.inside in
    let made : next_conn s c.args.seat ≡ Some c.in-Some.conn = ap (λ (t : BusState). next_conn t c.args.seat) c.self.view_is ∙ sym c.next_conn.ensures ∙ c.in-Some.is in
    has_room s c.args.seat c.in-Some.conn c.self.invariant.consistent c.self.invariant.within_limits made

pub join-requires-clause-above : goal.join-requires-clause-above
join-requires-clause-above c =
    let s = state_of c.self.inside in
    let made : next_conn s c.args.seat ≡ Some c.in-Some.conn = ap (λ (t : BusState). next_conn t c.args.seat) c.self.view_is ∙ sym c.next_conn.ensures ∙ c.in-Some.is in
    above_all s c.in-Some.conn.number c.self.invariant.consistent (next_number_is s c.args.seat c.in-Some.conn made).0

next : After-self-1 → Inside
next c = record c.self.inside { connections = c.join.new.self; next_number = c.self.inside.next_number + 1 }

after : (c : After-self-1) → (step (state_of c.self.inside) c.args.seat (Hello c.args.privileged)).0 ≡ state_of (next c)
unfolding next
after c =
    let s = state_of c.self.inside in
    let made : next_conn s c.args.seat ≡ Some c.in-Some.conn = ap (λ (t : BusState). next_conn t c.args.seat) c.self.view_is ∙ sym c.next_conn.ensures ∙ c.in-Some.is in
    hello_state s c.args.seat c.args.privileged c.in-Some.conn made
    ∙ ap (λ (connections : List Connection). record s { connections = connections; next_number = c.self.inside.next_number + 1 }) (sym c.join.ensures)

pub invariant_of-self : goal.invariant_of-self
unfolding next
invariant_of-self c = kept c.self.inside (next c) c.self.invariant c.args.seat (Hello c.args.privileged) (after c) refl

pub returns : goal.returns
unfolding next
returns c = rw (← c.self.view_is) (sym (after c))
