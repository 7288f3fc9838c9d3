use Rattle.std.proofs.Common.{◌≡◌, ◌==◌, true, false, Some, [], ◌∷◌, ◌++◌, List, map, sym, ap, ◌∙◌, subst, if◌then◌else◌, arith}
use Rattle.std.proofs.lemmas.Bool.Decides.{nat_tests}
use Rattle.seq_bus_core.specs.BusState.{BusState, conn_of}
use Rattle.seq_bus_core.specs.Recipients.{conn_at}
use Rattle.seq_bus_core.specs.declared.connection.Conn.{Conn}
use Rattle.registry.specs.Pendings.{IsDue, state_after}
use Rattle.registry.proofs.HelloLemmas.{conn_joined, nobody_has_next}
use Rattle.registry.proofs.LeaveLemmas.{conn_left, none_left}
use Rattle.registry.proofs.MonitorLemmas.{becoming_conn}
use Rattle.registry.proofs.after.AfterAudience.conn.Goals as goal

pub returns-then-connection-number : goal.returns-then-connection-number
returns-then-connection-number c =
    let s : BusState = c.self.inside.registry.now in
    let k = c.args.number in
    let n = c.in-Left.connection in
    let same : (n == k) ≡ true = let are = c.if-connection-number.true in grind (arith, nat_tests) in
    sym (ap (map conn_of) (none_left s.connections n k same))
    ∙ ap (λ (t : BusState). conn_at t (Some k)) (ap (λ p. state_after p s) (sym c.in-Left.is) ∙ c.self.view_is)

pub returns-else-connection-number : goal.returns-else-connection-number
returns-else-connection-number c =
    let s : BusState = c.self.inside.registry.now in
    let k = c.args.number in
    let n = c.in-Left.connection in
    let other : (k == n) ≡ false = let differ = c.if-connection-number.false in grind (arith, nat_tests) in
    c.only_conn-there.ensures.value ∙ sym (ap (map conn_of) (conn_left s.connections n k other))
    ∙ ap (λ (t : BusState). conn_at t (Some k)) (ap (λ p. state_after p s) (sym c.in-Left.is) ∙ c.self.view_is)

pub returns-then-conn-number : goal.returns-then-conn-number
returns-then-conn-number c =
    let s : BusState = c.self.inside.registry.now in
    let k = c.args.number in
    let conn = c.in-Joined.conn in
    let next : conn.number ≡ s.next_number = subst (λ p. IsDue p s) c.in-Joined.is c.self.invariant in
    let none : conn_at s (Some k) ≡ [] = ap (λ i. conn_at s (Some i)) (sym c.if-conn-number.true) ∙ nobody_has_next s conn.number c.only_conn-there.ensures.consistent next in
    let same : (conn.number == k) ≡ true = let are = c.if-conn-number.true in grind (arith, nat_tests) in
    sym (ap (λ (before : List Conn). before ++ conn ∷ []) none) ∙ sym (ap (λ b. conn_at s (Some k) ++ (if b then conn ∷ [] else [])) same)
    ∙ sym (conn_joined s conn c.in-Joined.privileged k)
    ∙ ap (λ (t : BusState). conn_at t (Some k)) (ap (λ p. state_after p s) (sym c.in-Joined.is) ∙ c.self.view_is)

pub returns-in-Becoming : goal.returns-in-Becoming
returns-in-Becoming c =
    let s : BusState = c.self.inside.registry.now in
    let k = c.args.number in
    c.only_conn-there.ensures.value ∙ sym (becoming_conn s c.in-Becoming.connection c.in-Becoming.rules.now k)
    ∙ ap (λ (t : BusState). conn_at t (Some k)) (ap (λ p. state_after p s) (sym c.in-Becoming.is) ∙ c.self.view_is)
