-- Who is a connection and no monitor, once a connection came, left or became a monitor.
use Rattle.std.proofs.Common.{◌≡◌, ℕ, nat_eq, Bool, true, false, not, ◌&&◌, Some, List, [], ◌∷◌, ◌++◌, map, sym, ap, ◌∙◌}
use Rattle.std.specs.List.{filter}
use Rattle.std.proofs.lemmas.Bool.{cond_both, true≢false, eqb-true, and_parts, not_from_false}
use Rattle.match_rules.specs.Rules.{Rule}
use Rattle.seq_bus_core.specs.BusState.{BusState, Connection, is_monitor, is_client, client_of}
use Rattle.seq_bus_core.specs.Steps.{monitor_if}
use Rattle.seq_bus_core.proofs.Lists.{find_any, any_append, any_passing, any_map}

abbrev has_number : ℕ → Connection → Bool
has_number number c = nat_eq c.number number && not (is_monitor c)

pub client_found : (s : BusState) (number : ℕ) (c : Connection) → client_of s number ≡ Some c → is_client s.connections number ≡ true
client_found s number c e = find_any (has_number number) s.connections c e

pub client_after_hello : (connections : List Connection) (c : Connection) (number : ℕ) → is_client connections number ≡ true → is_client (connections ++ c ∷ []) number ≡ true
client_after_hello connections c number h = any_append (has_number number) connections (c ∷ []) h

-- another number than the one that left
other_number : (c : Connection) (number gone : ℕ) → nat_eq number gone ≡ false → has_number number c ≡ true → nat_eq c.number gone ≡ false
other_number c number gone other h =
    let parts : (nat_eq c.number number ≡ true) × (not (is_monitor c) ≡ true) = and_parts (nat_eq c.number number) (not (is_monitor c)) h in
    ap (λ n. nat_eq n gone) (eqb-true c.number number parts.0) ∙ other

pub client_after_leave :
    (connections : List Connection) (gone number : ℕ) → nat_eq number gone ≡ false → is_client connections number ≡ true →
    is_client (filter (λ c. not (nat_eq c.number gone)) connections) number ≡ true
client_after_leave connections gone number other h =
    any_passing (has_number number) (λ c. not (nat_eq c.number gone)) (λ c is. not_from_false (nat_eq c.number gone) (other_number c number gone other is)) connections h

pub client_after_monitor :
    (connections : List Connection) (gone : ℕ) (rules : List Rule) (number : ℕ) → nat_eq number gone ≡ false → is_client connections number ≡ true →
    is_client (map (monitor_if gone rules) connections) number ≡ true
client_after_monitor connections gone rules number other h =
    any_map (has_number number) (has_number number) (monitor_if gone rules)
    (λ c is. cond_both (nat_eq c.number gone) (record c { monitor = Some rules }) c (λ d. has_number number d ≡ true) (λ same. absurd (true≢false (sym same ∙ other_number c number gone other is))) (λ _. is)) connections h
