-- Names with an owner and names without.
use Rattle.std.proofs.Common.{◌≡◌, ℕ, nat_eq, true, false, not, ◌&&◌, Some, None, List, [], ◌∷◌, refl, sym, ap, ◌∙◌, inl, inr, IsSome}
use Rattle.std.specs.Prelude.{option_and_then}
use Rattle.std.specs.List.{AllByRecursion as Each, list_all, list_any, find}
use Rattle.std.proofs.lemmas.Bool.{cond_both, cond-false, true≢false, or_cases, or_parts, and_parts, cases_Bool}
use Rattle.names.specs.Texts.{Text, text_eq}
use Rattle.names.specs.BusName.{is_bus, is_unique}
use Rattle.owner_queues.specs.Queues.{Queue, queue_head}
use Rattle.seq_bus_core.specs.BusState.{BusState, OwnedName, Connection, is_monitor, is_client, queue_of, head_of, connection_of}
use Rattle.seq_bus_core.specs.Steps.{is_reserved}
use Rattle.seq_bus_core.specs.Consistency.{IsOwned, IsConsistent}
use Rattle.seq_bus_core.proofs.Lists.{any_none}
use Rattle.seq_bus_core.proofs.TextLemmas.{text_eq-true}

-- what holds of each queue holds of that of any name, if it holds of the empty one
pub queue_of_each : (P : Queue → Type 0) → P [] → (names : List OwnedName) (name : Text) → Each (λ n. P n.queue) names → P (queue_of names name)
queue_of_each P none [] name h = none
queue_of_each P none (n ∷ ns) name h = cond_both (text_eq n.name name) n.queue (queue_of ns name) P (λ _. h.0) (λ _. queue_of_each P none ns name h.1)

pub queue_of_unowned : (names : List OwnedName) (name : Text) → Each (λ n. text_eq n.name name ≡ false) names → queue_of names name ≡ []
queue_of_unowned [] name h = refl
queue_of_unowned (n ∷ ns) name h = cond-false (text_eq n.name name) n.queue (queue_of ns name) h.0 ∙ queue_of_unowned ns name h.1

-- the owner of a queue is a connection that is no monitor
pub owner_is_client : (connections : List Connection) (queue : Queue) → IsSome (queue_head queue) → list_all (λ q. is_client connections q.connection) queue ≡ true → (c : ℕ) × (queue_head queue ≡ Some c) × (is_client connections c ≡ true)
owner_is_client connections [] owned clients = absurd (true≢false (sym owned))
owner_is_client connections (owner ∷ waiting) owned clients =
    (owner.connection, refl, (and_parts (is_client connections owner.connection) (list_all (λ q. is_client connections q.connection) waiting) clients).0)

owned_head :
    (connections : List Connection) (names : List OwnedName) (name : Text) → Each (IsOwned connections) names → list_any (λ n. text_eq n.name name) names ≡ true →
    (is_reserved name ≡ false) × ((c : ℕ) × (queue_head (queue_of names name) ≡ Some c) × (is_client connections c ≡ true))
owned_head connections [] name h any = absurd (true≢false (sym any))
owned_head connections (n ∷ ns) name h any =
    cond_both (text_eq n.name name) n.queue (queue_of ns name) (λ q. (is_reserved name ≡ false) × ((c : ℕ) × (queue_head q ≡ Some c) × (is_client connections c ≡ true)))
    (λ same. (ap is_reserved (sym (text_eq-true n.name name same)) ∙ h.0.ownable, owner_is_client connections n.queue h.0.owned h.0.clients))
    (λ other. elim (or_cases (text_eq n.name name) (list_any (λ m. text_eq m.name name) ns) any) [ inl same ↦ absurd (true≢false (sym same ∙ other)) | inr later ↦ owned_head connections ns name h.1 later ])

pub client_is_connection : (connections : List Connection) (number : ℕ) → is_client connections number ≡ true → (c : Connection) × (find (λ d. nat_eq d.number number) connections ≡ Some c)
client_is_connection [] number h = absurd (true≢false (sym h))
client_is_connection (c ∷ cs) number h =
    cond_both (nat_eq c.number number) (Some c) (find (λ d. nat_eq d.number number) cs) (λ o. (d : Connection) × (o ≡ Some d)) (λ _. (c, refl))
    (λ other. elim (or_cases (nat_eq c.number number && not (is_monitor c)) (is_client cs number) h) [
      | inl here ↦ absurd (true≢false (sym (and_parts (nat_eq c.number number) (not (is_monitor c)) here).0 ∙ other))
      | inr later ↦ client_is_connection cs number later
    ])

-- A name whose head is no connection is not among the names that have an owner.
pub unowned_without_head : (s : BusState) (name : Text) → IsConsistent s → option_and_then (connection_of s) (head_of s name) ≡ None → Each (λ n. text_eq n.name name ≡ false) s.names
unowned_without_head s name h none =
    elim (cases_Bool (list_any (λ n. text_eq n.name name) s.names)) [
      | inr absent ↦ any_none (λ n. text_eq n.name name) s.names absent
      | inl owned ↦ let found = owned_head s.connections s.names name h.names_owned owned in
          let free : (is_bus name ≡ false) × (is_unique name ≡ false) = or_parts (is_bus name) (is_unique name) found.0 in
          let head : head_of s name ≡ Some found.1.0 = cond-false (is_bus name) _ _ free.0 ∙ cond-false (is_unique name) _ _ free.1 ∙ found.1.1 in
          let there = client_is_connection s.connections found.1.0 found.1.2 in
          absurd (some_is_not_none there.0 (sym there.1 ∙ ap (option_and_then (connection_of s)) (sym head) ∙ none))
    ]
  where
    some_is_not_none : (c : Connection) → Some c ≡ None → ⊥
    some_is_not_none c e = cc
