-- Buses that can be opened as the head of a trace says.
use Rattle.std.proofs.Common.{◌≡◌, ℕ, ◌<◌, ◌≤◌, true, false, Option, Some, None, List, [], ◌∷◌, ◌++◌, length, length-append, refl, sym, ap, ◌∙◌, subst, arith, codes}
use Rattle.std.specs.Prelude.{◌==◌, ◌&&◌, not, is_none, IfSome}
use Rattle.std.specs.List.{AllByRecursion, IsDistinct}
use Rattle.std.proofs.lemmas.Bool.{and_parts, cond_both, ne_eqb, true≢false, not-true}
use Rattle.std.proofs.lemmas.Map.Keys.{IsDistinct-cons, IsDistinct-head, IsDistinct-tail}
use Rattle.names.specs.BusName.{is_bus, is_unique}
use Rattle.names.specs.Elements.{colon, dot, IsElement, is_element_byte, joined}
use Rattle.names.specs.Texts.{Text, text_eq, text_lt}
use Rattle.names.specs.WellKnown.{IsWellKnownName, well_known_fault, well_known_style}
use Rattle.names.specs.declared.fault.NameFault.{NameFault}
use Rattle.names.proofs.Faults.{none_well_known}
use Rattle.seq_bus_core.specs.Histories.{CanOpen, max_routers, max_services}
use Rattle.seq_bus_core.specs.Steps.{is_reserved}
use Rattle.seq_bus_core.proofs.TextLemmas.{text_lt-differs}
use Rattle.trace_lines.specs.Heads.{is_service_name, service_from, service_of}
use Rattle.trace_words.specs.Words.{space, parts}
use Rattle.trace_check_core.specs.Traces.{is_last}

-- ## Names of services

no_fault : (o : Option NameFault) → is_none o ≡ true → o ≡ None
no_fault None h = refl
no_fault (Some fault) h = absurd (true≢false (sym h))

well_known_is_not : (text : Text) → IsWellKnownName text → is_unique text ≡ false
well_known_is_not text h = subst (λ t. is_unique t ≡ false) (sym h.1.3) (first_byte h.1.0 h.1.1 h.1.2)
  where
    not_colon : (b : ℕ) → is_element_byte well_known_style b ≡ true → (b == colon) ≡ false
    not_colon b e = ne_eqb b colon (λ same. absurd (true≢false (sym e ∙ ap (λ x. is_element_byte well_known_style x) same)))

    first_byte : (elements : List Text) → 1 < length elements → AllByRecursion (IsElement well_known_style) elements → is_unique (joined dot elements) ≡ false
    first_byte [] some each = refl
    first_byte ([] ∷ others) some each = absurd each.0
    first_byte ((b ∷ bytes) ∷ others) some each = not_colon b each.0.0

service_ownable : (name : Text) → is_service_name name ≡ true → is_reserved name ≡ false
service_ownable name e =
    let both = and_parts (is_none (well_known_fault name)) (not (is_bus name)) e in
    let plain : is_unique name ≡ false = well_known_is_not name (none_well_known name (no_fault (well_known_fault name) both.0)) in
    rw (not-true (is_bus name) both.1) plain

ownable_from : (words : List Text) → IfSome (service_from words) (λ name. is_reserved name ≡ false)
ownable_from [] = tt
ownable_from (word ∷ []) = tt
ownable_from (word ∷ name ∷ []) =
    cond_both (text_eq word (codes "service") && is_service_name name) (Some name) None (λ o. IfSome o (λ n. is_reserved n ≡ false))
    (λ e. service_ownable name (and_parts (text_eq word (codes "service")) (is_service_name name) e).1) (λ _. tt)
ownable_from (word ∷ name ∷ other ∷ words) = tt

-- a name that a line says is ownable
pub said_ownable : (text name : Text) → service_of text ≡ Some name → is_reserved name ≡ false
said_ownable text name e = subst (λ o. IfSome o (λ n. is_reserved n ≡ false)) e (ownable_from (parts space text))

-- ## One service more

others_more : (service : Text) (services : List Text) (name : Text) → AllByRecursion (λ y. text_eq service y ≡ false) services → text_eq service name ≡ false → AllByRecursion (λ y. text_eq service y ≡ false) (services ++ name ∷ [])
others_more service [] name all other = (other, tt)
others_more service (s ∷ services) name all other = (all.0, others_more service services name all.1 other)

distinct_more : (services : List Text) (name : Text) → is_last services name ≡ true → IsDistinct text_eq services → IsDistinct text_eq (services ++ name ∷ [])
distinct_more [] name last distinct = IsDistinct-cons text_eq name [] tt distinct
distinct_more (service ∷ services) name last distinct =
    let both = and_parts (text_lt service name) (is_last services name) last in
    IsDistinct-cons text_eq service (services ++ name ∷ [])
    (others_more service services name (IsDistinct-head text_eq service services distinct) (text_lt-differs service name both.0))
    (distinct_more services name both.1 (IsDistinct-tail text_eq service services distinct))

ownable_more : (services : List Text) (name : Text) → AllByRecursion (λ n. is_reserved n ≡ false) services → is_reserved name ≡ false → AllByRecursion (λ n. is_reserved n ≡ false) (services ++ name ∷ [])
ownable_more [] name all one = (one, tt)
ownable_more (service ∷ services) name all one = (all.0, ownable_more services name all.1 one)

pub service_opens : (routers : ℕ) (services : List Text) (name : Text) → CanOpen routers services → length services < max_services → is_last services name ≡ true → is_reserved name ≡ false → CanOpen routers (services ++ name ∷ [])
service_opens routers services name can few last ownable =
    let count = length-append services (name ∷ []) in
    record {
      routed = can.routed;
      few = omega (arith, count, few);
      distinct = distinct_more services name last can.distinct;
      ownable = ownable_more services name can.ownable ownable;
    }

none_distinct : IsDistinct text_eq []
unfolding IsDistinct
none_distinct = tt

-- a head of two lines
pub headed_opens : (routers : ℕ) → (1 ≤ routers) × (routers ≤ max_routers) → CanOpen routers []
headed_opens routers within = record { routed = within; few = omega arith; distinct = none_distinct; ownable = tt }
