-- Calls that add and remove rules bring no signals, and let no call go that waited.
use Rattle.std.proofs.Common.{◌≡◌, ℕ, Bool, true, false, Option, Some, None, List, [], ◌∷◌, map, refl, sym, ap, subst}
use Rattle.std.specs.List.{AllByRecursion, list_any}
use Rattle.seq_bus_core.specs.Batches.{outcomes_of}
use Rattle.seq_bus_core.specs.BusState.{BusState, Connection, client_of}
use Rattle.seq_bus_core.specs.Steps.{Stepped, step, for_client, add_match, remove_match, is_within_rules, with_rule}
use Rattle.seq_bus_core.specs.Tickets.{WholeBus, bus_after, bus_step, settled_tickets}
use Rattle.seq_bus_core.specs.declared.outcome.Outcome.{Outcome}
use Rattle.match_rules.specs.Rules.{Rule}
use Rattle.match_rules.specs.OwnedRules.{is_rule_of}
use Rattle.bus_view.specs.Views.{Knowledge, IsChanged}
use Rattle.router_core.specs.Together.{change_of_joint, change_of_rule}
use Rattle.router_core.specs.declared.joint.Joint.{Joint}
use Rattle.router_core.specs.declared.joint.RuleCall.{RuleCall}
use Rattle.router_core.specs.declared.joint.RuleCall.TheVariants.{Adds, Removes}
use Rattle.router.specs.Joinings.{RepliesAlone}

abbrev BringsNone : Stepped → Type 0
BringsNone r = (r.1.signals ≡ []) × (r.1.tickets ≡ [])

added_brings_none : (s : BusState) (number : ℕ) (rule : Rule) → BringsNone (add_match s number rule)
added_brings_none s number rule = by_room (is_within_rules (with_rule s number rule) number) refl
  where
    by_room : (b : Bool) → is_within_rules (with_rule s number rule) number ≡ b → BringsNone (add_match s number rule)
    by_room true is = rw is (refl, refl)
    by_room false is = rw is (refl, refl)

removed_brings_none : (s : BusState) (number : ℕ) (rule : Rule) → BringsNone (remove_match s number rule)
removed_brings_none s number rule = by_place (list_any (is_rule_of number rule) s.rules) refl
  where
    by_place : (b : Bool) → list_any (is_rule_of number rule) s.rules ≡ b → BringsNone (remove_match s number rule)
    by_place true is = rw is (refl, refl)
    by_place false is = rw is (refl, refl)

for_client_brings_none : (s : BusState) (c : Option Connection) (work : Connection → Stepped) → ((d : Connection) → BringsNone (work d)) → BringsNone (for_client s c work)
for_client_brings_none s None work each = (refl, refl)
for_client_brings_none s (Some c) work each = each c

step_brings_none : (s : BusState) (seat number : ℕ) (call : RuleCall) → BringsNone (step s seat (change_of_rule number call))
step_brings_none s seat number (Adds rule) = for_client_brings_none s (client_of s number) (λ c. add_match s number rule) (λ c. added_brings_none s number rule)
step_brings_none s seat number (Removes rule) = for_client_brings_none s (client_of s number) (λ c. remove_match s number rule) (λ c. removed_brings_none s number rule)

-- it is told a reply alone
pub rule_brings_none : (b : WholeBus) (seat : ℕ) (j : Joint) → RepliesAlone (bus_step b seat (change_of_joint j)).1
rule_brings_none b seat j =
    let none = step_brings_none b.state seat j.caller.number j.call in
    record { signals = none.0; tickets = ap (λ numbers. settled_tickets b.waiting numbers) none.1 }

-- so whoever hears of it hears a reply alone
pub hears_of_none : (alone : Bool) (j : Joint) (o : Outcome) (before after : Knowledge) → IsChanged alone before (change_of_joint j) o after → RepliesAlone o
hears_of_none alone j o before after made = subst RepliesAlone (sym made.told) (rule_brings_none (bus_after before.opening made.point) before.seat j)

-- and what several of them are told is replies alone
pub rules_bring_none : (b : WholeBus) (seat : ℕ) (joints : List Joint) → AllByRecursion RepliesAlone (outcomes_of b seat (map change_of_joint joints))
rules_bring_none b seat [] = tt
rules_bring_none b seat (j ∷ joints) = (rule_brings_none b seat j, rules_bring_none (bus_step b seat (change_of_joint j)).0 seat joints)
