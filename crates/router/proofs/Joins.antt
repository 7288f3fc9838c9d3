-- Calls that are shown before their changes are made.
use Rattle.std.proofs.Common.{◌≡◌, ◌≢◌, ℕ, Bool, true, false, Ok, Some, List, [], ◌∷◌, refl, sym, ap, subst, rules, if◌then◌else◌}
use Rattle.std.proofs.lemmas.Option.{none-some, same_Some}
use Rattle.seq_bus_core.specs.Histories.{History}
use Rattle.seq_bus_core.specs.declared.connection.Conn.{Conn}
use Rattle.message_core.specs.Messages.{Message}
use Rattle.message.specs.MessageBytes.{message_bytes, is_too_long}
use Rattle.message.specs.declared.fault.RelayFault.{RelayFault}
use Rattle.message.specs.declared.fault.RelayFault.TheVariants.{NoMemory, TooLong}
use Rattle.driver.specs.declared.call.Call.{Call}
use Rattle.driver.specs.declared.call.Call.TheVariants.{AddMatch, RemoveMatch}
use Rattle.outbox_core.specs.Contents.{Relays}
use Rattle.router_core.specs.declared.joint.RuleCall.{RuleCall}
use Rattle.router_core.specs.Deeds.{GatedCall}
use Rattle.router_core.specs.Scripts.{Script, Wanting, World, Passes, Comes, putting}
use Rattle.router_core.specs.Serving.{closing_for, nothing, with_sender}
use Rattle.router_core.specs.Together.{Joining, Joins, Parts, call_of_rule, joining_copied_if, joining_shown, joining_gated, parting_with, rule_call}
use Rattle.router_core.specs.declared.cause.CloseCause.TheVariants.{TooLong as For_length}
use Rattle.router_steps.specs.OncePut.{is_for_length, after_relay_fault}

-- what a call adds or removes says which call it is
call_is : (call : Call) (c : RuleCall) → rule_call (Ok call) ≡ Some c → call_of_rule c ≡ call
call_is (AddMatch rule) c is = ap call_of_rule (sym (same_Some _ c is))
call_is (RemoveMatch rule) c is = ap call_of_rule (sym (same_Some _ c is))
call_is other c is = absurd (none-some c is)

module _ {N G : Type 0} (told : N → History) (registry_of : N → ℕ) (passes : G → GatedCall → G → Type 0) (alone : Bool) (m : Message) (caller : Conn) (c : RuleCall) where
  abbrev joins_if : (monitors : List Conn) → Bool → Script Joining
  joins_if monitors long = if long then parting_with (closing_for For_length) else Wanting (λ granted. joining_copied_if m caller monitors c granted)

  module _ (call : Call) (w n v : World N G) (is : rule_call (Ok call) ≡ Some c) (passed : Passes passes call n v) where
    passes_rule : Passes passes (call_of_rule c) n v
    passes_rule = subst (λ (x : Call). Passes passes x n v) (sym (call_is call c is)) passed

    -- the monitors were shown it, if there are any
    pub joins_shown : (monitors : List Conn) → (monitors ≢ [] → is_too_long (with_sender m caller) ≡ false) →
        Comes told registry_of passes alone (putting monitors (Relays (message_bytes (with_sender m caller))) nothing) w tt n → Comes told registry_of passes alone (joining_shown m caller monitors c) w Joins v
    joins_shown [] short put = subst (λ (k : World N G). Comes told registry_of passes alone (joining_shown m caller [] c) k Joins v) put.1 (v, passes_rule, (refl, refl))
    joins_shown (conn ∷ conns) short put =
        let ends : n ≡ put.0 = put.2.1 in
        let joined : Comes told registry_of passes alone (joining_gated c) put.0 Joins v = (v, subst (λ (k : World N G). Passes passes (call_of_rule c) k v) ends passes_rule, (refl, refl)) in
        subst (λ (long : Bool). Comes told registry_of passes alone (joins_if (conn ∷ conns) long) w Joins v) (sym (short (search rules)))
        (true, (put.0, put.1, joined))

  -- it was not put to them
  pub parts_unput : (fault : RelayFault) (monitors : List Conn) (w : World N G) → monitors ≢ [] → (monitors ≢ [] → is_too_long (with_sender m caller) ≡ is_for_length fault) →
      Comes told registry_of passes alone (joining_shown m caller monitors c) w (Parts (after_relay_fault fault m caller)) w
  parts_unput fault [] w some long = absurd (some refl)
  parts_unput NoMemory (conn ∷ conns) w some long =
      subst (λ (b : Bool). Comes told registry_of passes alone (joins_if (conn ∷ conns) b) w (Parts (after_relay_fault NoMemory m caller)) w) (sym (long some)) (false, (refl, refl))
  parts_unput TooLong (conn ∷ conns) w some long =
      subst (λ (b : Bool). Comes told registry_of passes alone (joins_if (conn ∷ conns) b) w (Parts (after_relay_fault TooLong m caller)) w) (sym (long some)) (refl, refl)
