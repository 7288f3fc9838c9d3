-- Calls whose changes are made together: those that add and remove rules. (D-Bus Specification: "Message Bus Messages")
use Rattle.std.specs.Prelude.{ℕ, Bool, true, false, ◌&&◌, ◌||◌, Option, Some, None, Ok, List, [], ◌∷◌, if◌then◌else◌}
use Rattle.names.specs.Texts.{Text, text_eq}
use Rattle.seq_bus_core.specs.declared.change.Change.{Change}
use Rattle.seq_bus_core.specs.declared.change.Change.TheVariants as change
use Rattle.seq_bus_core.specs.declared.connection.Conn.{Conn}
use Rattle.seq_bus_core.specs.declared.error_kind.ErrorKind.TheVariants as error
use Rattle.seq_bus_core.specs.declared.verdict.Verdict.{Verdict}
use Rattle.seq_bus_core.specs.declared.verdict.VerdictKind.{VerdictKind}
use Rattle.seq_bus_core.specs.declared.verdict.VerdictKind.TheVariants as verdict
use Rattle.message_core.specs.declared.header_field.HeaderField.TheVariants as field
use Rattle.message_core.specs.HeaderFields.{text_field}
use Rattle.message_core.specs.Messages.{Message}
use Rattle.message.specs.FactsOf.{facts_of}
use Rattle.message.specs.MessageBytes.{message_bytes, is_too_long}
use Rattle.driver.specs.declared.call.Call.{Call}
use Rattle.driver.specs.declared.call.Call.TheVariants as call
use Rattle.driver.specs.declared.method.Method.TheVariants.{AddMatch, RemoveMatch}
use Rattle.driver.specs.Calls.{Reading, is_call_to_bus}
use Rattle.driver.specs.Methods.{member_of}
use Rattle.outbox_core.specs.Contents.{Relays}
use Rattle.router_core.specs.declared.cause.CloseCause.TheVariants.{TooLong}
use Rattle.router_core.specs.declared.joint.Joint.{Joint}
use Rattle.router_core.specs.declared.joint.RuleCall.{RuleCall}
use Rattle.router_core.specs.declared.joint.RuleCall.TheVariants.{Adds, Removes}
use Rattle.router_core.specs.Answers.{Heard, Says, Refuses}
use Rattle.router_core.specs.Deeds.{Puts}
use Rattle.router_core.specs.Scripts.{Script, Gives, Routing, Gating, Wanting, Doing}
use Rattle.router_core.specs.Serving.{OfFate, staying_after, closing_for, erring_if_call, routing, with_sender}

-- ## Which they are

abbrev pub is_rule_member : Option Text → Bool
is_rule_member None = false
is_rule_member (Some member) = text_eq member (member_of AddMatch) || text_eq member (member_of RemoveMatch)

-- what its header says: it may be a call that adds or removes a rule
abbrev pub may_join : Message → Bool
may_join m = is_call_to_bus m && is_rule_member (text_field field.Member m.fields)

-- the call, where it reads well
abbrev pub rule_call : Reading Call → Option RuleCall
rule_call (Ok (call.AddMatch rule)) = Some (Adds rule)
rule_call (Ok (call.RemoveMatch rule)) = Some (Removes rule)
rule_call other = None

abbrev pub call_of_rule : RuleCall → Call
call_of_rule (Adds rule) = call.AddMatch rule
call_of_rule (Removes rule) = call.RemoveMatch rule

-- what it asks of the bus for the connection of this number
abbrev pub change_of_rule : ℕ → RuleCall → Change
change_of_rule number (Adds rule) = change.AddMatch number rule
change_of_rule number (Removes rule) = change.RemoveMatch number rule

-- the change of a call that joined others
abbrev pub change_of_joint : Joint → Change
change_of_joint j = change_of_rule j.caller.number j.call

-- ## What comes before their changes

-- The call joins the others, or this is done for it once their changes are made.
pub data Joining : Type 0 where
  Joins : Joining
  Parts : OfFate → Joining

-- The gate is shown it.
abbrev pub joining_gated : RuleCall → Script Joining
joining_gated c = Gating (call_of_rule c) (Gives Joins)

abbrev pub parting_with : OfFate → Script Joining
parting_with work = Gives (Parts work)

-- Without memory the message is dropped whole, and the call is answered so.
abbrev pub joining_copied_if : Message → Conn → List Conn → RuleCall → Bool → Script Joining
joining_copied_if m caller monitors c true = Doing (Puts monitors (Relays (message_bytes (with_sender m caller)))) (joining_gated c)
joining_copied_if m caller monitors c false = parting_with (staying_after (erring_if_call m caller error.NoMemory))

-- Whoever sends a message that is too long once it has its sender's name is closed.
abbrev pub joining_relayed : Message → Conn → List Conn → RuleCall → Script Joining
joining_relayed m caller monitors c = if is_too_long (with_sender m caller) then parting_with (closing_for TooLong) else Wanting (λ granted. joining_copied_if m caller monitors c granted)

-- The monitors are shown it.
abbrev pub joining_shown : Message → Conn → List Conn → RuleCall → Script Joining
joining_shown m caller [] c = joining_gated c
joining_shown m caller (conn ∷ conns) c = joining_relayed m caller (conn ∷ conns) c

abbrev pub joining_to : Message → Conn → Verdict → RuleCall → VerdictKind → Script Joining
joining_to m caller v c verdict.Bus = joining_shown m caller v.monitors c
joining_to m caller v c other = parting_with (routing m caller (Says v))

abbrev pub joining_routed : Message → Conn → RuleCall → Heard Verdict → Script Joining
joining_routed m caller c (Refuses refusal) = parting_with (routing m caller (Refuses refusal))
joining_routed m caller c (Says v) = joining_to m caller v c v.kind

-- It is routed first, as any message is.
abbrev pub joining : Message → Conn → RuleCall → Script Joining
joining m caller c = Routing caller.number (facts_of m) (λ heard. joining_routed m caller c heard)
