-- What AddMatch and RemoveMatch are replied. (D-Bus Specification: "org.freedesktop.DBus.AddMatch", "org.freedesktop.DBus.RemoveMatch")
use Rattle.std.specs.Prelude.{ℕ, nat_lt, ◌&&◌, not, length, if◌then◌else◌}
use Rattle.std.specs.List.{list_any}
use Rattle.match_rules.specs.Rules.{Rule}
use Rattle.match_rules.specs.OwnedRules.{count_of, is_rule_of}
use Rattle.seq_bus_core.specs.BusState.{BusState, is_client, max_rules, max_rules_of_one}
use Rattle.seq_bus_core.specs.declared.outcome.Reply.{Reply}
use Rattle.seq_bus_core.specs.declared.outcome.Reply.TheVariants.{Gone, LimitsExceeded, Done, RuleNotFound}

abbrev pub reply_to_add : BusState → ℕ → Reply
reply_to_add s number =
    if not (is_client s.connections number) then Gone
    else if nat_lt (length s.rules) max_rules && nat_lt (count_of number s.rules) max_rules_of_one then Done
    else LimitsExceeded

abbrev pub reply_to_remove : BusState → ℕ → Rule → Reply
reply_to_remove s number rule =
    if not (is_client s.connections number) then Gone
    else if list_any (is_rule_of number rule) s.rules then Done
    else RuleNotFound
