-- Who listens to a message, whoever has which names.
-- (D-Bus Specification: "Message Bus Message Routing", "org.freedesktop.DBus.Monitoring.BecomeMonitor")
use Rattle.std.specs.Prelude.{ℕ, ◌<◌, Bool, true, ◌&&◌, not, ◌==◌, Option, Some, None, List}
use Rattle.std.specs.List.{list_any}
use Rattle.match_rules.specs.Facts.{Facts}
use Rattle.match_rules.specs.Fitting.{Heads}
use Rattle.match_rules.specs.OwnedRules.{OwnedRule, has_fitting}
use Rattle.match_rules.specs.Lists.{Pairwise}
use Rattle.registry_core.specs.declared.connection_entry.ConnectionEntry.{ConnectionEntry}

-- not the connection that leaves
abbrev pub stays : Option ℕ → ℕ → Bool
stays None number = true
stays (Some leaver) number = not (number == leaver)

-- whether a connection is no monitor, and has added a rule that fits
abbrev pub entry_wants : Heads → List OwnedRule → Facts → ConnectionEntry → Bool
entry_wants heads rules facts m = not m.is_monitor && has_fitting heads rules facts m.conn.number

-- whether a connection of this number is among them
abbrev pub has_number : List ConnectionEntry → ℕ → Bool
has_number entries number = list_any (λ m. m.conn.number == number) entries

abbrev pub Rising : List ConnectionEntry → Type 0
Rising entries = Pairwise (λ a b. a.conn.number < b.conn.number) entries
