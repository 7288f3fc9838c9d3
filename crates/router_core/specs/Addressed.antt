-- Who a message is put to, as it is held.
use Rattle.std.specs.Prelude.{List, [], ◌∷◌}
use Rattle.seq_bus_core.specs.declared.connection.Conn.{Conn}
use Rattle.router_core.specs.declared.recipients.Held.{Held}
use Rattle.router_core.specs.declared.recipients.Held.TheVariants.{One, Shown, OfSignal}

-- the recipients, and the monitors that are shown it; of these some may be recipients
pub record Addressed : Type 0 where
  pub to : List Conn
  pub monitors : List Conn

abbrev pub addressees_of : Held → Addressed
addressees_of (One conn) = record { to = conn ∷ []; monitors = [] }
addressees_of (Shown verdict) = record { to = verdict.value.to; monitors = verdict.value.monitors }
addressees_of (OfSignal to monitors) = record { to = to; monitors = monitors }
