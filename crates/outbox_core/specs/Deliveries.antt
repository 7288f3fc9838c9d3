-- Who gets a message that is put. (D-Bus Specification: "Message Bus Message Routing")
use Rattle.std.specs.Prelude.{◌≡◌, Bool, ◌==◌, ◌||◌, not, List, ◌++◌, filter}
use Rattle.std.specs.List.{IsDistinct}
use Rattle.seq_bus_core.specs.Steps.{is_among}
use Rattle.seq_bus_core.specs.declared.connection.Conn.{Conn}

-- each monitor that is no recipient, and then each recipient
abbrev pub deliveries_of : List Conn → List Conn → List Conn
deliveries_of to monitors = filter (λ m. not (is_among to m)) monitors ++ to

-- ## Laws

abbrev pub is_same : Conn → Conn → Bool
is_same a b = a.number == b.number

-- Where no recipient and no monitor is named twice, each of them gets the message once.
abbrev pub EachGetsItOnce : Type 0
EachGetsItOnce = (to monitors : List Conn) → IsDistinct is_same to → IsDistinct is_same monitors → IsDistinct is_same (deliveries_of to monitors)

-- It goes to the recipients and the monitors, and to nobody else.
abbrev pub NobodyElseGetsIt : Type 0
NobodyElseGetsIt = (to monitors : List Conn) (conn : Conn) → is_among (deliveries_of to monitors) conn ≡ (is_among to conn || is_among monitors conn)
