-- Room for settled tickets.
use Rattle.std.specs.Prelude.{ℕ, List}
use Rattle.seq_bus_core.specs.declared.ticket.SettledTicket.{SettledTicket}

-- the tickets that are there, and how many there can be
pub record TicketRoom : Type 0 where
  pub tickets : List SettledTicket
  pub room : ℕ
