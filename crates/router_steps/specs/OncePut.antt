-- What comes of a message that is to be put.
use Rattle.std.specs.Prelude.{Bool, true, false, Result, Ok, Err}
use Rattle.seq_bus_core.specs.declared.connection.Conn.{Conn}
use Rattle.seq_bus_core.specs.declared.error_kind.ErrorKind.TheVariants as error
use Rattle.message_core.specs.Messages.{Message}
use Rattle.message.specs.declared.fault.RelayFault.{RelayFault}
use Rattle.message.specs.declared.fault.RelayFault.TheVariants as relay
use Rattle.router_core.specs.declared.cause.CloseCause.TheVariants as cause
use Rattle.router_core.specs.Serving.{OfFate, staying_after, closing_for, erring_if_call}

abbrev pub is_for_length : RelayFault → Bool
is_for_length relay.NoMemory = false
is_for_length relay.TooLong = true

-- it was too long
abbrev pub is_long : {A : Type 0} → Result A RelayFault → Bool
is_long (Ok done) = false
is_long (Err fault) = is_for_length fault

-- Where it was not put, a call is answered that there was no memory, or whoever sent a message that is too long is closed.
abbrev pub after_relay_fault : RelayFault → Message → Conn → OfFate
after_relay_fault relay.NoMemory m sender = staying_after (erring_if_call m sender error.NoMemory)
after_relay_fault relay.TooLong m sender = closing_for cause.TooLong

-- Once it was put, the script goes on.
abbrev pub after_put : {A : Type 0} → Result A RelayFault → Message → Conn → OfFate → OfFate
after_put (Ok done) m sender goes_on = goes_on
after_put (Err fault) m sender goes_on = after_relay_fault fault m sender
