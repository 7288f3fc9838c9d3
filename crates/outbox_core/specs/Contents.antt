-- What is on its way to a connection. (D-Bus Specification: "Message Bus Messages")
use Rattle.std.specs.Prelude.{ℕ, List, [], ◌∷◌}
use Rattle.names.specs.UniqueName.{unique_text}
use Rattle.marshal_core.specs.Types.{Tys, no_types, one_type}
use Rattle.marshal_core.specs.Values.{Vals, no_values, values}
use Rattle.seq_bus_core.specs.Answers.{Answer}
use Rattle.seq_bus_core.specs.declared.error_kind.ErrorKind.{ErrorKind}
use Rattle.seq_bus_core.specs.declared.signal.BusSignal.{BusSignal}
use Rattle.bus_view.specs.Bodies.{answer_type, answer_value}
use Rattle.message_core.specs.Messages.{Message}
use Rattle.message_core.specs.Headers.{message_of}
use Rattle.driver.specs.Answered.{ReplyTo}
use Rattle.driver.specs.OwnMessages.{number_types, number_values, string_types, string_values, reply_header, error_message, signal_message}
use Rattle.outbox_core.specs.declared.content.Content.{Content}
use Rattle.outbox_core.specs.declared.content.Content.TheVariants as content
use Rattle.outbox_core.specs.declared.bus_message.BusMessage.{BusMessage}
use Rattle.outbox_core.specs.declared.bus_message.BusMessage.TheVariants as message
use Rattle.driver.specs.declared.reply.ReplyBody.{ReplyBody}
use Rattle.driver.specs.declared.reply.ReplyBody.TheVariants as reply

-- ## Messages of the bus, before they are numbered

-- what a reply carries
pub data Carried : Type 0 where
  Nothing : Carried
  Number : ℕ → Carried
  UniqueName : ℕ → Carried
  Answered : Answer → Carried

pub data Own : Type 0 where
  Signals : BusSignal → Own
  Replies : ReplyTo → Carried → Own
  Errs : ReplyTo → ErrorKind → Own

-- what is on its way: a message of a connection in its bytes, or one of the bus
pub data Said : Type 0 where
  Relays : List ℕ → Said
  Tells : Own → Said

-- ## Once they are numbered

abbrev pub carried_types : Carried → Tys
carried_types Nothing = no_types
carried_types (Number n) = number_types
carried_types (UniqueName number) = string_types (unique_text number ∷ [])
carried_types (Answered answer) = one_type (answer_type answer)

abbrev pub carried_values : Carried → Vals
carried_values Nothing = no_values
carried_values (Number n) = number_values n
carried_values (UniqueName number) = string_values (unique_text number ∷ [])
carried_values (Answered answer) = values (answer_value answer ∷ [])

-- the message of the bus, by its serial among those to its recipient
abbrev pub bus_message : ℕ → Own → Message
bus_message serial (Signals signal) = signal_message serial signal
bus_message serial (Replies to carried) = message_of (reply_header serial to) (carried_types carried) (carried_values carried)
bus_message serial (Errs to error) = error_message serial to error

-- ## As they are held

abbrev pub carried_of : ReplyBody Answer → Carried
carried_of reply.Empty = Nothing
carried_of (reply.Number n) = Number n
carried_of (reply.UniqueName number) = UniqueName number
carried_of (reply.Answer answer) = Answered answer

abbrev pub own_of : BusMessage → Own
own_of (message.Signal signal) = Signals signal
own_of (message.Reply to held) = Replies to (carried_of held)
own_of (message.Error to error) = Errs to error

-- what a content says
abbrev pub said_of : Content → Said
said_of (content.Relayed bytes) = Relays bytes
said_of (content.Own held) = Tells (own_of held)
