-- What a call is answered, as it is held.
use Rattle.std.specs.Prelude.{Result, Ok, Err}
use Rattle.seq_bus_core.specs.declared.error_kind.ErrorKind.{ErrorKind}
use Rattle.seq_bus_core.specs.Answers.{Answer}
use Rattle.driver.specs.declared.reply.ReplyBody.{ReplyBody}
use Rattle.outbox_core.specs.Contents.{Carried, carried_of}

-- a reply with what it carries, or an error
abbrev pub answer_of : Result (ReplyBody Answer) ErrorKind → Result Carried ErrorKind
answer_of (Ok content) = Ok (carried_of content)
answer_of (Err error) = Err error
