-- The numbers of the replies. (D-Bus Specification: "org.freedesktop.DBus.RequestName",
-- "org.freedesktop.DBus.ReleaseName")
use Rattle.std.specs.Prelude.{ℕ}
use Rattle.owner_queues.specs.declared.reply.Reply.{Reply}
use Rattle.owner_queues.specs.declared.reply.Reply.TheVariants.{PrimaryOwner, InQueue, Exists, AlreadyOwner, Released, NonExistent, NotOwner}

abbrev pub code_of : Reply → ℕ
code_of PrimaryOwner = 1
code_of InQueue = 2
code_of Exists = 3
code_of AlreadyOwner = 4
code_of Released = 1
code_of NonExistent = 2
code_of NotOwner = 3
