-- Lists of names as a trace has them.
use Rattle.std.specs.Prelude.{[], ◌++◌, codes, if◌then◌else◌}
use Rattle.names.specs.Texts.{Text}
use Rattle.names.specs.UniqueName.{unique_text}
use Rattle.owner_queues.specs.declared.owner.QueuedOwner.{QueuedOwner}
use Rattle.registry_core.specs.declared.connection_entry.ConnectionEntry.{ConnectionEntry}

abbrev pub behind_comma : Text → Text
behind_comma name = codes "," ++ name

-- a connection that is no monitor, by its unique name
abbrev pub client_listed : ConnectionEntry → Text
client_listed m = if m.is_monitor then [] else behind_comma (unique_text m.conn.number)

abbrev pub waiting_listed : QueuedOwner → Text
waiting_listed q = behind_comma (unique_text q.connection)
