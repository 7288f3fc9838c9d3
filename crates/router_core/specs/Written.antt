-- Bytes that are written to a connection, as they are held.
use Rattle.std.specs.Prelude.{ℕ, List}
use Rattle.router_core.specs.declared.written.Held.{Held}
use Rattle.router_core.specs.declared.written.Held.TheVariants.{Own, Shared}

abbrev pub bytes_held : Held → List ℕ
bytes_held (Own bytes) = bytes.items
bytes_held (Shared bytes) = bytes
