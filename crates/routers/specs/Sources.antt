-- What a router hears of, and the connections that come.
use Rattle.std.specs.Prelude.{ℕ, List, Option}
use Rattle.routers.specs.declared.source.SourceEvent.{SourceEvent}
use Rattle.routers.specs.declared.source.SourceEvent.TheVariants.{Accepted, Readable, Writable, Ended}

-- A connection that comes is asked who it is as those over its socket are.
abbrev pub IsBrought : {S : Type 0} → (asks : S → Option (List ℕ) → Type 0) → SourceEvent S → Type 0
IsBrought asks (Accepted socket challenge) = asks socket challenge
IsBrought asks (Readable key closing) = Unit {0}
IsBrought asks (Writable key) = Unit {0}
IsBrought asks Ended = Unit {0}
