-- Bodies that are spelled at once.
use Rattle.std.proofs.Common.{◌≡◌, ℕ, ◌<◌, ◌^◌, List, [], refl, sym, append-nil}
use Rattle.std.specs.Int.{w32, to_le_bytes}
use Rattle.marshal_core.specs.declared.order.Order.TheVariants.{Little}
use Rattle.marshal_core.specs.Types.{no_types}
use Rattle.marshal_core.specs.Values.{no_values}
use Rattle.marshal_core.specs.Spelling.{Spells}
use Rattle.driver.specs.OwnMessages.{number_types, number_values}

pub nothing : Spells Little 0 no_types no_values []
nothing = (refl, refl)

pub number_spelled : (n : ℕ) (bytes : List ℕ) → n < 2 ^ 32 → bytes ≡ to_le_bytes w32 n → Spells Little 0 number_types (number_values n) bytes
number_spelled n bytes small e = (refl, (bytes, [], (refl, small, e), refl, sym (append-nil bytes)))
