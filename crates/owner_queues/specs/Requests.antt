-- The flags of a request. (D-Bus Specification: "org.freedesktop.DBus.RequestName")
use Rattle.std.specs.Prelude.{ℕ, Bool, not, ◌==◌}
use Rattle.std.specs.Int.Bits.{bit_and}
use Rattle.owner_queues.specs.declared.request.RequestFlags.{RequestFlags}
use Rattle.owner_queues.specs.declared.request.TheConstants.{ALLOW_REPLACEMENT, REPLACE_EXISTING, DO_NOT_QUEUE}

-- whether a number has a bit
abbrev pub has_bit : ℕ → ℕ → Bool
has_bit bits bit = not (bit_and bits bit == 0)

-- the flags that a number stands for
abbrev pub flags_of : ℕ → RequestFlags
flags_of bits = record {
  allow_replacement = has_bit bits ALLOW_REPLACEMENT;
  replace_existing = has_bit bits REPLACE_EXISTING;
  do_not_queue = has_bit bits DO_NOT_QUEUE;
}
