-- Numbers as bytes, in `byteorder`'s words and in these definitions'.
use Rattle.std.specs.Prelude.{◌≡◌, ℕ, List}
use Rattle.std.specs.Int.{Width, w8, w16, w32, w64, w128, byte_len, from_be_bytes, from_le_bytes}
use Rattle.std.proofs.Common.{arith}
use Rattle.byteorder.specs.Endian.{big_number, little_number}

pub big_reads : (w : Width) (xs : List ℕ) → big_number (byte_len w) xs ≡ from_be_bytes w xs
big_reads w8 xs = omega arith
big_reads w16 xs = omega arith
big_reads w32 xs = omega arith
big_reads w64 xs = omega arith
big_reads w128 xs = omega arith

pub little_reads : (w : Width) (xs : List ℕ) → little_number (byte_len w) xs ≡ from_le_bytes w xs
little_reads w8 xs = omega arith
little_reads w16 xs = omega arith
little_reads w32 xs = omega arith
little_reads w64 xs = omega arith
little_reads w128 xs = omega arith
