-- What the first bytes of a message announce, after "Message Format" of the D-Bus Specification.
use Rattle.std.specs.Prelude.{ℕ, ◌+◌, ◌-◌, ◌%◌, List, take, drop, slice_index, Result, Ok, Err, nat_lt, ◌==◌, if◌then◌else◌}
use Rattle.std.specs.Int.{w32, from_le_bytes, from_be_bytes}
use Rattle.marshal_core.specs.declared.order.Order.{Order}
use Rattle.marshal_core.specs.declared.order.Order.TheVariants as order
use Rattle.marshal_core.specs.Spelling.{max_array_length}
use Rattle.message_core.specs.declared.fault.FrameFault.{FrameFault}
use Rattle.message_core.specs.declared.fault.FrameFault.TheVariants as fault

-- the bytes that tell the order: l and B
abbrev pub order_byte : Order → ℕ
order_byte order.Little = 108
order_byte order.Big = 66

abbrev pub protocol_version : ℕ
protocol_version = 1

-- the bytes before the elements of the field array, and where each part of them stands
abbrev pub fixed_length : ℕ
fixed_length = 16

abbrev pub kind_place : ℕ
kind_place = 1

abbrev pub flags_place : ℕ
flags_place = 2

abbrev pub version_place : ℕ
version_place = 3

abbrev pub body_length_place : ℕ
body_length_place = 4

abbrev pub serial_place : ℕ
serial_place = 8

abbrev pub fields_place : ℕ
fields_place = 12

-- the most bytes of the field array, as of every array
abbrev pub max_fields_length : ℕ
max_fields_length = max_array_length

-- the most bytes of a message
abbrev pub max_message_length : ℕ
max_message_length = 134217728

-- the number in the four bytes at a place
abbrev pub number : Order → ℕ → List ℕ → ℕ
number order.Little place bytes = from_le_bytes w32 (take 4 (drop place bytes))
number order.Big place bytes = from_be_bytes w32 (take 4 (drop place bytes))

-- with the padding to a multiple of eight
abbrev pub padded : ℕ → ℕ
padded n = n + (8 - n % 8) % 8

-- the length of the whole message: the header with its padding, and the body
abbrev pub whole_length : Order → List ℕ → ℕ
whole_length order bytes = fixed_length + padded (number order fields_place bytes) + number order body_length_place bytes

abbrev pub announced_in : ℕ → Order → List ℕ → Result ℕ FrameFault
announced_in limit order bytes =
    if slice_index bytes kind_place == 0 then Err fault.Kind
    else if slice_index bytes version_place == protocol_version then (
    if number order serial_place bytes == 0 then Err fault.Serial
    else if nat_lt max_fields_length (number order fields_place bytes) then Err fault.TooLong
    else if nat_lt limit (whole_length order bytes) then Err fault.TooLong
    else Ok (whole_length order bytes))
    else Err fault.Version

-- The length of the message that these bytes begin, within a limit, or the first fault of its first sixteen bytes.
unfoldable pub announced : ℕ → List ℕ → Result ℕ FrameFault
announced limit bytes =
    if slice_index bytes 0 == order_byte order.Little then announced_in limit order.Little bytes
    else if slice_index bytes 0 == order_byte order.Big then announced_in limit order.Big bytes
    else Err fault.Order
