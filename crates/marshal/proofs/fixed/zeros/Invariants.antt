use Rattle.std.proofs.Common.{◌≡◌, ◌-◌, ◌+◌, length}
use Rattle.marshal_core.specs.Reading.{zeros_at}
use Rattle.marshal.proofs.fixed.zeros.Given as goal

abbrev pub invariant-loop : goal.invariant-loop
invariant-loop l = record { reads : zeros_at (l.count - l.counter) l.short l.rest ≡ zeros_at l.count l.short l.bytes; place : l.counter + length l.rest ≡ length l.bytes }
