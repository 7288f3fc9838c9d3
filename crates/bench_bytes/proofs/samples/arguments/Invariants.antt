use Rattle.std.proofs.Common.{◌≡◌, ◌*◌, length}
use Rattle.bench_bytes.proofs.samples.arguments.Given as goal

-- so many arguments were appended
abbrev pub invariant-loop : goal.invariant-loop
invariant-loop l = length l.body.items ≡ 48 * l.counter
