use Rattle.std.proofs.Common.{◌≡◌, ℕ, Bool, ◌+◌, ◌-◌, ◌*◌, ◌/◌, not, false, sym, ◌∙◌, arith, ap}
use Rattle.std.specs.List.{find, range_with_len}
use Rattle.seq_bus_core.specs.Steps.{is_taken}
use Rattle.registry.proofs.Slots.{find_later}
use Rattle.registry.proofs.registry.Registry.free_slot.Goals as goal

pub loop-slot-preserved : goal.loop-slot-preserved
loop-slot-preserved c =
    let count = 256 / c.from.result in
    let end = (c.from-2.result - 1) * count + count in
    let slot = c.loop-slot.slot in
    let free : ℕ → Bool = λ k. not (is_taken c.args.self.now k) in
    let taken : free slot ≡ false = ap not (sym c.if-not-is_taken.ensures) in
    let left : end - slot - 1 ≡ end - (slot + 1) = omega arith in
    c.loop-slot.invariant ∙ find_later free slot (end - slot) (omega (arith, c.loop-slot-test.true)) taken
    ∙ ap (λ n. find free (range_with_len (slot + 1) n)) left
