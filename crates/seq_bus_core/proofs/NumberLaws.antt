-- No number is given twice.
use Rattle.std.proofs.Common.{arith}
use Rattle.seq_bus_core.specs.Laws.{NumbersOnlyRise, GivesOn}
use Rattle.seq_bus_core.proofs.StepCases.{step_cases}

pub numbers_only_rise : NumbersOnlyRise
numbers_only_rise s seat change =
    let same : GivesOn s s = record { numbers = omega arith; tickets = omega arith; starts = omega arith } in
    step_cases s (GivesOn s)
    (record {
      same = same;
      hello = λ c _ _ _ _. record { numbers = omega arith; tickets = omega arith; starts = omega arith };
      leave = λ _. record { numbers = omega arith; tickets = omega arith; starts = omega arith };
      request = λ _ _ _ _ _ _. record { numbers = omega arith; tickets = omega arith; starts = omega arith };
      release = λ _ _ _. record { numbers = omega arith; tickets = omega arith; starts = omega arith };
      add_match = λ _ _ _ _. record { numbers = omega arith; tickets = omega arith; starts = omega arith };
      remove_match = λ _. record { numbers = omega arith; tickets = omega arith; starts = omega arith };
      monitor = λ _ _. record { numbers = omega arith; tickets = omega arith; starts = omega arith };
      first_ticket = λ _ _ _ _. record { numbers = omega arith; tickets = omega arith; starts = omega arith };
      later_ticket = λ _ _. record { numbers = omega arith; tickets = omega arith; starts = omega arith };
      failed = λ _. record { numbers = omega arith; tickets = omega arith; starts = omega arith };
    }) seat change
