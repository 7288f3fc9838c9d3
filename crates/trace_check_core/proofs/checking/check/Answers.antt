use Rattle.std.proofs.Common.{ℕ, sym, ap, ◌∙◌}
use Rattle.std.specs.Prelude.{Result}
use Rattle.std.specs.Result.{result_map_both}
use Rattle.trace_check_core.specs.Traces.{Trace}
use Rattle.trace_check_core.proofs.Yes.{yes_exactly}
use Rattle.trace_check_core.proofs.checking.check.Goals as goal

pub returns-in-Ok-clause-yes : goal.returns-in-Ok-clause-yes
returns-in-Ok-clause-yes c =
    yes_exactly c.args.file.now c.in-Ok.trace c.judge.result
    (sym c.in_ok-trace.ensures ∙ ap (λ (r : Result Trace ℕ). result_map_both (λ (t : Trace). t) (λ (n : ℕ). n) r) c.in-Ok.is) c.judge.ensures
