-- What a yes says.
use Rattle.std.proofs.Common.{◌≡◌, ℕ, List, sym, ◌∙◌, ap}
use Rattle.std.specs.Prelude.{◌↔◌, IfOk, Result, Ok, Err}
use Rattle.std.specs.declared.alloc.AllocError.{AllocError}
use Rattle.trace_check_core.specs.Legality.{IsLegalWithLines}
use Rattle.trace_check_core.specs.Traces.{Trace, trace_of}
use Rattle.trace_check_core.specs.Verdicts.{verdict_of_file, verdict_on, verdict_read}
use Rattle.trace_check_core.specs.declared.verdict.Verdict.{Verdict}
use Rattle.trace_check_core.specs.declared.verdict.Verdict.TheVariants.{Yes}
use Rattle.trace_check_core.proofs.LegalityLaws.{legal_traces_get_a_yes}

-- the verdict on the trace that a file is
pub yes_exactly : (file : List ℕ) (t : Trace) (judged : Result Verdict AllocError) → trace_of file ≡ Ok t → IfOk judged (λ verdict. verdict ≡ verdict_on t) →
    IfOk judged (λ verdict. (lines : ℕ) → (verdict ≡ Yes lines) ↔ IsLegalWithLines file lines)
yes_exactly file t (Ok verdict) read is =
    let same : verdict ≡ verdict_of_file file = is ∙ ap verdict_read (sym read) in
    λ lines. (λ yes. (legal_traces_get_a_yes file lines).0 (sym same ∙ yes), λ legal. same ∙ (legal_traces_get_a_yes file lines).1 legal)
yes_exactly file t (Err error) read is = tt
