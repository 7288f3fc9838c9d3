use Rattle.trace_check_core.proofs.LegalityLaws.{legal_traces_get_a_yes}
use Rattle.trace_check_core.proofs.laws.legal_traces_get_a_yes.Goals as goal

pub returns : goal.returns
returns c = legal_traces_get_a_yes
