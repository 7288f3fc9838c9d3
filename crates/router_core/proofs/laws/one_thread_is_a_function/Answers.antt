use Rattle.router_core.proofs.Functions.{one_thread_is_a_function}
use Rattle.router_core.proofs.laws.one_thread_is_a_function.Goals as goal

pub returns : goal.returns
returns c = one_thread_is_a_function
