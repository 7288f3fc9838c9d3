use Rattle.router_laws.proofs.Hellos.{hellos_are_of_those_let_in}
use Rattle.router_laws.proofs.logins.hellos_are_of_those_let_in.Goals as goal

pub returns : goal.returns
returns c = hellos_are_of_those_let_in c.nobody_is_let_in_unknown.ensures
