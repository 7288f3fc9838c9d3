use Rattle.router_laws.proofs.Letting.{each_has_shown}
use Rattle.router_laws.proofs.logins.each_has_shown_who_it_is.Goals as goal

pub returns : goal.returns
returns c = each_has_shown c.nobody_is_let_in_unknown.ensures
