use Rattle.router_laws.proofs.Letting.{comers_have_said_nothing, hearing_goes_on, others_leave_it_alone}
use Rattle.router_laws.proofs.logins.lines_are_one_conversation.Goals as goal

pub returns-clause-first : goal.returns-clause-first
returns-clause-first c = comers_have_said_nothing

pub returns-clause-on : goal.returns-clause-on
returns-clause-on c = hearing_goes_on c.nobody_is_let_in_unknown.ensures

pub returns-clause-others : goal.returns-clause-others
returns-clause-others c = others_leave_it_alone
