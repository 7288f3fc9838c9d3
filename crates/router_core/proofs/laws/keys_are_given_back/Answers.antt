use Rattle.router_core.proofs.Keys.{comers_have_their_keys, gone_keys_are_free}
use Rattle.router_core.proofs.laws.keys_are_given_back.Goals as goal

pub returns-clause-come : goal.returns-clause-come
returns-clause-come g c = comers_have_their_keys

pub returns-clause-gone : goal.returns-clause-gone
returns-clause-gone g c = gone_keys_are_free g.V.BusView g.G.Gate
