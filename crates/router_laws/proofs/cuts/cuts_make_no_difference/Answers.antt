use Rattle.router_laws.proofs.cuts.cuts_make_no_difference.Goals as goal
use Rattle.router_laws.proofs.Recutting.{bytes_come_whenever, lines_are_not_served, pieces_are_joined, short_messages_wait, turns_leave_out}

-- src/cuts.rt:11:1
pub returns-clause-joined : goal.returns-clause-joined
returns-clause-joined c = pieces_are_joined

-- src/cuts.rt:11:1
pub returns-clause-waiting : goal.returns-clause-waiting
returns-clause-waiting c = short_messages_wait

-- src/cuts.rt:11:1
pub returns-clause-lines : goal.returns-clause-lines
returns-clause-lines c = lines_are_not_served

-- src/cuts.rt:11:1
pub returns-clause-whenever : goal.returns-clause-whenever
returns-clause-whenever c = bytes_come_whenever

-- src/cuts.rt:11:1
pub returns-clause-turns : goal.returns-clause-turns
returns-clause-turns c = turns_leave_out
