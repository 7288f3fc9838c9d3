use Rattle.names.specs.Member.{member_fault}
use Rattle.names.proofs.Faults.{none_member, member_none, ok_where}
use Rattle.names.proofs.member_name.Member.check.Goals as goal

pub returns-clause-variant : goal.returns-clause-variant
returns-clause-variant c = ok_where (member_fault c.args.text.now) (none_member c.args.text.now) (member_none c.args.text.now) c.check.result c.check.ensures.fault
