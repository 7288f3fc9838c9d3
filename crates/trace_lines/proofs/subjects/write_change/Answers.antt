use Rattle.trace_lines.proofs.subjects.write_change.Goals as goal

pub returns-in-RemoveMatch : goal.returns-in-RemoveMatch
returns-in-RemoveMatch c = rw c.in-RemoveMatch.is c.write_ruled-in-RemoveMatch.ensures
