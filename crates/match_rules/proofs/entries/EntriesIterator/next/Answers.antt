use Rattle.std.proofs.Common.{length, ap, arith}
use Rattle.match_rules.proofs.EntryLemmas.{rule_in-step, behind_head}
use Rattle.match_rules.proofs.entries.EntriesIterator.next.Goals as goal

pub returns-clause-steps : goal.returns-clause-steps
returns-clause-steps c =
    rw (c.split_at.ensures.front, c.split_at.ensures.back, c.at-key.ensures, c.min.ensures, behind_head c.args.self.now.bytes.now)
    (rule_in-step c.args.self.now.bytes.now c.if-bytes-lt-HEAD_LENGTH.false)

pub returns-clause-goes : goal.returns-clause-goes
returns-clause-goes c =
    let steps : goal.returns-clause-steps = returns-clause-steps in
    let less = ap (λ entries. length entries) (steps c) in
    record { on = λ _. (tt, tt, omega (arith, less)); keeps = tt; rests = λ _. tt }
