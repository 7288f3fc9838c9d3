use Rattle.outbox_core.proofs.AnswerLemmas.{carried_again, carries_read, carried_by}
use Rattle.outbox_core.proofs.answer.AnswerBody.new.Goals as goal

pub invariant_of-result : goal.invariant_of-result
invariant_of-result c =
    let told = c.requires.0 in
    let answers = c.requires.1 in
    carries_read (record { kind = c.kind_for.result; bytes = c.args.bytes }) told
    (carried_by c.args.query.now c.args.bytes told answers c.kind_for.result (c.kind_for.ensures answers.state told answers.told_so))

pub returns : goal.returns
returns c told answers = carried_again (record { kind = c.kind_for.result; bytes = c.args.bytes }) told
    (carried_by c.args.query.now c.args.bytes told answers c.kind_for.result (c.kind_for.ensures answers.state told answers.told_so))
