use Rattle.std.proofs.Common.{Some, ap}
use Rattle.trace_words.proofs.RuleReading.{when_text, when_no_text}
use Rattle.trace_check_core.proofs.reading.utf8.Goals as goal

pub returns-in-Ok : goal.returns-in-Ok
returns-in-Ok c = when_text c.args.bytes.now (Some c.in-Ok.text.now) (Some c.args.bytes.now) c.in-Ok.ensures.cases.1 (ap Some c.in-Ok.ensures.cases.0)

pub returns-in-Err : goal.returns-in-Err
returns-in-Err c = when_no_text c.args.bytes.now (Some c.args.bytes.now) c.in-Err.ensures.cases.0
