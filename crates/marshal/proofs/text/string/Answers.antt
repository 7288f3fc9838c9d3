use Rattle.marshal.proofs.Steps.{string_ok, string_bad}
use Rattle.marshal.proofs.text.string.Goals as goal

pub returns-in-Ok-clause-reads : goal.returns-in-Ok-clause-reads
returns-in-Ok-clause-reads g c =
    string_ok g.O.Endian.order c.args.short c.args.at c.args.bytes.now c.in_ok-len.len c.in_ok-len.at c.in_ok-content.at c.in_ok-len.rest.now c.in_ok-content.rest.now c.in_ok-content.content.now c.in-Ok.text.now c.in_ok-len.ensures.reads c.in_ok-content.ensures.reads c.in-Ok.ensures.cases.0 c.in-Ok.ensures.cases.1

pub returns-in-Err-clause-reads : goal.returns-in-Err-clause-reads
returns-in-Err-clause-reads g c =
    string_bad g.O.Endian.order c.args.short c.args.at c.args.bytes.now c.in_ok-len.len c.in_ok-len.at c.in_ok-content.at c.in_ok-len.rest.now c.in_ok-content.rest.now c.in_ok-content.content.now c.in_ok-len.ensures.reads c.in_ok-content.ensures.reads c.in-Err.ensures.cases.0
