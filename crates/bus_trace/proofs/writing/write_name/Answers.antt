use Rattle.std.proofs.Common.{◌≡◌, ◌++◌, OnOk, Some, subst}
use Rattle.names.specs.Texts.{Text}
use Rattle.seq_bus_core.specs.Answers.{OneName}
use Rattle.trace_lines.specs.Texts.{query_line_text}
use Rattle.bus_trace.proofs.writing.write_name.Goals as goal

pub returns : goal.returns
returns c name is =
    subst
    (λ (n : Text). OnOk c.write_query_line.result (c.write_query_line.new.line ≡ c.args.draft.now ++ query_line_text c.args.place c.args.seat c.args.query.now (Some (OneName n))))
    (c.in_ok-name.ensures name is) c.write_query_line.ensures
