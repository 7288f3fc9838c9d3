use Rattle.std.proofs.Common.{◌≡◌, ◌++◌, Bool, OnOk, Some, subst}
use Rattle.seq_bus_core.specs.Answers.{HasOwner}
use Rattle.trace_lines.specs.Texts.{query_line_text}
use Rattle.bus_trace.proofs.writing.write_whether.Goals as goal

pub returns : goal.returns
returns c owned is =
    subst
    (λ (o : Bool). OnOk c.write_query_line.result (c.write_query_line.new.line ≡ c.args.draft.now ++ query_line_text c.args.place c.args.seat c.args.query.now (Some (HasOwner o))))
    (c.read_whether-owned.ensures owned is) c.write_query_line.ensures
