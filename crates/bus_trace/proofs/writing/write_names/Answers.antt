use Rattle.std.proofs.Common.{◌≡◌, ◌++◌, ◌∙◌, Bor, List, OnOk, Some, ap, map, subst}
use Rattle.names.specs.Texts.{Text}
use Rattle.seq_bus_core.specs.Answers.{NameList}
use Rattle.trace_lines.specs.Texts.{query_line_text}
use Rattle.trace_lines.specs.TextViews.{lent_text}
use Rattle.bus_trace.proofs.writing.write_names.Goals as goal

pub returns : goal.returns
returns c names is =
    subst
    (λ (ns : List Text). OnOk c.write_query_line.result (c.write_query_line.new.line ≡ c.args.draft.now ++ query_line_text c.args.place c.args.seat c.args.query.now (Some (NameList ns))))
    (ap (λ (lent : List (Bor Text)). map lent_text lent) c.deref.ensures.value ∙ c.in_ok-names.ensures names is) c.write_query_line.ensures
