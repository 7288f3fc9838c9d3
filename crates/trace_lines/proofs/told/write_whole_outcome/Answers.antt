use Rattle.std.proofs.lemmas.Result.{on_ok_weaker}
use Rattle.trace_lines.proofs.WrittenLists.{outcome_told}
use Rattle.trace_lines.proofs.told.write_whole_outcome.Goals as goal

pub returns : goal.returns
returns c =
    on_ok_weaker c.write_told.result
    (outcome_told c.args.draft.now c.write_told.new.draft c.args.outcome.now c.as_slice-tickets.result.now c.as_slice-tickets.ensures)
    c.write_told.ensures
