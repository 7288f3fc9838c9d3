use Rattle.std.proofs.Common.{◌≡◌, None, Some, map, option_map, sym, ap, ◌∙◌, rules}
use Rattle.trace_lines.specs.Lines.{Line}
use Rattle.trace_check_core.specs.Placing.{lines_by_place, place_seen}
use Rattle.trace_check_core.specs.Traces.{Trace}
use Rattle.trace_check_core.specs.Verdicts.{misplaced}
use Rattle.trace_check_core.specs.Walks.{line_at}
use Rattle.trace_check_core.proofs.BusBefore.{few_places, line_within}
use Rattle.trace_check_core.proofs.telling.told_in.Goals as goal

pub told_there-requires-clause-within : goal.told_there-requires-clause-within
told_there-requires-clause-within c =
    let t : Trace = c.args.trace.now in
    let line : Line = c.in-Some.line.now in
    let placed : misplaced t ≡ None = search rules in
    let seen : map place_seen c.as_slice.result.now ≡ lines_by_place t = search rules in
    let read : line_at t c.args.number ≡ Some line = sym c.line_at.ensures ∙ ap (option_map (λ l. l.now)) c.in-Some.is in
    few_places t c.as_slice.result.now line.place seen (line_within t c.args.number line placed read)
