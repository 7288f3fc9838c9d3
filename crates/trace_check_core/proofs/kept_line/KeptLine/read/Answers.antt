use Rattle.std.proofs.Common.{◌≡◌, ◌≤◌, Some, option_map, refl, sym, ap, ◌∙◌, arith}
use Rattle.trace_lines.specs.LineViews.{line_told}
use Rattle.trace_lines.specs.Lines.{line_of}
use Rattle.trace_check_core.proofs.KeptLaws.{kept_as}
use Rattle.trace_check_core.proofs.LineLaws.{line_seated}
use Rattle.trace_check_core.proofs.kept_line.KeptLine.read.Goals as goal

pub overflow_cast-result : goal.overflow_cast-result
overflow_cast-result c =
    let read : line_of c.args.routers c.args.text.now ≡ Some (line_told c.in-Some.line) = sym c.in_ok-line.ensures ∙ ap (option_map line_told) c.in-Some.is in
    let seat : c.in-Some.line.seat ≤ c.args.routers = (line_seated c.args.routers c.args.text.now (line_told c.in-Some.line) read).seated in
    record { fits = omega (arith, seat, c.requires) }

pub invariant_of-result : goal.invariant_of-result
invariant_of-result c =
    let read : line_of c.args.routers c.args.text.now ≡ Some (line_told c.in-Some.line) = sym c.in_ok-line.ensures ∙ ap (option_map line_told) c.in-Some.is in
    kept_as _ (line_told c.in-Some.line) c.requires read refl refl c.number_made.ensures
