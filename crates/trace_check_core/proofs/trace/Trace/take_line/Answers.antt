use Rattle.std.proofs.Common.{◌≡◌, Some, option_map, refl, sym, ap, ◌∙◌}
use Rattle.trace_lines.specs.Lines.{Line, line_of}
use Rattle.trace_check_core.proofs.HeldTraces.{held_line}
use Rattle.trace_check_core.proofs.LineLaws.{line_seated}
use Rattle.trace_check_core.proofs.trace.Trace.take_line.Goals as goal

pub invariant_of-self-2 : goal.invariant_of-self-2
invariant_of-self-2 c =
    let read : line_of c.self.inside.routers c.args.text.now ≡ Some c.in-Some.line = sym c.in_ok-line.ensures ∙ ap (option_map (λ (l : Line). l)) c.in-Some.is in
    held_line c.self.inside _ c.in-Some.line c.self.invariant (line_seated c.self.inside.routers c.args.text.now c.in-Some.line read)
    refl refl c.in_ok-push.ensures.items refl
