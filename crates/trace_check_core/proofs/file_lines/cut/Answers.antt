use Rattle.std.proofs.Common.{List, ◌∷◌, ◌+◌, ◌-◌, ℕ, length, take, take_all, drop, length-drop, sym, ap, ◌∙◌, arith}
use Rattle.trace_check_core.specs.Traces.{lines_of}
use Rattle.trace_check_core.proofs.FileLines.{cut_nowhere, cut_there}
use Rattle.trace_check_core.proofs.file_lines.cut.Goals as goal

pub returns-in-Some-clause-cut : goal.returns-in-Some-clause-cut
returns-in-Some-clause-cut c =
    let bytes : List ℕ = c.args.bytes.now in
    let at : ℕ = c.in-Some.at in
    cut_there bytes at (sym c.line_feed_place.ensures ∙ c.in-Some.is)
    ∙ ap (λ (behind : List ℕ). take at bytes ∷ lines_of behind)
    (sym (take_all (length bytes - (at + 1)) (drop (at + 1) bytes) (omega (arith, length-drop (at + 1) bytes))))

pub returns-in-None-clause-cut : goal.returns-in-None-clause-cut
returns-in-None-clause-cut c = cut_nowhere c.args.bytes.now c.requires (sym c.line_feed_place.ensures ∙ c.in-None.is)
