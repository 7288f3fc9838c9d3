-- Lines that are kept as texts.
use Rattle.std.proofs.Common.{◌≡◌, ◌≤◌, Option, Some, unwrap_or, sym, ap, ◌∙◌, subst}
use Rattle.seq_bus_core.specs.Histories.{max_routers}
use Rattle.trace_lines.specs.Lines.{Line, line_of}
use Rattle.trace_check_core.specs.KeptLines.{IsKept, IsSeated, line_in, no_line}
use Rattle.trace_check_core.specs.Legality.{number_made}
use Rattle.trace_check_core.specs.declared.kept_line.KeptLine.TheInside.{Inside}
use Rattle.trace_check_core.proofs.LineLaws.{line_seated}

pub kept_as : (k : Inside) (l : Line) → k.routers ≤ max_routers → line_of k.routers k.text.now ≡ Some l → k.place ≡ l.place → k.seat ≡ l.seat → k.number ≡ number_made l.subject → IsKept k
kept_as k l few read place seat number =
    let is : line_in k ≡ l = ap (λ (o : Option Line). unwrap_or o no_line) read in
    record {
      few_routers = few;
      read = read ∙ ap Some (sym is);
      place = place ∙ ap (λ (m : Line). m.place) (sym is);
      seat = seat ∙ ap (λ (m : Line). m.seat) (sym is);
      number = number ∙ ap (λ (m : Line). number_made m.subject) (sym is);
      seated = subst (IsSeated k.routers) (sym is) (line_seated k.routers k.text.now l read);
    }
