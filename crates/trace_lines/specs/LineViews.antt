-- How contracts see a line.
use Rattle.trace_lines.specs.declared.line.Subject.{Subject}
use Rattle.trace_lines.specs.declared.line.Subject.TheVariants.{Change, Query, Route}
use Rattle.trace_lines.specs.declared.line.Line.{Line}
use Rattle.trace_words.specs.Cutting.{parts_left}
use Rattle.trace_words.specs.RouteViews.{route_facts}
use Rattle.trace_lines.specs.Lines.{Line as Told, Subject as ToldOf, Made, Asked, Routed, line}

abbrev pub subject_told : Subject → ToldOf
subject_told (Change number change) = Made number change
subject_told (Query query) = Asked query
subject_told (Route route) = Routed (route_facts route)

abbrev pub line_told : Line → Told
line_told l = line l.place l.seat (subject_told l.subject) (parts_left l.recorded)
