use Rattle.std.proofs.Common.{◌≡◌, length}
use Rattle.std.specs.List.{list_all}
use Rattle.trace_words.specs.Cutting.{parts_left}
use Rattle.trace_words.specs.Recorded.{is_ticket}
use Rattle.trace_words.proofs.recorded.is_tickets.Given as goal

abbrev pub invariant-loop-ticket : goal.invariant-loop-ticket
invariant-loop-ticket l = list_all is_ticket (parts_left l.tickets) ≡ list_all is_ticket (parts_left l.initial.tickets)

abbrev pub decreases-loop-ticket : goal.decreases-loop-ticket
decreases-loop-ticket l = length (parts_left l.tickets)
