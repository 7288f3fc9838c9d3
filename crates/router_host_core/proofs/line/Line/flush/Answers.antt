use Rattle.std.proofs.Common.{rules, ◌≡◌, [], inl, inr, refl}
use Rattle.router_host_core.proofs.Rests.{some_waits}
use Rattle.router_host_core.proofs.line.Line.flush.Goals as goal

pub returns-in-Ok-All : goal.returns-in-Ok-All
returns-in-Ok-All g c = let none : c.flush.new.self ≡ [] = search rules in record {
  reached = c.flush.ensures.flushes.reached;
  rest = c.flush.new.self;
  splits = rw (← c.self.view_is) c.flush.ensures.flushes.splits;
  taken = g.S.Sink.taken c.flush.new.sink;
  takes = rw (← c.self.view_is) c.flush.ensures.flushes.takes;
  outcome = inl (none, rw (← c.self.view_is, c.flush.ensures.unread) refl);
}

pub returns-in-Ok-Waits : goal.returns-in-Ok-Waits
returns-in-Ok-Waits g c = record {
  reached = c.flush.ensures.flushes.reached;
  rest = c.flush.new.self;
  splits = rw (← c.self.view_is) c.flush.ensures.flushes.splits;
  taken = g.S.Sink.taken c.flush.new.sink;
  takes = rw (← c.self.view_is) c.flush.ensures.flushes.takes;
  outcome = inr (
    some_waits c.flush.new.self (search rules),
    inl (rw (← c.self.view_is, c.flush.ensures.unread) refl),
  );
}

pub returns-in-BrokenPipe : goal.returns-in-BrokenPipe
returns-in-BrokenPipe g c = record {
  reached = c.flush.ensures.flushes.reached;
  rest = c.flush.new.self;
  splits = rw (← c.self.view_is) c.flush.ensures.flushes.splits;
  taken = g.S.Sink.taken c.flush.new.sink;
  takes = rw (← c.self.view_is) c.flush.ensures.flushes.takes;
  outcome = inr (
    c.in-Err.ensures.failed,
    inr (inr (rw (← c.self.view_is, c.lose.ensures, c.flush.ensures.unread) refl)),
  );
}

pub returns-in_default : goal.returns-in_default
returns-in_default g c = record {
  reached = c.flush.ensures.flushes.reached;
  rest = c.flush.new.self;
  splits = rw (← c.self.view_is) c.flush.ensures.flushes.splits;
  taken = g.S.Sink.taken c.flush.new.sink;
  takes = rw (← c.self.view_is) c.flush.ensures.flushes.takes;
  outcome = inr (
    c.in-Err.ensures.failed,
    inr (inl (rw (← c.self.view_is, c.end.ensures, c.flush.ensures.unread) refl)),
  );
}
