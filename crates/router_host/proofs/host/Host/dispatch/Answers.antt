use Rattle.router_host.proofs.host.Host.dispatch.Goals as goal

pub returns-clause-happens : goal.returns-clause-happens
returns-clause-happens g c = record {
  between = c.begin_event.new.self;
  catches_up = c.in_ok-begin_event.ensures.catches_up;
  none_left = c.in_ok-begin_event.ensures.ok;
  actions = c.in_ok-actions.actions.items;
  brings = rw (c.carry_out.ensures.engine, ← c.self.view_is) c.in_ok-actions.ensures.brings;
  serves = rw (c.carry_out.ensures.engine, ← c.self.view_is) c.in_ok-actions.ensures.served;
  carried = rw (← c.self.view_is) c.carry_out.ensures.goes_on;
  kept = rw (← c.self.view_is) c.carry_out.ensures.kept;
}
