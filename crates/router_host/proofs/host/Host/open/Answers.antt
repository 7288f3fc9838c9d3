use Rattle.std.proofs.Common.{refl, sym, ap, ◌∙◌, ◌<◌, length, subst}
use Rattle.std.proofs.lemmas.List.{append-nil}
use Rattle.router_host.specs.Doing.{with_lines}
use Rattle.router_host.proofs.host.Host.open.Goals as goal

pub returns-in_default-clause-err : goal.returns-in_default-clause-err
returns-in_default-clause-err g c = record {
  between = c.catch_up.new.self;
  catches_up = c.catch_up.ensures.catches_up;
  places = 0;
  is = ap (with_lines c.catch_up.new.self) (sym (append-nil c.catch_up.new.self.carried.lines));
}

pub returns-in_default-make_room-clause-err : goal.returns-in_default-make_room-clause-err
returns-in_default-make_room-clause-err g c = record {
  between = c.catch_up.new.self;
  catches_up = c.catch_up.ensures.catches_up;
  places = c.make_room.ensures.places.0;
  is = rw (← c.self.view_is, ← c.self-inside.view_is, c.make_room.ensures.places.1) refl;
}

pub carry_out-requires-clause-own : goal.carry_out-requires-clause-own
carry_out-requires-clause-own g c = rw (c.open.ensures.registry) c.in-Ok-open.ensures.notes

pub returns-in-Ok-open-clause-opens : goal.returns-in-Ok-open-clause-opens
returns-in-Ok-open-clause-opens g c = record {
  between = with_lines c.catch_up.new.self c.make_room.new.self;
  makes_room = record {
    between = c.catch_up.new.self;
    catches_up = c.catch_up.ensures.catches_up;
    places = c.make_room.ensures.places.0;
    is = ap (with_lines c.catch_up.new.self) (rw (← c.self.view_is, ← c.self-inside.view_is) c.make_room.ensures.places.1);
  };
  none_left = c.in-Ok.ensures.ok;
  next = rw (← c.self.view_is, ← c.self-inside.view_is) c.in-Ok-open.ensures.key;
  has_place = subst (λ key. key < length c.make_room.new.self) (c.free_key-key.ensures.0 ∙ sym c.in-Ok-open.ensures.key.0) c.in-Ok-make_room.ensures.ok;
  actions = c.in-Ok-open.field-0.actions.items;
  brings = rw (c.carry_out.ensures.engine, ← c.self.view_is, ← c.self-inside.view_is) c.in-Ok-open.ensures.brings;
  serves = rw (c.carry_out.ensures.engine, ← c.self.view_is, ← c.self-inside.view_is) c.in-Ok-open.ensures.served;
  carried = rw (← c.self.view_is, ← c.self-inside.view_is, ← c.open-in-Ok-open.ensures) c.carry_out.ensures.goes_on;
  kept = rw (← c.self.view_is, ← c.self-inside.view_is) c.carry_out.ensures.kept;
}

pub returns-in-Err-clause-err : goal.returns-in-Err-clause-err
returns-in-Err-clause-err g c = record {
  between = c.catch_up.new.self;
  catches_up = c.catch_up.ensures.catches_up;
  places = c.make_room.ensures.places.0;
  is = rw (← c.self.view_is, ← c.self-inside.view_is, c.in-Err.ensures.err, c.make_room.ensures.places.1) refl;
}
