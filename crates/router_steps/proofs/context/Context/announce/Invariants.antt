-- What was put so far and what is left are all signals.
use Rattle.std.proofs.Common.{◌≡◌, ◌+◌, ◌≤◌, length}
use Rattle.std.specs.Vec.Iter.{into_iter_items}
use Rattle.router_core.specs.Deeds.{announcement}
use Rattle.router_core.specs.Scripts.{having_done}
use Rattle.router_steps.proofs.context.Context.announce.Given as goal

abbrev pub invariant-loop-addressed : goal.invariant-loop-addressed
invariant-loop-addressed g l = record {
  room : length (into_iter_items l.addressed-iterator) ≤ l.self.room;
  acted : l.initial.self.room + length (into_iter_items l.addressed-iterator) ≤ l.self.room + length (into_iter_items l.initial.addressed-iterator);
  put : having_done l.self.world (announcement (into_iter_items l.addressed-iterator) l.note) ≡ having_done l.initial.self.world (announcement (into_iter_items l.initial.addressed-iterator) l.note);
  spare : l.self.spare_verdicts ≡ l.initial.self.spare_verdicts;
}
