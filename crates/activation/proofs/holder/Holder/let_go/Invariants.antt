use Rattle.std.proofs.Common.{◌≡◌, ◌+◌, length, map}
use Rattle.std.specs.VecDeque.{deque_capacity}
use Rattle.activation.proofs.Rounds.{Round}
use Rattle.activation.proofs.holder.Holder.let_go.Given as goal

abbrev pub invariant-loop-place : goal.invariant-loop-place
invariant-loop-place g l = record {
  round : Round g.row.T.Denot l.name l.fate (map (λ w. record { name = w.name; what = w.what }) l.initial.self-inside.held.items) l.initial.self-inside.given.items l._place (map (λ w. record { name = w.name; what = w.what }) l.self-inside.held.items) l.self-inside.given.items;
  held_room : deque_capacity l.self-inside.held ≡ deque_capacity l.initial.self-inside.held;
  given_room : deque_capacity l.self-inside.given ≡ deque_capacity l.initial.self-inside.given;
  both : length l.self-inside.held.items + length l.self-inside.given.items ≡ length l.initial.self-inside.held.items + length l.initial.self-inside.given.items;
}
