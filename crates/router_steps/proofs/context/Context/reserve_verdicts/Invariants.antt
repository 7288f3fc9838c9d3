use Rattle.std.proofs.Common.{◌≡◌, ◌≤◌, ◌-◌, vec_len}
use Rattle.router_steps.proofs.context.Context.reserve_verdicts.Given as goal

abbrev pub invariant-loop-self : goal.invariant-loop-self
invariant-loop-self g l = record {
  view : l.self-inside.view ≡ l.initial.self-inside.view;
  gate : l.self-inside.gate ≡ l.initial.self-inside.gate;
  actions : l.self-inside.actions ≡ l.initial.self-inside.actions;
  spare : l.self-inside.spare ≡ l.initial.self-inside.spare;
  room : l.self-inside.room ≡ l.initial.self-inside.room;
  kept : vec_len l.initial.self-inside.verdicts ≤ vec_len l.self-inside.verdicts;
}

abbrev pub decreases-loop-self : goal.decreases-loop-self
decreases-loop-self g l = l.count - l.self-inside.verdicts.len
