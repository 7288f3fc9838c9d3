use Rattle.std.proofs.Common.{◌≡◌, ◌≤◌, ◌++◌, length}
use Rattle.std.specs.Prelude.{map}
use Rattle.marshal_check.specs.ArgumentViews.{checked_left}
use Rattle.match_rules.specs.FactsView.{argument_of}
use Rattle.message.specs.FactsOf.{as_argument}
use Rattle.message.proofs.message_facts.put_arguments.Given as goal

abbrev pub invariant-loop-argument : goal.invariant-loop-argument
invariant-loop-argument g l = record {
  room : length l.first.items ≤ g.row.N;
  all : map argument_of l.first.items ++ map as_argument (checked_left l.argument-iterator) ≡ map as_argument (checked_left l.initial.argument-iterator);
}
