use Rattle.std.proofs.Common.{◌≡◌, length, map, take}
use Rattle.match_rules.specs.FactsView.{argument_of}
use Rattle.trace_words.specs.KeptArguments.{kept_argument}
use Rattle.trace_words.proofs.lending.lent_arguments.Given as goal

abbrev pub invariant-loop-argument : goal.invariant-loop-argument
invariant-loop-argument l = record {
  lent : map argument_of l.lent.items ≡ map kept_argument (take l.argument-index l.arguments);
  filled : length l.lent.items ≡ l.argument-index;
}
