use Rattle.std.proofs.Common.{◌≡◌, ◌≤◌, [], length, map}
use Rattle.trace_words.specs.Cutting.{parts_left}
use Rattle.trace_words.specs.KeptArguments.{kept_argument}
use Rattle.trace_words.specs.Routes.{arguments_from}
use Rattle.trace_words.proofs.arguments.arguments_in.Given as goal

abbrev pub invariant-loop-word : goal.invariant-loop-word
invariant-loop-word l = record {
  read : arguments_from (map kept_argument l.arguments.items) (parts_left l.words) ≡ arguments_from [] (parts_left l.initial.words);
  few : length l.arguments.items ≤ 64;
}

abbrev pub decreases-loop-word : goal.decreases-loop-word
decreases-loop-word l = length (parts_left l.words)
