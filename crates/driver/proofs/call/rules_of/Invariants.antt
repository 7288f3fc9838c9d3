-- The texts so far are those of the rules so far.
use Rattle.std.proofs.Common.{◌≤◌, length, take}
use Rattle.marshal_core.specs.Values.{values_of}
use Rattle.driver.specs.Arguments.{texts_of}
use Rattle.driver.specs.Calls.{AreRuleTexts}
use Rattle.driver.proofs.call.rules_of.Given as goal

abbrev pub invariant-loop-value : goal.invariant-loop-value
invariant-loop-value l = (length l.rules ≤ l.value-index) × AreRuleTexts (texts_of (values_of (take l.value-index l.texts))) l.rules
