use Rattle.std.proofs.Common.{inl}
use Rattle.marshal_core.specs.Values.{values_of}
use Rattle.driver.proofs.Monitors.{too_many, few_enough, refused_by, allowed_or}
use Rattle.driver.proofs.call.monitor_rules_in.Goals as goal

pub returns-then-texts-gt-MAX : goal.returns-then-texts-gt-MAX
returns-then-texts-gt-MAX c =
    inl (refused_by _ (values_of c.in-Some.texts.now) c.in-Some.flags _ c.in-Some.ensures (too_many c.in-Some.texts.now c.in-Some.flags c.if-flags-ne0.false c.if-texts-gt-MAX.true))

pub returns : goal.returns
returns c =
    allowed_or _ (values_of c.in-Some.texts.now) c.in-Some.flags c.rules_of.result c.in-Some.ensures (few_enough c.in-Some.texts.now c.in-Some.flags c.if-flags-ne0.false c.if-texts-gt-MAX.false) c.rules_of.ensures
