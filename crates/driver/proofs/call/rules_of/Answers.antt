use Rattle.std.proofs.Common.{inl, ap, sym, [], ◌∷◌, length, length-append, arith}
use Rattle.std.specs.Prelude.{option_to_list}
use Rattle.driver.proofs.Monitors.{reads_rule, reads_none, meets_fault}
use Rattle.driver.proofs.call.rules_of.Goals as goal

pub loop-value-preserved : goal.loop-value-preserved
loop-value-preserved c =
    let grown = c.in_ok-push-in-Ok.ensures.ok in (
      omega (arith, c.loop-value.invariant.0, ap length grown, length-append c.loop-value.rules (c.in-Ok.rule ∷ [])),
      reads_rule c.args.texts.now c.loop-value.value-index c.value-item.result c.in-Some.text.now c.loop-value.rules c.push.new.self c.in-Ok.rule c.loop-value-test.true c.value-item.is
          (ap option_to_list (sym c.in-Some.ensures)) c.in-Ok.ensures c.loop-value.invariant.1 grown,
    )

pub loop-value-preserved-in_default : goal.loop-value-preserved-in_default
loop-value-preserved-in_default c = (
  omega (arith, c.loop-value.invariant.0),
  reads_none c.args.texts.now c.loop-value.value-index c.value-item.result c.loop-value.rules c.loop-value-test.true c.value-item.is
      (ap option_to_list (sym c.in_default.ensures)) c.loop-value.invariant.1,
)

pub returns-in-Err : goal.returns-in-Err
returns-in-Err c =
    inl (meets_fault c.args.texts.now c.loop-value.value-index c.value-item.result c.in-Some.text.now c.in-Err.fault c.loop-value-test.true c.value-item.is
    (ap option_to_list (sym c.in-Some.ensures)) c.in-Err.ensures)
