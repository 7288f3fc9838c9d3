use Rattle.std.proofs.Common.{◌∙◌, ◌<◌, ◌++◌, ◌∷◌, [], List, length, take, ap, sym, subst, arith}
use Rattle.std.proofs.lemmas.List.{take_more}
use Rattle.std.proofs.lemmas.List.{take_all}
use Rattle.interleave_core.specs.declared.step.Step.{Step}
use Rattle.interleave_core.specs.Promises.{moment_of}
use Rattle.interleave_core.specs.Worlds.{first_moment, log_of}
use Rattle.interleave_core.proofs.Schedules.{every_schedule}
use Rattle.interleave.specs.Logs.{AreLines}
use Rattle.interleave.specs.Playing.{IsPlayed}
use Rattle.interleave.proofs.RunLemmas.{beginnings_of, played_more}
use Rattle.interleave.proofs.runs.run.Goals as goal

pub loop-step-init : goal.loop-step-init
loop-step-init c = c.in_ok-play.ensures

pub loop-step-preserved : goal.loop-step-preserved
loop-step-preserved c =
    let steps = c.args.steps.now in
    let i = c.loop-step.step-index in
    let x = c.step-item.result in
    let opening = c.args.world.now in
    let lt : i < length steps = omega (arith, c.loop-step-test.true) in
    let grown = take_more steps i x lt ∙ ap (λ (y : Step). take i steps ++ y ∷ []) (sym c.step-item.is) in
    let comes = c.in_ok-take.ensures (moment_of opening (take i steps)) (log_of (first_moment opening) (take i steps)) (beginnings_of opening (take i steps)) c.loop-step.invariant in
    subst (λ (done : List Step). IsPlayed (moment_of opening done) (log_of (first_moment opening) done) c.take.new.self) (sym grown) (played_more opening (take i steps) x c.take.new.self comes)

pub returns-in_err-play-clause-promised : goal.returns-in_err-play-clause-promised
returns-in_err-play-clause-promised c = every_schedule c.args.world.now c.args.steps.now

pub returns-in_err-take-clause-promised : goal.returns-in_err-take-clause-promised
returns-in_err-take-clause-promised c = every_schedule c.args.world.now c.args.steps.now

pub returns-clause-promised : goal.returns-clause-promised
returns-clause-promised c = every_schedule c.args.world.now c.args.steps.now

pub returns-clause-logged : goal.returns-clause-logged
returns-clause-logged c =
    let steps = c.args.steps.now in
    let whole = take_all c.loop-step.step-index steps (omega (arith, c.loop-step-test.false)) in
    subst (λ (done : List Step). AreLines c.loop-step.play.log.items (log_of (first_moment c.args.world.now) done)) whole c.loop-step.invariant.lines
