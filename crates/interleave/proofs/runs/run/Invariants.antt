use Rattle.std.proofs.Common.{take}
use Rattle.interleave_core.specs.Promises.{moment_of}
use Rattle.interleave_core.specs.Worlds.{first_moment, log_of}
use Rattle.interleave.specs.Playing.{IsPlayed}
use Rattle.interleave.proofs.runs.run.Given as goal

-- the first of the steps were taken
abbrev pub invariant-loop-step : goal.invariant-loop-step
invariant-loop-step l =
    IsPlayed (moment_of l.world (take l.step-index l.steps)) (log_of (first_moment l.world) (take l.step-index l.steps)) l.play
