use Rattle.std.proofs.Common.{◌++◌, take, drop}
use Rattle.std.proofs.KnownBytes.{Appends-trans, Appends-kept}
use Rattle.busd_core.proofs.Known.{moves_front, rest_moves}
use Rattle.busd_core.proofs.transfer.write_whole.Goals as goal
use Rattle.busd_core.proofs.transfer.write_whole.Goals.{in-Ok, in-Err+else-ne}

pub returns-in-Ok-eq0 : goal.returns-in-Ok-eq0
returns-in-Ok-eq0 g c =
    let (done, split, appended) = c.loop.invariant in
    let rest = c.loop.rest.now in
    let n = c.in-Ok-eq0.field-0 in
    (done ++ take n rest, drop n rest, moves_front _ done rest n split, Appends-trans _ _ _ _ _ appended c.in-Ok-eq0.ensures.bytes)

pub returns-then-ne : goal.returns-then-ne
returns-then-ne g c =
    let (done, split, appended) = c.loop.invariant in
    (done, _, split, Appends-kept _ _ _ _ appended c.in-Err.ensures.bytes)

pub loop-preserved : goal.loop-preserved
loop-preserved g c =
    let (done, split, appended) = c.loop.invariant in
    let rest = c.loop.rest.now in
    elim c.match-write.branch [
      | in-Ok w ↦ (done ++ take w.in-Ok.count rest, rw w.rest-is (rest_moves _ done rest w.in-Ok.count split), Appends-trans _ _ _ _ _ appended w.in-Ok.ensures.bytes)
      | in-Err+else-ne w ↦ (done, rw w.rest-is split, Appends-kept _ _ _ _ appended w.in-Err.ensures.bytes)
    ]

pub returns : goal.returns
returns g c =
    let (done, split, appended) = c.loop.invariant in
    (done, _, split, appended)
