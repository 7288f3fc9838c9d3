use Rattle.std.proofs.Common.{◌<◌, length, ◌∙◌, arith}
use Rattle.router.proofs.Turnings.{makes_more}
use Rattle.router.proofs.peers.Peers.make_each.Goals as goal

pub loop-joint-preserved : goal.loop-joint-preserved
loop-joint-preserved g c =
    let joints = c.args.joints.now in
    let at = c.loop-joint in
    let inside : at.joint-index < length joints = omega arith in
    record {
      room = omega arith;
      spare_verdicts = omega arith;
      keys = c.make_one.ensures.keys ∙ at.invariant.keys;
      comes = λ end v later.
          at.invariant.comes end v
          (makes_more g.V.BusView.told g.V.BusView.registry_of g.G.Gate.passes g.V.BusView.alone joints at.joint-index c.joint-item.result inside c.joint-item.is at.self.standing c.make_one.new.self.standing end at.self.work.world c.make_one.new.self.work.world v c.make_one.ensures.comes later);
    }
