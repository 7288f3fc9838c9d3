use Rattle.std.proofs.Common.{◌<◌, ◌≤◌, true, false, length, arith}
use Rattle.router.proofs.Turnings.{makes_few, makes_many}
use Rattle.router.proofs.peers.Peers.make_joined.Goals as goal

pub returns-then-joints-lt2-clause-comes : goal.returns-then-joints-lt2-clause-comes
returns-then-joints-lt2-clause-comes g c =
    let joints = c.args.joints.now in
    let few : length joints < 2 = omega arith in
    makes_few g.V.BusView.told g.V.BusView.registry_of g.G.Gate.passes g.V.BusView.alone c.args.self.now.standing c.make_each.new.self.standing c.args.self.now.work.world c.make_each.new.self.work.world joints few c.make_each.ensures.comes

pub returns-in_default-clause-comes : goal.returns-in_default-clause-comes
returns-in_default-clause-comes g c =
    let joints = c.args.joints.now in
    let many : 2 ≤ length joints = omega arith in
    let made = c.make_each-in_default in
    makes_many g.V.BusView.told g.V.BusView.registry_of g.G.Gate.passes g.V.BusView.alone c.args.self.now.standing made.new.self.standing c.args.self.now.work.world made.new.self.work.world joints false many made.ensures.comes

pub returns-clause-comes : goal.returns-clause-comes
returns-clause-comes g c =
    let joints = c.args.joints.now in
    let many : 2 ≤ length joints = omega arith in
    makes_many g.V.BusView.told g.V.BusView.registry_of g.G.Gate.passes g.V.BusView.alone c.args.self.now.standing c.make_batch.new.self.standing c.args.self.now.work.world c.make_batch.new.self.work.world joints true many c.make_batch.ensures.comes
