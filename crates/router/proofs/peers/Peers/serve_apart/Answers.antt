use Rattle.router.proofs.Turnings.{serves_apart}
use Rattle.router.proofs.peers.Peers.serve_apart.Goals as goal

pub returns-clause-comes : goal.returns-clause-comes
returns-clause-comes g c =
    serves_apart g.V.BusView.told g.V.BusView.registry_of g.G.Gate.passes g.V.BusView.alone c.next.result c.args.joints.now.items c.make_all.new.joints.items c.args.key c.args.self.now.standing c.make_all.new.self.standing c.next.new.self.standing c.args.self.now.work.world
    c.make_all.new.self.work.world c.next.new.self.work.world c.make_all.ensures.none c.make_all.ensures.comes c.next.ensures.comes
