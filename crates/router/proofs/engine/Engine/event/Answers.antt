use Rattle.std.proofs.lemmas.Result.{IfOk-weaker}
use Rattle.router_core.proofs.Registries.{notes_are_own}
use Rattle.router.proofs.OneEvent.{both, served_well, registry_stays}
use Rattle.router.proofs.engine.Engine.event.Goals as goal

pub returns-clause-served : goal.returns-clause-served
returns-clause-served g c =
    both c.serve.result
    (λ actions brought key. served_well g.V.BusView.told g.V.BusView.registry_of g.G.Gate.passes g.V.BusView.alone c.args.self.now c.serve.new.self c.args.event.now actions.items brought key)
    c.serve.ensures.brings c.serve.ensures.key

pub returns-clause-notes : goal.returns-clause-notes
returns-clause-notes g c =
    IfOk-weaker c.serve.result _ _
    (λ actions brought. (notes_are_own g.V.BusView g.G.Gate c.args.self.now c.serve.new.self c.args.event.now actions.items brought).1)
    c.serve.ensures.brings

pub returns-clause-registry : goal.returns-clause-registry
returns-clause-registry g c =
    registry_stays g.V.BusView.told g.V.BusView.registry_of g.G.Gate.passes g.V.BusView.alone c.args.self.now c.serve.new.self c.args.event.now (λ actions. actions.items) c.serve.result c.serve.ensures.brings c.serve.ensures.err
