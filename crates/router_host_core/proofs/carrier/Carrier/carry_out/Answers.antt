use Rattle.std.proofs.Common.{◌∙◌, reverse}
use Rattle.router_host_core.specs.Carrying.{IsCarriedOut}
use Rattle.router_core.specs.Deeds.{CarriesOwn}
use Rattle.router_host_core.proofs.Steps.{one_more, own_more}
use Rattle.router_host_core.proofs.carrier.Carrier.carry_out.Goals as goal

pub loop-action-preserved : goal.loop-action-preserved
loop-action-preserved g c =
    let older = c.loop-action.actions.items in
    let rest = c.pop.new.self.items in (
      one_more (IsCarriedOut g.P.Post.puts g.P.Post.refuses g.P.Post.starts) older rest (reverse c.args.actions.now.items) c.in-Some.action c.in-Some.ensures.items c.loop-action.self c.act.new.self c.args.self.now c.loop-action.invariant.0 c.in_default-act.ensures.done,
      (own_more (CarriesOwn g.V.BusView.registry_of (g.P.Post.registry c.args.self.now.post)) older rest c.in-Some.action c.in-Some.ensures.items c.loop-action.invariant.1).1,
      c.act.ensures.registry ∙ c.loop-action.invariant.2,
    )
