use Rattle.std.proofs.Common.{ap, sym, subst, ◌∙◌}
use Rattle.message_core.specs.Said.{said}
use Rattle.driver.specs.declared.call.Call.{Call}
use Rattle.driver.specs.declared.call.Call.TheVariants.{AddMatch, RemoveMatch}
use Rattle.router_core.specs.Scripts.{Comes}
use Rattle.router_core.specs.Serving.{request_of, serving_request}
use Rattle.router.proofs.calls.serve_request.Goals as goal

pub returns-in-RequestName-clause-comes : goal.returns-in-RequestName-clause-comes
returns-in-RequestName-clause-comes g c =
    subst (λ (call : Call). Comes g.V.BusView.told g.V.BusView.registry_of g.G.Gate.passes g.V.BusView.alone (serving_request (said c.args.message.now) c.args.caller (request_of c.args.caller.number call)) c.args.context.now.world c.request_name.result c.request_name.new.context.world)
    (sym c.in-RequestName.is) c.request_name.ensures.comes

pub returns-in-AddMatch-clause-comes : goal.returns-in-AddMatch-clause-comes
returns-in-AddMatch-clause-comes g c =
    subst (λ (call : Call). Comes g.V.BusView.told g.V.BusView.registry_of g.G.Gate.passes g.V.BusView.alone (serving_request (said c.args.message.now) c.args.caller (request_of c.args.caller.number call)) c.args.context.now.world c.add_match.result c.add_match.new.context.world)
    (ap AddMatch c.get.ensures ∙ sym c.in-AddMatch.is) c.add_match.ensures.comes

pub returns-in-RemoveMatch-clause-comes : goal.returns-in-RemoveMatch-clause-comes
returns-in-RemoveMatch-clause-comes g c =
    subst (λ (call : Call). Comes g.V.BusView.told g.V.BusView.registry_of g.G.Gate.passes g.V.BusView.alone (serving_request (said c.args.message.now) c.args.caller (request_of c.args.caller.number call)) c.args.context.now.world c.remove_match.result c.remove_match.new.context.world)
    (ap RemoveMatch c.get-in-RemoveMatch.ensures ∙ sym c.in-RemoveMatch.is) c.remove_match.ensures.comes
