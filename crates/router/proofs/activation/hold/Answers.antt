use Rattle.std.proofs.Common.{true, false, subst}
use Rattle.names.specs.Texts.{Text}
use Rattle.message_core.specs.HeaderFields.{text_field}
use Rattle.message_core.specs.declared.header_field.HeaderField.TheVariants.{Destination}
use Rattle.message_core.specs.Said.{said}
use Rattle.router_core.specs.Scripts.{Comes}
use Rattle.router_core.specs.Serving.{holding_if}
use Rattle.router.proofs.Waits.{waits_for_name}
use Rattle.router.proofs.activation.hold.Goals as goal

pub returns-in-Ok-clause-comes : goal.returns-in-Ok-clause-comes
returns-in-Ok-clause-comes g c =
    let told = g.V.BusView.told in
    let registry_of = g.V.BusView.registry_of in
    let passes = g.G.Gate.passes in
    let alone = g.V.BusView.alone in
    let m = said c.args.message.now in
    let w = c.args.context.now.world in
    let v = c.wait.new.context.world in
    let waits = subst (λ (n : Text). Comes told registry_of passes alone (holding_if m c.args.sender n true) w c.wait.result v) c.in-Ok.ensures.name c.wait.ensures.comes in
    waits_for_name told registry_of passes alone m c.args.sender c.destination.result (text_field Destination m.fields) c.destination.ensures c.in-Some.destination true c.wait.result w v c.in-Some.is waits

pub returns-in-Err-clause-comes : goal.returns-in-Err-clause-comes
returns-in-Err-clause-comes g c =
    let m = said c.args.message.now in
    waits_for_name g.V.BusView.told g.V.BusView.registry_of g.G.Gate.passes g.V.BusView.alone m c.args.sender c.destination.result (text_field Destination m.fields) c.destination.ensures c.in-Some.destination false c.refuse.result
    c.args.context.now.world c.refuse.new.context.world c.in-Some.is c.refuse.ensures.comes
