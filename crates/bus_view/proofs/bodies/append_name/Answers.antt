use Rattle.std.proofs.Common.{List, ℕ, sym, subst}
use Rattle.names.specs.BusName.{IsBusName}
use Rattle.marshal_core.specs.Spelling.{text_spelling}
use Rattle.marshal_core.specs.declared.order.Order.TheVariants.{Little}
use Rattle.seq_bus_core.specs.Answers.{OneName}
use Rattle.bus_view.specs.Bodies.{IsBody}
use Rattle.bus_view.proofs.BodyLemmas.{name_body}
use Rattle.bus_view.proofs.bodies.append_name.Goals as goal

pub returns-clause-answered : goal.returns-clause-answered
returns-clause-answered c =
    let text = c.as_str.result.now in
    let is : IsBusName text = subst IsBusName (sym c.as_str.ensures.value) c.as_str.ensures.name in
    let body = subst (λ (name : List ℕ). IsBody (OneName name) (text_spelling Little 0 text)) c.as_str.ensures.value (name_body text is c.as_str.utf8) in
    (text_spelling Little 0 text, body, c.in_ok-append_string.ensures.ok)
