use Rattle.std.proofs.Common.{◌≡◌, List, ℕ, None, Some, Option, sym, ap, ◌∙◌, subst}
use Rattle.sasl.specs.declared.fault.AuthenticationFault.{AuthenticationFault}
use Rattle.router_core.specs.Standing.{Authenticating}
use Rattle.router_steps.specs.Stages.{stage_of}
use Rattle.router_steps.specs.Turns.{IsConversed}
use Rattle.router_steps.proofs.Answering.{conversed_at, goes_on, fails}
use Rattle.router_steps.proofs.context.Context.hear.Goals as goal

pub returns-in-None-clause-comes : goal.returns-in-None-clause-comes
returns-in-None-clause-comes g c =
    let p = c.args.peer.now in
    let q = c.converse-sent.new.self in
    let server = c.in-Authenticating.field-0.value in
    let piece = c.args.piece.now.items in
    let sent = c.converse-sent.result.sent.items in
    let is : p.stage ≡ Authenticating server.setting server.state = sym c.stage.ensures ∙ ap stage_of c.in-Authenticating.is in
    let turn : IsConversed p p.stage piece sent None q = subst (λ (f : Option AuthenticationFault). IsConversed p p.stage piece sent f q) c.in-None.is
    (subst (λ (l : List ℕ). IsConversed p p.stage l sent c.converse-sent.result.fault q) c.as_slice.ensures.value c.converse-sent.ensures.turn) in
    let came = conversed_at p q server.setting server.state piece sent None is turn in
    goes_on g.V.BusView g.G.Gate c.args.key server.setting server.state piece p is sent c.args.self.now.world c.answer.new.self.world q came.0 c.answer.ensures.sent

pub returns-in-Some-clause-comes : goal.returns-in-Some-clause-comes
returns-in-Some-clause-comes g c =
    let p = c.args.peer.now in
    let r = c.converse-sent.new.self in
    let server = c.in-Authenticating.field-0.value in
    let piece = c.args.piece.now.items in
    let sent = c.converse-sent.result.sent.items in
    let fault = c.in-Some.fault in
    let is : p.stage ≡ Authenticating server.setting server.state = sym c.stage.ensures ∙ ap stage_of c.in-Authenticating.is in
    let turn : IsConversed p p.stage piece sent (Some fault) r = subst (λ (f : Option AuthenticationFault). IsConversed p p.stage piece sent f r) c.in-Some.is
    (subst (λ (l : List ℕ). IsConversed p p.stage l sent c.converse-sent.result.fault r) c.as_slice.ensures.value c.converse-sent.ensures.turn) in
    let came = conversed_at p r server.setting server.state piece sent (Some fault) is turn in
    fails g.V.BusView g.G.Gate c.args.key server.setting server.state piece p is sent fault c.args.self.now.world c.answer.new.self.world c.close_peer.new.self.world r c.close_peer.new.peer
    came.0 came.1 c.converse-sent.ensures.conn c.answer.ensures.sent c.close_peer.ensures.comes
