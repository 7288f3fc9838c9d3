use Rattle.std.proofs.Common.{ℕ, Option, List, [], ◌∷◌, refl, sym, subst, ◌∙◌}
use Rattle.outbox_core.specs.Contents.{Relays}
use Rattle.router_core.specs.Scripts.{Wanting, putting, Comes}
use Rattle.router_core.specs.Serving.{call_of_ticket, nothing, releasing, start_reply_if, ticket_wants_reply}
use Rattle.router_steps.proofs.Choices.{chosen}
use Rattle.router_steps.proofs.Tellings.{put_to_alone}
use Rattle.router_steps.proofs.context.Context.release.Goals as goal

pub returns-in-Some-clause-comes : goal.returns-in-Some-clause-comes
returns-in-Some-clause-comes g c =
    let told = g.V.BusView.told in
    let registry_of = g.V.BusView.registry_of in
    let passes = g.G.Gate.passes in
    let alone = g.V.BusView.alone in
    let w = c.args.self.now.world in
    let v = c.put.new.self.world in
    let put = put_to_alone told registry_of passes alone _ w v c.args.owner c.one.result [] refl c.one.ensures c.put.ensures.does in
    let same = subst (λ (bytes : List ℕ). Comes told registry_of passes alone (putting (c.args.owner ∷ []) (Relays bytes) nothing) w tt v) c.in-Some.message-is put in
    subst (λ (message : Option (List ℕ)). Comes told registry_of passes alone (releasing c.args.owner c.args.ticket message) w tt v) (sym c.in-Some.is) same

pub returns-then-wants_reply-clause-comes : goal.returns-then-wants_reply-clause-comes
returns-then-wants_reply-clause-comes g c =
    let told = g.V.BusView.told in
    let registry_of = g.V.BusView.registry_of in
    let passes = g.G.Gate.passes in
    let alone = g.V.BusView.alone in
    let w = c.args.self.now.world in
    let v = c.tell_started.new.self.world in
    let t = c.args.ticket in
    let answered = chosen told registry_of passes alone (Wanting (λ granted. start_reply_if t.caller (call_of_ticket t) granted)) nothing w v tt (ticket_wants_reply t) (sym c.wants_reply-wants_reply.ensures ∙ c.if-wants_reply.true) c.tell_started.ensures.comes in
    subst (λ (message : Option (List ℕ)). Comes told registry_of passes alone (releasing c.args.owner t message) w tt v) (sym c.in-None.is) answered
