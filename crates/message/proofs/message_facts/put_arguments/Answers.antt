use Rattle.std.proofs.Common.{List, map, is_ok, ap, sym, ◌∙◌, ◌++◌}
use Rattle.std.specs.Prelude.{Result}
use Rattle.marshal_core.specs.declared.fault.MarshalFault.{MarshalFault}
use Rattle.marshal_core.specs.Types.{Tys}
use Rattle.marshal_core.specs.Signatures.{signature_of}
use Rattle.marshal_core.proofs.TypesAgain.{signature_again}
use Rattle.marshal_check.specs.Arguments.{BodyArgument, arguments}
use Rattle.marshal_check.specs.ArgumentViews.{checked_left}
use Rattle.match_rules.specs.FactsView.{argument_of}
use Rattle.message_core.specs.Said.{said}
use Rattle.message.specs.FactsOf.{as_argument}
use Rattle.message_core.proofs.SignedBodies.{spelled_there}
use Rattle.message.proofs.ArgumentLemmas.{first_full, first_all}
use Rattle.message.proofs.message_facts.put_arguments.Goals as goal

pub invariant_of-types : goal.invariant_of-types
invariant_of-types g c =
    record { valid = ap (λ (r : Result Tys MarshalFault). is_ok r) (ap signature_of c.signature.ensures ∙ signature_again (said c.args.message.now).types c.parts_of-parts.ensures.lies.spelled.0) }

pub new-argument-items-requires : goal.new-argument-items-requires
new-argument-items-requires g c =
    let m = said c.args.message.now in
    let p = c.parts_of-parts in
    (m.body, spelled_there m.order p.result.order c.signature.result.now p.result.body.now m.types m.body p.ensures.order c.signature.ensures p.ensures.lies.spelled)

pub returns-then-is_full : goal.returns-then-is_full
returns-then-is_full g c =
    let m = said c.args.message.now in
    let p = c.parts_of-parts in
    let values = c.new-argument-items.ensures m.body (spelled_there m.order p.result.order c.signature.result.now p.result.body.now m.types m.body p.ensures.order c.signature.ensures p.ensures.lies.spelled) in
    let all = ap (λ i. map as_argument (checked_left i)) c.into_iter-argument-iterator.ensures.into_iter_gives ∙ ap (λ (xs : List BodyArgument). map as_argument xs) values in
    first_full g.row.N c.loop-argument.first.items (map as_argument (checked_left c.loop-argument.argument-iterator)) (map as_argument (arguments m.body)) (c.loop-argument.invariant.all ∙ all) (sym c.is_full.ensures.value ∙ c.if-is_full.true)

pub returns : goal.returns
returns g c =
    let m = said c.args.message.now in
    let p = c.parts_of-parts in
    let lent = c.loop-argument.first.items in
    let values = c.new-argument-items.ensures m.body (spelled_there m.order p.result.order c.signature.result.now p.result.body.now m.types m.body p.ensures.order c.signature.ensures p.ensures.lies.spelled) in
    let all = ap (λ i. map as_argument (checked_left i)) c.into_iter-argument-iterator.ensures.into_iter_gives ∙ ap (λ (xs : List BodyArgument). map as_argument xs) values in
    let none = ap (λ (xs : List BodyArgument). map argument_of lent ++ map as_argument xs) (sym c.in-None.ensures.steps.0) in
    first_all g.row.N lent (map as_argument (arguments m.body)) (none ∙ c.loop-argument.invariant.all ∙ all) c.loop-argument.invariant.room
