use Rattle.std.proofs.Common.{rules, ◌≡◌, sym, ap, ◌∙◌, is_ok, [], ◌∷◌}
use Rattle.std.specs.Prelude.{Result}
use Rattle.marshal_core.specs.declared.fault.MarshalFault.{MarshalFault}
use Rattle.marshal_core.specs.Types.{Tys}
use Rattle.marshal_core.specs.Signatures.{signature_of}
use Rattle.marshal_core.proofs.TypesAgain.{signature_again}
use Rattle.marshal_check.specs.Arguments.{string_argument, path_argument, other_argument}
use Rattle.marshal_check.specs.ArgumentViews.{checked_left, seen}
use Rattle.message_core.specs.Said.{said}
use Rattle.message_core.proofs.SignedBodies.{spelled_there}
use Rattle.driver.proofs.SoleTexts.{no_argument, one_text, more_arguments, path_first, other_first}
use Rattle.driver.proofs.arguments.only_text.Goals as goal

pub invariant_of-types : goal.invariant_of-types
invariant_of-types c =
    record { valid = ap (λ (r : Result Tys MarshalFault). is_ok r) (ap signature_of c.signature.ensures ∙ signature_again (said c.args.message.now).types c.body.ensures.0) }

pub new-arguments-requires : goal.new-arguments-requires
new-arguments-requires c =
    let m = said c.args.message.now in
    (m.body, spelled_there m.order c.order.result c.signature.result.now c.body.result.now m.types m.body c.order.ensures c.signature.ensures c.body.ensures)

pub returns-in-None : goal.returns-in-None
returns-in-None c =
    let m = said c.args.message.now in
    let all = c.new-arguments.ensures m.body (spelled_there m.order c.order.result c.signature.result.now c.body.result.now m.types m.body c.order.ensures c.signature.ensures c.body.ensures) in
    let none : checked_left c.new-arguments.result ≡ [] = search rules in
    no_argument m.body (sym none ∙ all)

pub returns-in-Some-Other : goal.returns-in-Some-Other
returns-in-Some-Other c =
    let m = said c.args.message.now in
    let all = c.new-arguments.ensures m.body (spelled_there m.order c.order.result c.signature.result.now c.body.result.now m.types m.body c.order.ensures c.signature.ensures c.body.ensures) in
    let first : checked_left c.new-arguments.result ≡ other_argument ∷ checked_left c.next.new.self = search rules in
    other_first m.body (checked_left c.next.new.self) (sym first ∙ all)

pub returns-in-Some-ObjectPath : goal.returns-in-Some-ObjectPath
returns-in-Some-ObjectPath c =
    let m = said c.args.message.now in
    let all = c.new-arguments.ensures m.body (spelled_there m.order c.order.result c.signature.result.now c.body.result.now m.types m.body c.order.ensures c.signature.ensures c.body.ensures) in
    let first : checked_left c.new-arguments.result ≡ path_argument c.in-Some-ObjectPath.field-0-0.now ∷ checked_left c.next.new.self = search rules in
    path_first m.body c.in-Some-ObjectPath.field-0-0.now (checked_left c.next.new.self) (sym first ∙ all)

pub returns-in-None-next : goal.returns-in-None-next
returns-in-None-next c =
    let m = said c.args.message.now in
    let all = c.new-arguments.ensures m.body (spelled_there m.order c.order.result c.signature.result.now c.body.result.now m.types m.body c.order.ensures c.signature.ensures c.body.ensures) in
    let first : checked_left c.new-arguments.result ≡ string_argument c.in-Some-String.text.now ∷ checked_left c.next.new.self = search rules in
    let none : checked_left c.next.new.self ≡ [] = search rules in
    one_text m.body c.in-Some-String.text.now (ap (λ others. string_argument c.in-Some-String.text.now ∷ others) (sym none) ∙ sym first ∙ all)

pub returns-in-Some : goal.returns-in-Some
returns-in-Some c =
    let m = said c.args.message.now in
    let all = c.new-arguments.ensures m.body (spelled_there m.order c.order.result c.signature.result.now c.body.result.now m.types m.body c.order.ensures c.signature.ensures c.body.ensures) in
    let first : checked_left c.new-arguments.result ≡ string_argument c.in-Some-String.text.now ∷ checked_left c.next.new.self = search rules in
    let second : checked_left c.next.new.self ≡ seen c.in-Some.field-0 ∷ checked_left c.next-in-Some-String.new.self = search rules in
    more_arguments m.body (string_argument c.in-Some-String.text.now) (seen c.in-Some.field-0) (checked_left c.next-in-Some-String.new.self)
    (ap (λ others. string_argument c.in-Some-String.text.now ∷ others) (sym second) ∙ sym first ∙ all)
