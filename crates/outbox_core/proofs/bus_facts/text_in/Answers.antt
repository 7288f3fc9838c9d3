use Rattle.std.proofs.Common.{rules, ◌≡◌, []}
use Rattle.marshal_check.specs.Arguments.{string_argument, path_argument, other_argument, argument_of}
use Rattle.marshal_check.specs.ArgumentViews.{arguments_left}
use Rattle.bus_view.specs.Bodies.{answer_value}
use Rattle.outbox_core.proofs.SeenTexts.{is_text, left_of, first_left}
use Rattle.outbox_core.proofs.bus_facts.text_in.Goals as goal

pub invariant_of-types : goal.invariant_of-types
invariant_of-types c = record { valid = is_text }

pub returns-in-Some-String : goal.returns-in-Some-String
returns-in-Some-String c =
    let told = c.args.answer.now in
    let left = left_of told c.bytes.result.now (arguments_left c.new-arguments.result) c.requires c.bytes.ensures c.new-arguments.ensures.values in
    first_left (arguments_left c.new-arguments.result) (arguments_left c.next.new.self) (argument_of (answer_value told)) (string_argument c.in-Some-String.text.now) left (search rules)

pub returns-in-Some-ObjectPath : goal.returns-in-Some-ObjectPath
returns-in-Some-ObjectPath c =
    let told = c.args.answer.now in
    let left = left_of told c.bytes.result.now (arguments_left c.new-arguments.result) c.requires c.bytes.ensures c.new-arguments.ensures.values in
    first_left (arguments_left c.new-arguments.result) (arguments_left c.next.new.self) (argument_of (answer_value told)) (path_argument c.in-Some-ObjectPath.text.now) left (search rules)

pub returns-in-Some-Other : goal.returns-in-Some-Other
returns-in-Some-Other c =
    let told = c.args.answer.now in
    let left = left_of told c.bytes.result.now (arguments_left c.new-arguments.result) c.requires c.bytes.ensures c.new-arguments.ensures.values in
    first_left (arguments_left c.new-arguments.result) (arguments_left c.next.new.self) (argument_of (answer_value told)) other_argument left (search rules)

pub returns-in-None : goal.returns-in-None
returns-in-None c =
    let told = c.args.answer.now in
    let left = left_of told c.bytes.result.now (arguments_left c.new-arguments.result) c.requires c.bytes.ensures c.new-arguments.ensures.values in
    let none : arguments_left c.new-arguments.result ≡ [] = search rules in
    cc
