use Rattle.std.proofs.Common.{◌++◌, ◌-◌, ◌∙◌, IsUtf8, List, ℕ, length, ap, subst, inl}
use Rattle.std.proofs.lemmas.Result.{on_ok_weaker}
use Rattle.marshal_core.specs.Spelling.{text_spelling}
use Rattle.marshal_core.specs.declared.order.Order.TheVariants.{Little}
use Rattle.bus_view.proofs.BodyLemmas.{grown_keeps, more_listed}
use Rattle.bus_view.proofs.bodies.push_connection.Goals as goal

pub returns-clause-listed : goal.returns-clause-listed
returns-clause-listed c =
    let now = c.args.body.now.items in
    let start = c.args.start in
    let value = c.as_str.ensures.value in
    on_ok_weaker c.push_string.result
    (λ e before names at listed. more_listed before now c.push_string.new.body.items start names c.args.name.now at (inl c.as_str.ensures.name) (subst IsUtf8 value c.as_str.utf8) listed
    (e ∙ ap (λ (text : List ℕ). now ++ text_spelling Little (length now - start) text) value))
    c.push_string.ensures.ok

pub returns-clause-within : goal.returns-clause-within
returns-clause-within c = (grown_keeps c.args.start c.args.body.now.items c.push_string.new.body.items c.requires c.push_string.ensures.kept).0

pub returns-clause-kept : goal.returns-clause-kept
returns-clause-kept c = (grown_keeps c.args.start c.args.body.now.items c.push_string.new.body.items c.requires c.push_string.ensures.kept).1
