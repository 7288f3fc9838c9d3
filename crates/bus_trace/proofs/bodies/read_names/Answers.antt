use Rattle.std.proofs.Common.{◌∙◌, ◌++◌, ◌∷◌, [], Bor, List, ap, append-nil, map, sym}
use Rattle.std.proofs.lemmas.List.{map-append}
use Rattle.names.specs.Texts.{Text}
use Rattle.trace_lines.specs.TextViews.{lent_text}
use Rattle.bus_trace.proofs.Strings.{names_there, next_name, none_left}
use Rattle.bus_trace.proofs.bodies.read_names.Goals as goal

pub loop-at-init : goal.loop-at-init
loop-at-init c names is = (names, ap (λ (read : List (Bor Text)). map lent_text read ++ names) c.new-names.ensures.items, names_there names c.args.body.now is)

pub loop-at-preserved : goal.loop-at-preserved
loop-at-preserved c names is =
    let before = c.loop-at.invariant names is in
    let more = next_name c.args.body.now c.loop-at.at c.in_ok-name.next (map lent_text c.loop-at.names.items) before.0 names c.in_ok-name.name.now c.loop-at-test.true before.1 before.2 c.in_ok-name.ensures.read in
    let grown =
    ap (λ (read : List (Bor Text)). map lent_text read ++ more.0) c.in_ok-push.ensures.items
    ∙ ap (λ (texts : List Text). texts ++ more.0) (map-append lent_text c.loop-at.names.items (c.in_ok-name.name ∷ [])) in
    (more.0, grown ∙ more.1, more.2)

pub returns : goal.returns
returns c names is =
    let before = c.loop-at.invariant names is in
    let none = none_left before.0 c.loop-at.at c.args.body.now c.loop-at-test.false before.2 in
    sym (append-nil _) ∙ ap (λ (left : List Text). map lent_text c.loop-at.names.items ++ left) (sym none) ∙ before.1
