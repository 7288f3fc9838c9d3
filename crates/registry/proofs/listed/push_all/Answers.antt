use Rattle.std.proofs.Common.{◌≡◌, ◌+◌, ◌<◌, ◌++◌, ◌∷◌, ◌∙◌, List, [], flat_map, length, take, append-nil, append_assoc, ap, sym, subst, refl, arith}
use Rattle.std.proofs.lemmas.List.{take_more}
use Rattle.names.specs.Texts.{Text}
use Rattle.bus_view.specs.Bodies.{AreListed}
use Rattle.registry.specs.NamesListed.{only}
use Rattle.registry.proofs.Lists.{flat_push, take_whole}
use Rattle.registry.proofs.listed.push_all.Goals as goal

pub loop-entry-init : goal.loop-entry-init
loop-entry-init g c = (c.requires, refl, λ before names at listed. subst (λ (ns : List Text). AreListed before ns c.args.body.now.items) (sym (append-nil names)) listed)

pub loop-entry-preserved : goal.loop-entry-preserved
loop-entry-preserved g c =
    let one = λ (entry : g.row.T.Denot). only (g.T.Listed.text entry) in
    let entries = c.args.entries.now in
    let i = c.loop-entry.entry-index in
    let x = c.entry-item.result in
    let lt : i < length entries = omega (arith, c.loop-entry-test.true) in
    let grown : flat_map one (take (i + 1) entries) ≡ flat_map one (take i entries) ++ one x =
    ap (flat_map one) (take_more entries i x lt) ∙ ap (λ y. flat_map one (take i entries ++ y ∷ [])) (sym c.entry-item.is) ∙ flat_push one (take i entries) x in (
      c.in_ok-push_name.ensures.within,
      c.in_ok-push_name.ensures.kept ∙ c.loop-entry.invariant.1,
      λ before names at listed. subst (λ (ns : List Text). AreListed before ns c.push_name.new.body.items)
          (append_assoc names (flat_map one (take i entries)) (one x) ∙ ap (λ (ms : List Text). names ++ ms) (sym grown))
          (c.in_ok-push_name.ensures.listed before (names ++ flat_map one (take i entries)) at (c.loop-entry.invariant.2 before names at listed)),
    )

pub returns-clause-listed : goal.returns-clause-listed
returns-clause-listed g c before names at listed =
    let one = λ (entry : g.row.T.Denot). only (g.T.Listed.text entry) in
    subst (λ es. AreListed before (names ++ flat_map one es) c.loop-entry.body.items)
    (take_whole c.args.entries.now c.loop-entry.entry-index (omega (arith, c.loop-entry-test.false))) (c.loop-entry.invariant.2 before names at listed)
