use Rattle.std.proofs.Common.{◌≡◌, length, drop, true, refl, sym, arith}
use Rattle.std.proofs.lemmas.Grind.{common_steps}
use Rattle.std.proofs.lemmas.Bool.Decides.{nat_tests}
use Rattle.names.specs.Elements.{elements_fault}
use Rattle.names.specs.ObjectPath.{path_style}
use Rattle.names.proofs.Faults.{none_some, path_of_elements, elements_of_path}
use Rattle.names.proofs.object_path.ObjectPath.check.Goals as goal

pub returns-in-None-clause-variant : goal.returns-in-None-clause-variant
returns-in-None-clause-variant c = (λ ok. path_of_elements c.args.text.now (grind (arith, common_steps, nat_tests)) c.if-text-ne47.false (sym c.in-None.ensures), λ is. refl)

pub returns-in-Some-clause-variant : goal.returns-in-Some-clause-variant
returns-in-Some-clause-variant c =
    let long : length c.args.text.now ≡ 1 → ⊥ = λ e. grind (arith, common_steps, nat_tests) in
    (λ ok. absurd cc, λ is. none_some (elements_fault path_style true true 1 (drop 1 c.args.text.now)) c.in-Some.fault (elements_of_path c.args.text.now long is) (sym c.in-Some.ensures))
