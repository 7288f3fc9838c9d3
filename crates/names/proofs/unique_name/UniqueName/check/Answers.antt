use Rattle.std.proofs.Common.{drop, true, false, refl, sym, arith}
use Rattle.std.proofs.lemmas.Grind.{common_steps}
use Rattle.std.proofs.lemmas.Bool.Decides.{nat_tests}
use Rattle.names.specs.Elements.{elements_fault}
use Rattle.names.specs.UniqueName.{unique_style}
use Rattle.names.proofs.Faults.{none_some, is_unique_name, elements_of_unique_name}
use Rattle.names.proofs.unique_name.UniqueName.check.Goals as goal

pub returns-in-None-clause-variant : goal.returns-in-None-clause-variant
returns-in-None-clause-variant c =
    (λ ok. is_unique_name c.args.text.now (omega (arith, c.if-text-gt255.false)) (grind (arith, common_steps, nat_tests)) c.if-text-ne58.false (sym c.in-None.ensures), λ is. refl)

pub returns-in-Some-clause-variant : goal.returns-in-Some-clause-variant
returns-in-Some-clause-variant c = (λ ok. absurd cc, λ is. none_some (elements_fault unique_style true false 1 (drop 1 c.args.text.now)) c.in-Some.fault (elements_of_unique_name c.args.text.now is) (sym c.in-Some.ensures))
