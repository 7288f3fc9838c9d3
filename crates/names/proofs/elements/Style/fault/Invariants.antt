use Rattle.std.proofs.Common.{◌≡◌, true, drop}
use Rattle.names.specs.Elements.{Style, elements_fault}
use Rattle.names.proofs.elements.Style.fault.Given as goal

abbrev pub invariant-loop-i : goal.invariant-loop-i
invariant-loop-i l = let style : Style = record { separator = l.self.separator; hyphen = l.self.hyphen; digit_first = l.self.digit_first } in elements_fault style l.begins l.enough_now l.i (drop l.i l.name) ≡ elements_fault style true l.enough l.from (drop l.from l.name)
