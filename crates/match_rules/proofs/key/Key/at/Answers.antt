use Rattle.std.proofs.Common.{◌≡◌, ◌+◌, ◌-◌, get_or, sym, subst, arith}
use Rattle.match_rules.specs.Keys.{all_keys}
use Rattle.match_rules.specs.declared.key.Key.TheVariants.{Argument, ArgumentPath, Eavesdrop}
use Rattle.match_rules.proofs.KeyLemmas.{key_again, key_past}
use Rattle.match_rules.proofs.key.Key.at.Goals as goal

pub returns-in-7-to-70 : goal.returns-in-7-to-70
returns-in-7-to-70 c =
    let h = c.in-7-to-70 in
    let place : 7 + (c.args.place - 7) ≡ c.args.place = omega arith in
    sym (subst (λ place. get_or all_keys place Eavesdrop ≡ Argument (c.args.place - 7)) place (key_again (Argument (c.args.place - 7)) (omega arith)))

pub returns-in-71-to-134 : goal.returns-in-71-to-134
returns-in-71-to-134 c =
    let h = c.in-71-to-134 in
    let place : 71 + (c.args.place - 71) ≡ c.args.place = omega arith in
    sym (subst (λ place. get_or all_keys place Eavesdrop ≡ ArgumentPath (c.args.place - 71)) place (key_again (ArgumentPath (c.args.place - 71)) (omega arith)))

pub returns-in_default : goal.returns-in_default
returns-in_default c = let h = c.in_default in sym (key_past c.args.place (omega arith))
