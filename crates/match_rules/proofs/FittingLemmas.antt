-- Lemmas on which rules fit.
use Rattle.std.proofs.Common.{◌≡◌, ◌<◌, true, false, ◌==◌, arith}
use Rattle.std.proofs.lemmas.Bool.{ne_eqb}
use Rattle.names.specs.UniqueName.{unique_text}
use Rattle.match_rules.specs.declared.key.Key.TheVariants.{Sender}
use Rattle.match_rules.specs.Facts.{Facts, bus_number}
use Rattle.match_rules.specs.Fitting.{Heads, holds}
use Rattle.match_rules.proofs.RuleLemmas.{text_eq-same}

pub own_name_holds : (heads : Heads) (facts : Facts) → 0 < facts.sender → holds heads Sender (unique_text facts.sender) facts ≡ true
own_name_holds heads facts h =
    let other : (facts.sender == bus_number) ≡ false = ne_eqb facts.sender bus_number (λ e. omega (arith, h, e)) in
    rw other (text_eq-same (unique_text facts.sender))
