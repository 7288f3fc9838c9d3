-- The first of a list's elements.
use Rattle.std.proofs.Common.{ℕ, ◌≡◌, ◌≤◌, true, List, [], ◌++◌, length, map, take, sym, ap, ◌∙◌, arith}
use Rattle.std.specs.Prelude.{◌==◌}
use Rattle.std.proofs.lemmas.List.{length-map, take_at, take_all, append-nil}
use Rattle.match_rules.specs.declared.facts.Argument.{Argument as Lent}
use Rattle.match_rules.specs.Facts.{Argument}
use Rattle.match_rules.specs.FactsView.{argument_of}
use Rattle.marshal_core.proofs.Results.{eqb-yes}

-- where so many elements stand there, and where there are no more
pub first_full : (count : ℕ) (lent : List Lent) (rest all : List Argument) → map argument_of lent ++ rest ≡ all → (length lent == count) ≡ true → map argument_of lent ≡ take count all
first_full count lent rest all e full =
    sym (ap (take count) (sym e) ∙ take_at (map argument_of lent) rest count (length-map lent argument_of ∙ eqb-yes (length lent) count full))

pub first_all : (count : ℕ) (lent : List Lent) (all : List Argument) → map argument_of lent ++ [] ≡ all → length lent ≤ count → map argument_of lent ≡ take count all
first_all count lent all e short =
    let whole : map argument_of lent ≡ all = sym (append-nil (map argument_of lent)) ∙ e in
    whole ∙ sym (take_all count all (omega (arith, ap length whole, length-map lent argument_of, short)))
