use Rattle.std.proofs.Common.{◌∷◌, ℕ, ◌+◌, ◌==◌, List, take, sym, ap, ◌∙◌}
use Rattle.std.specs.List.{slice_split}
use Rattle.std.proofs.lemmas.List.{take_rest}
use Rattle.sasl.proofs.Splitting.{split_at, split_nowhere}
use Rattle.sasl.proofs.words.cut.Goals as goal

pub returns-in-Some : goal.returns-in-Some
returns-in-Some c =
    split_at (λ b. b == c.args.at) c.args.text.now c.in-Some.place (sym c.in-Some.ensures)
    ∙ ap (λ (x : List ℕ). take c.in-Some.place c.args.text.now ∷ slice_split (λ b. b == c.args.at) x) (sym (take_rest c.args.text.now (c.in-Some.place + 1)))

pub returns-in-None : goal.returns-in-None
returns-in-None c = split_nowhere (λ b. b == c.args.at) c.args.text.now (sym c.in-None.ensures)
