use Rattle.std.proofs.Common.{◌∷◌, ℕ, ◌+◌, ◌==◌, List, take, sym, ap, ◌∙◌}
use Rattle.std.specs.List.{slice_split}
use Rattle.std.proofs.lemmas.List.{take_rest}
use Rattle.service_files.proofs.Cutting.{split_at, split_nowhere}
use Rattle.service_files.proofs.file.cut_line.Goals as goal

pub returns-in-Some-clause-lines : goal.returns-in-Some-clause-lines
returns-in-Some-clause-lines c =
    split_at (λ b. b == 10) c.args.text.now c.in-Some.place (sym c.in-Some.ensures)
    ∙ ap (λ (x : List ℕ). take c.in-Some.place c.args.text.now ∷ slice_split (λ b. b == 10) x) (sym (take_rest c.args.text.now (c.in-Some.place + 1)))

pub returns-in-None-clause-lines : goal.returns-in-None-clause-lines
returns-in-None-clause-lines c = split_nowhere (λ b. b == 10) c.args.text.now (sym c.in-None.ensures)
