use Rattle.std.proofs.Common.{◌≤◌, length, arith}
use Rattle.std.specs.Prelude.{◌==◌}
use Rattle.std.specs.List.{position_or_len}
use Rattle.trace_words.proofs.PartLemmas.{split_there, split_whole}
use Rattle.trace_words.proofs.cutting.cut.Goals as goal

pub returns-in-Some : goal.returns-in-Some
returns-in-Some c =
    let cut = c.in-Some.ensures.byte c.requires (λ w o h. h) in
    split_there (λ b. b == c.args.separator) c.args.text.now c.in-Some.part.now c.in-Some.behind.now cut.2 cut.0 cut.1

pub returns-in-None : goal.returns-in-None
returns-in-None c =
    let none = c.in-None.ensures.byte c.requires (λ w o h. h) in
    let whole : length c.args.text.now ≤ position_or_len (λ b. b == c.args.separator) c.args.text.now = omega (arith, none) in
    split_whole (λ b. b == c.args.separator) c.args.text.now whole
