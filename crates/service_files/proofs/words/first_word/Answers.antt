use Rattle.std.proofs.Common.{◌≤◌, false, length, lit<, sym, ◌∙◌, arith}
use Rattle.std.specs.List.{position_or_len}
use Rattle.service_files.proofs.CommandWords.{is_space, word_cut, last_word}
use Rattle.service_files.proofs.words.first_word.Goals as goal

pub returns-then-not-is_empty : goal.returns-then-not-is_empty
returns-then-not-is_empty c =
    let cut = c.in-Some.ensures.byte (lit< tt) (λ w o h. h) in
    sym c.loop-word.invariant.words
    ∙ word_cut c.loop-word.rest.now c.in-Some.word.now c.in-Some.behind.now cut.2 cut.0 cut.1 (sym c.is_empty.ensures ∙ c.if-not-is_empty.true)

pub returns-else-is_empty : goal.returns-else-is_empty
returns-else-is_empty c =
    let none = c.in_default.ensures.byte (lit< tt) (λ w o h. h) in
    let whole : length c.loop-word.rest.now ≤ position_or_len is_space c.loop-word.rest.now = omega (arith, none) in
    sym c.loop-word.invariant.words ∙ last_word c.loop-word.rest.now false whole (sym c.is_empty-2.ensures ∙ c.if-is_empty.false)
