use Rattle.std.proofs.Common.{sym, ap}
use Rattle.sasl.specs.Hearing.{Answer, answer}
use Rattle.sasl.proofs.Rows.{answers, answer_is}
use Rattle.sasl.proofs.laws.each_line_has_one_answer.Goals as goal

pub returns : goal.returns
returns c = λ s phase words. (
  (answer s phase words).0,
  (answer s phase words).1,
  answers s phase words,
  λ other state h.
      let e = sym (answer_is s phase words other state h) in
      (ap (λ (t : Answer). t.0) e, ap (λ (t : Answer). t.1) e),
)
