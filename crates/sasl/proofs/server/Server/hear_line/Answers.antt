use Rattle.std.proofs.Common.{◌≡◌, ℕ, List, ◌++◌, ap, ◌∙◌}
use Rattle.sasl.specs.Lines.{words}
use Rattle.sasl.specs.Table.{server_line_text}
use Rattle.sasl.specs.Conversations.{at, after}
use Rattle.sasl.specs.Hearing.{Answer, answer}
use Rattle.sasl.proofs.InLine.{same_speaker}
use Rattle.sasl.proofs.server.Server.hear_line.Goals as goal

pub returns-clause-ok : goal.returns-clause-ok
returns-clause-ok c =
    let s = c.self.inside.setting in
    let phase = c.self.inside.phase in
    let n = c.self.inside.rejections in
    let turn = answer s phase (words c.self.inside.line.items) in
    let is = c.in_ok-reply.ensures ∙ ap (λ (x : List ℕ). answer s phase (words x)) c.deref.ensures.value in
    let reached : at c.after-phase.result.0 c.after-phase.result.1 ≡ after turn.0 turn.1 n = c.after-phase.ensures.state ∙ ap (λ (t : Answer). after t.0 t.1 n) is in
    let sent : c.extend_from_slice.new.self.items ≡ c.args.sent.now.items ++ server_line_text s turn.0 =
    c.in_ok-extend_from_slice.ensures.items
    ∙ ap (λ (x : List ℕ). c.args.sent.now.items ++ x) (c.deref-2.ensures.value ∙ c.in_ok-text.ensures ∙ ap (λ (t : Answer). server_line_text s t.0) is) in
    rw (← c.self.view_is) (same_speaker s _ _ _ _ reached c.clear.ensures.items, sent)
