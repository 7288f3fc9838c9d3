use Rattle.std.proofs.Common.{◌≡◌, ◌∷◌, Bool, [], cond, sym, ap, subst, ◌∙◌}
use Rattle.std.specs.Prelude.{◌==◌, IfOk}
use Rattle.std.specs.List.{slice_split}
use Rattle.sasl.specs.declared.command.Command.{Command}
use Rattle.sasl.specs.Lines.{words}
use Rattle.sasl.specs.Hearing.{Answer, answer, answer_command}
use Rattle.sasl.proofs.setting.Setting.answer.Goals as goal

pub returns : goal.returns
returns c =
    let line = c.args.line.now in
    let word = c.in-Some.word.now in
    let others = c.next.new.self in
    let parts : slice_split (λ b. b == 32) line ≡ word ∷ others = sym c.of-words.ensures ∙ c.in-Some.ensures in
    let are : words line ≡ word ∷ others = ap (λ (t : Bool). cond t (slice_split (λ b. b == 32) line) []) (sym c.are_printable.ensures ∙ c.if-not-are_printable.false) ∙ parts in
    let turn : answer_command c.args.self.now c.args.phase c.of-command.result others ≡ answer c.args.self.now c.args.phase (words line) =
    ap (λ (command : Command). answer_command c.args.self.now c.args.phase command others) c.of-command.ensures ∙ ap (answer c.args.self.now c.args.phase) (sym are) in
    subst (λ (a : Answer). IfOk c.answer_command.result (λ t. t ≡ a)) turn c.answer_command.ensures
