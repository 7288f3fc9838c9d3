use Rattle.std.proofs.Common.{ap, ◌∙◌, ◌==◌}
use Rattle.std.specs.List.{slice_split}
use Rattle.sasl.specs.Hearing.{shows_cookie, shows_parts}
use Rattle.sasl.proofs.setting.Setting.shows_cookie.Goals as goal

pub returns : goal.returns
returns c =
    let value = rw c.in-Some.is at c.in_ok-said.ensures in
    c.is_shown.ensures ∙ ap (shows_parts c.args.self.now) (c.of.ensures ∙ ap (slice_split (λ b. b == 32)) c.deref.ensures.value) ∙ ap (shows_cookie c.args.self.now) value
