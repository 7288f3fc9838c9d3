use Rattle.std.proofs.Common.{None, sym, ap, ◌∙◌}
use Rattle.seq_bus_core.specs.Steps.{replied}
use Rattle.seq_bus_core.specs.declared.change.Change.TheVariants.{RemoveMatch}
use Rattle.seq_bus_core.specs.declared.outcome.NumberedOutcome.{NumberedOutcome}
use Rattle.registry.specs.PreparedChanges.{PreparedChange}
use Rattle.registry.proofs.MatchLemmas.{remove_told}
use Rattle.registry.proofs.registry.Registry.prepare_remove_match.Goals as goal

pub returns : goal.returns
returns c =
    let told : NumberedOutcome → PreparedChange = λ o. record { seat = c.args.seat; change = RemoveMatch c.args.connection c.args.rule.now; outcome = o; caller = None } in
    ap (λ rule. record { seat = c.args.seat; change = RemoveMatch c.args.connection rule; outcome = c.replied.result; caller = None }) c.in_ok-new.ensures.ok
    ∙ ap told (c.replied.ensures ∙ ap replied c.reply_to_remove.ensures ∙ sym (remove_told c.args.self.now c.args.seat c.args.connection c.args.rule.now))
