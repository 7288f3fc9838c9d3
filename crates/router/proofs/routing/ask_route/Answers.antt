use Rattle.std.proofs.Common.{map, ap, sym, ◌∙◌}
use Rattle.match_rules.specs.FactsView.{argument_of}
use Rattle.message_core.specs.Said.{said}
use Rattle.message.specs.FactsOf.{all_arguments}
use Rattle.router.proofs.Verdicts.{few_are_first}
use Rattle.router.proofs.routing.ask_route.Goals as goal

pub ask_with-requires : goal.ask_with-requires
ask_with-requires g c = ap (map argument_of) c.as_slice.ensures.value ∙ few_are_first c.put_arguments.new.first.items (all_arguments (said c.args.message.now)) c.put_arguments.ensures (sym c.is_full.ensures.value ∙ c.if-is_full.false)
