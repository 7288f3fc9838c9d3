use Rattle.monitor.proofs.ShownLaws.{shown_are_those_of_the_bus}
use Rattle.monitor.proofs.laws.shown_are_those_of_the_bus.Goals as goal

pub returns : goal.returns
returns c = shown_are_those_of_the_bus
