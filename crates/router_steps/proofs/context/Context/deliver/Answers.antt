use Rattle.std.proofs.Common.{option_map}
use Rattle.outbox_core.specs.Contents.{said_of}
use Rattle.router_core.specs.Events.{writing}
use Rattle.router_steps.proofs.Receiving.{after_note}
use Rattle.router_steps.proofs.context.Context.deliver.Goals as goal

pub returns-clause-comes : goal.returns-clause-comes
returns-clause-comes g c =
    after_note g.V.BusView.told g.V.BusView.registry_of g.G.Gate.passes g.V.BusView.alone c.args.self.now.world c.take_note_of.new.self.world c.write_mail.new.self.world (option_map g.V.BusView.told c.args.envelope.now.note) (writing c.args.key (said_of c.args.envelope.now.content) c.args.peer.now) c.write_mail.new.peer c.take_note_of.ensures.takes_note c.write_mail.ensures.comes
